-- Statement: Document 01: "each connective is a 2 by 2 table, row by the first operand, column by the second".
use Rattle.std.specs.Prelude.{ℕ, ◌≡◌, Bool, true, false, ◌&&◌, ◌||◌, [], ◌∷◌}
use Rattle.signals.specs.Signal.{Signal, cell, connective, table_of, AND, OR}

-- rows and columns in the order down, up
abbrev pub cell_by_hand : Bool → Bool → Bool → Bool → Bool → Bool → Bool
cell_by_hand a b c d false false = a
cell_by_hand a b c d false true = b
cell_by_hand a b c d true false = c
cell_by_hand a b c d true true = d

pub record Tables : Type 0 where
  -- the cell in the row of the first operand (down, up) and the column of the second (down, up)
  pub cells : (a b c d p q : Bool) →
      cell ((a ∷ b ∷ []) ∷ (c ∷ d ∷ []) ∷ []) p q ≡ cell_by_hand a b c d p q
  -- each of the sixteen functions of two truth values is the connective of its table
  pub given : (h : Bool → Bool → Bool) (f g : Signal) (t : ℕ) → connective (table_of h) f g t ≡ h (f t) (g t)
  -- and each of the sixteen tables is that of such a function
  pub every : (a b c d : Bool) →
      table_of (cell ((a ∷ b ∷ []) ∷ (c ∷ d ∷ []) ∷ [])) ≡ ((a ∷ b ∷ []) ∷ (c ∷ d ∷ []) ∷ [])
  pub and : (f g : Signal) (t : ℕ) → AND f g t ≡ connective (table_of ◌&&◌) f g t
  pub or : (f g : Signal) (t : ℕ) → OR f g t ≡ connective (table_of ◌||◌) f g t
