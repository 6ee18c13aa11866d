-- Connectives and tables are the same thing.
use Prim.Native.Nat.{ℕ}
use mathlib.Core.Path.{◌≡◌, refl}
use mathlib.Core.Bool.{Bool, true, false, ◌&&◌, ◌||◌}
use mathlib.Core.List.{[], ◌∷◌}
use Rattle.signals.specs.Signal.{Signal, cell, connective, table_of, AND, OR}
use Rattle.signals.specs.Tables.{Tables, cell_by_hand}

pub cell_by_hand_lem : (a b c d p q : Bool) → cell ((a ∷ b ∷ []) ∷ (c ∷ d ∷ []) ∷ []) p q ≡ cell_by_hand a b c d p q
unfolding cell
cell_by_hand_lem a b c d false false = refl
cell_by_hand_lem a b c d false true = refl
cell_by_hand_lem a b c d true false = refl
cell_by_hand_lem a b c d true true = refl

pub cell_of : (h : Bool → Bool → Bool) (p q : Bool) → cell (table_of h) p q ≡ h p q
unfolding cell
cell_of h false false = refl
cell_of h false true = refl
cell_of h true false = refl
cell_of h true true = refl

pub connective_given : (h : Bool → Bool → Bool) (f g : Signal) (t : ℕ) → connective (table_of h) f g t ≡ h (f t) (g t)
unfolding connective
connective_given h f g t = cell_of h (f t) (g t)

pub AND_connective : (f g : Signal) (t : ℕ) → AND f g t ≡ connective (table_of ◌&&◌) f g t
unfolding AND connective
AND_connective f g t = rw (cell_of ◌&&◌ (f t) (g t)) refl

pub OR_connective : (f g : Signal) (t : ℕ) → OR f g t ≡ connective (table_of ◌||◌) f g t
unfolding OR connective
OR_connective f g t = rw (cell_of ◌||◌ (f t) (g t)) refl

every_table : (a b c d : Bool) → table_of (cell ((a ∷ b ∷ []) ∷ (c ∷ d ∷ []) ∷ [])) ≡ ((a ∷ b ∷ []) ∷ (c ∷ d ∷ []) ∷ [])
unfolding cell
every_table a b c d = refl

pub tables : Tables
tables =
    record {
      cells = cell_by_hand_lem;
      given = connective_given;
      every = every_table;
      and = AND_connective;
      or = OR_connective;
    }
