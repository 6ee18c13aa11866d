-- Placing names in the first code words one by one.
use Prim.Native.Nat.{ℕ, zero, suc, ◌+◌, ◌<◌}
use native.Mathlib.Omega.{arith}
use native.Mathlib.Numerals.{add-one}
use mathlib.Core.Path.{◌≡◌, refl, sym, ◌∙◌, ap}
use mathlib.Core.Bool.{Bool, true, ◌&&◌, and_assoc, and-true}
use mathlib.Core.List.{List, [], ◌∷◌, ◌++◌, map}
use lib.ListN.{length, take, drop, get_or, set}
use Rattle.machine.specs.Machine.{word_found, all_found}

-- the first i changed by f
abbrev pub front : (ℕ → ℕ) → List ℕ → ℕ → List ℕ
front f l i = map f (take i l) ++ drop i l

pub front_get : (f : ℕ → ℕ) (l : List ℕ) (i : ℕ) → i < length l → get_or (front f l i) i 0 ≡ get_or l i 0
front_get f [] i h = absurd (omega arith)
front_get f (x ∷ l) zero h = refl
front_get f (x ∷ l) (suc i) h = front_get f l i (omega arith)

pub front_set : (f : ℕ → ℕ) (l : List ℕ) (i : ℕ) → i < length l → set (front f l i) i (f (get_or l i 0)) ≡ front f l (suc i)
front_set f [] i h = absurd (omega arith)
front_set f (x ∷ l) zero h = refl
front_set f (x ∷ l) (suc i) h = ap (◌∷◌ (f x)) (front_set f l i (omega arith))

pub none_before : true ≡ all_found []
unfolding all_found
none_before = refl

pub found_next : (f : ℕ → ℕ) (l : List ℕ) (i : ℕ) → i < length l
    → (all_found (map f (take i l)) && word_found (f (get_or l i 0))) ≡ all_found (map f (take (suc i) l))
unfolding all_found
found_next f [] i h = absurd (omega arith)
found_next f (x ∷ l) zero h = sym (and-true (word_found (f x)))
found_next f (x ∷ l) (suc i) h =
    and_assoc (word_found (f x)) (all_found (map f (take i l))) (word_found (f (get_or l i 0)))
    ∙ ap (λ b. word_found (f x) && b) (found_next f l i (omega arith))

-- one turn, as the code makes it
module _ (f : ℕ → ℕ) (l codes : List ℕ) (all : Bool) (i : ℕ) (e : codes ≡ front f l i) (a : all ≡ all_found (map f (take i l)))
    (h : i < length l) (word : ℕ) (w : word ≡ f (get_or codes i 0)) where
  read : word ≡ f (get_or l i 0)
  read = w ∙ ap (λ c. f (get_or c i 0)) e ∙ ap f (front_get f l i h)

  pub turn_codes : set codes i word ≡ front f l (i + 1)
  turn_codes = rw (e, read, add-one) (front_set f l i h)

  pub turn_all : (next : Bool) → next ≡ (all && word_found word) → next ≡ all_found (map f (take (i + 1) l))
  turn_all next n = n ∙ rw (a, read, add-one) (found_next f l i h)
