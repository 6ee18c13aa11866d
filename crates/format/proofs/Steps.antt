-- A name within its field; byte strings that are alike are the same.
use Prim.Native.Nat.{ℕ, ◌≤◌}
use mathlib.Core.Path.{◌≡◌, refl, sym, ap}
use mathlib.Core.Bool.{true}
use mathlib.Core.List.{List, [], ◌∷◌}
use lib.Dec.{eqb}
use lib.ListN.{length, take}
use borrow.Author.Tests.{eq-eqb, eqb-true}
use Rattle.slices.proofs.Steps.{before_within, take_before}
use Rattle.signals.proofs.Truth.{true_false, and_left, and_right}
use Rattle.format.specs.Names.{same, unpadded}

pub unpadded_within : (f : List ℕ) → length (unpadded f) ≤ length f
unpadded_within f = before_within 0 f

pub take_unpadded : (f : List ℕ) → take (length (unpadded f)) f ≡ unpadded f
take_unpadded f = take_before 0 f

pub same_equal : (a b : List ℕ) → same a b ≡ true → a ≡ b
unfolding same
same_equal [] [] h = refl
same_equal [] (y ∷ ys) h = true_false (sym h)
same_equal (x ∷ xs) [] h = true_false (sym h)
same_equal (x ∷ xs) (y ∷ ys) h =
    rw (eqb-true x y (and_left (eqb x y) (same xs ys) h))
    (ap (λ (l : List ℕ). y ∷ l) (same_equal xs ys (and_right (eqb x y) (same xs ys) h)))

pub same_refl : (a : List ℕ) → same a a ≡ true
unfolding same
same_refl [] = refl
same_refl (x ∷ xs) = rw (eq-eqb x x refl) (same_refl xs)
