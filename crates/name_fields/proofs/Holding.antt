-- The tests of names and name fields in std's words.
use Prim.Native.Nat.{ℕ, suc, ◌+◌}
use native.Mathlib.Omega.{arith}
use native.Mathlib.Numerals.{add-one}
use native.Mathlib.Nat.{add_comm}
use mathlib.Core.Path.{◌≡◌, refl, ap, ◌∙◌}
use mathlib.Core.Bool.{Bool, true, false, cond, not, ◌&&◌}
use mathlib.Core.List.{List, [], ◌∷◌}
use lib.Dec.{eqb}
use lib.ListN.{length, get_or, take}
use Rattle.std.specs.List.{list_all, list_any, slice_range, starts_with, take_while, zip, prefix_len}
use Rattle.slices.proofs.Steps.{part_rest}
use Rattle.slices.specs.Slices.{before}
use Rattle.names.specs.Names.{well_named}
use Rattle.format.specs.Names.{same, zeros, unpadded, field_fits}

-- two byte strings are alike where they are as long and share all bytes
pub same_counted : (a b : List ℕ)
    → same a b ≡ (eqb (length a) (length b) && eqb (length (take_while (λ x. eqb x.0 x.1) (zip a b))) (length a))
unfolding same
same_counted [] [] = refl
same_counted [] (y ∷ b) = grind arith
same_counted (x ∷ a) [] = grind arith
same_counted (x ∷ a) (y ∷ b) = go (eqb x y) (same_counted a b)
  where
    go : (z : Bool) → same a b ≡ (eqb (length a) (length b) && eqb (length (take_while (λ x. eqb x.0 x.1) (zip a b))) (length a)) →
        (z && same a b)
        ≡ (eqb (suc (length a)) (suc (length b))
        && eqb (length (take (cond z (1 + prefix_len (λ x. eqb x.0 x.1) (zip a b)) 0) ((x, y) ∷ zip a b))) (suc (length a)))
    go true e = rw (add_comm 1 (prefix_len (λ x. eqb x.0 x.1) (zip a b)), add-one) (grind (arith, e))
    go false e = grind arith

pub zeros_is : (s : List ℕ) → list_all (λ b. eqb b 0) s ≡ zeros s
unfolding zeros
zeros_is [] = refl
zeros_is (b ∷ s) = ap (λ (t : Bool). eqb b 0 && t) (zeros_is s)

-- it begins with a name where all the name's bytes are shared
begins_is : (f n : List ℕ) → starts_with eqb f n ≡ eqb (length (take_while (λ x. eqb x.0 x.1) (zip n f))) (length n)
begins_is [] [] = refl
begins_is (x ∷ f) [] = refl
begins_is [] (y ∷ n) = grind arith
begins_is (x ∷ f) (y ∷ n) = go (eqb y x) (begins_is f n)
  where
    go : (z : Bool) → starts_with eqb f n ≡ eqb (length (take_while (λ x. eqb x.0 x.1) (zip n f))) (length n) →
        (z && starts_with eqb f n)
        ≡ eqb (length (take (cond z (1 + prefix_len (λ x. eqb x.0 x.1) (zip n f)) 0) ((y, x) ∷ zip n f))) (suc (length n))
    go true e = rw (add_comm 1 (prefix_len (λ x. eqb x.0 x.1) (zip n f)), add-one) (grind (arith, e))
    go false e = grind arith

-- a field holds a name: it begins with the name, which has no zero byte, and then ends or has one
pub holds_is : (f n : List ℕ)
    → same (unpadded f) n ≡ (starts_with eqb f n && (eqb (get_or f (length n) 0) 0 && not (list_any (λ y. eqb y 0) n)))
unfolding same before
holds_is [] [] = refl
holds_is [] (y ∷ n) = refl
holds_is (x ∷ f) [] = go (eqb x 0)
  where
    go : (t : Bool) → same (cond t [] (x ∷ before 0 f)) [] ≡ (t && true)
    go true = refl
    go false = refl
holds_is (x ∷ f) (y ∷ n) = grind (arith, holds_is f n)

-- which is tested byte by byte
pub holds_counted : (f n : List ℕ)
    → same (unpadded f) n
    ≡ (eqb (length (take_while (λ x. eqb x.0 x.1) (zip n f))) (length n)
    && (eqb (get_or f (length n) 0) 0 && not (list_any (λ y. eqb y 0) n)))
holds_counted f n =
    holds_is f n
    ∙ ap (λ (t : Bool). t && (eqb (get_or f (length n) 0) 0 && not (list_any (λ y. eqb y 0) n))) (begins_is f n)

pub fits_is : (f : List ℕ) → field_fits f ≡ (well_named (unpadded f) && zeros (slice_range f (length (unpadded f)) (length f)))
unfolding field_fits
fits_is f = rw (part_rest f (length (unpadded f)))
