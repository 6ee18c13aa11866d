-- One turn of a loop over bytes: a list from a place on, and the bytes before and after a stop byte from there.
use Prim.Native.Nat.{ℕ, suc, ◌+◌, ◌-◌, ◌≤◌}
use native.Mathlib.Numerals.{add-one}
use native.Mathlib.Omega.{arith}
use mathlib.Core.Path.{◌≡◌, refl, sym, ap, ◌∙◌}
use mathlib.Core.Bool.{Bool, true, false, cond}
use mathlib.Core.List.{List, [], ◌∷◌}
use lib.Dec.{eqb}
use lib.ListN.{length, take, drop, drop_of_length-le, length-drop}
use lib.Seq.{take_all}
use Rattle.std.specs.List.{slice_range}
use Rattle.slices.specs.Slices.{before, past}

pub drop_end : (l : List ℕ) (i : ℕ) → length l ≤ i → drop i l ≡ []
drop_end l i h = drop_of_length-le l {i = i} h

-- a part from a place to the end
pub part_rest : (l : List ℕ) (a : ℕ) → take (length l - a) (drop a l) ≡ drop a l
part_rest l a = take_all (length l - a) (drop a l) (rw length-drop (omega arith))

pub before_within : (stop : ℕ) (s : List ℕ) → length (before stop s) ≤ length s
unfolding before
before_within stop [] = omega arith
before_within stop (b ∷ bs) = go (eqb b stop) (before_within stop bs)
  where
    go : (t : Bool) → length (before stop bs) ≤ length bs → length (cond t [] (b ∷ before stop bs)) ≤ suc (length bs)
    go true h = omega arith
    go false h = omega arith

pub take_before : (stop : ℕ) (s : List ℕ) → take (length (before stop s)) s ≡ before stop s
unfolding before
take_before stop [] = refl
take_before stop (b ∷ bs) = go (eqb b stop) (take_before stop bs)
  where
    go : (t : Bool) → take (length (before stop bs)) bs ≡ before stop bs
        → take (length (cond t [] (b ∷ before stop bs))) (b ∷ bs) ≡ cond t [] (b ∷ before stop bs)
    go true h = refl
    go false h = ap (λ (l : List ℕ). b ∷ l) h

-- the bytes past the stop byte, whether there is one or not
drop_past : (stop : ℕ) (s : List ℕ) → drop (suc (length (before stop s))) s ≡ past stop s
unfolding before past
drop_past stop [] = refl
drop_past stop (b ∷ bs) = go (eqb b stop) (drop_past stop bs)
  where
    go : (t : Bool) → drop (suc (length (before stop bs))) bs ≡ past stop bs
        → drop (length (cond t [] (b ∷ before stop bs))) bs ≡ cond t bs (past stop bs)
    go true h = refl
    go false h = h

pub past_rest : (stop : ℕ) (s : List ℕ) (n : ℕ) → n ≡ length (before stop s) → slice_range s (n + 1) (length s) ≡ past stop s
past_rest stop s n e = part_rest s (n + 1) ∙ rw (add-one n, e) (drop_past stop s)

pub past_end : (stop : ℕ) (s : List ℕ) → length s ≤ length (before stop s) → past stop s ≡ []
past_end stop s h = sym (drop_past stop s) ∙ drop_end s (suc (length (before stop s))) (omega arith)
