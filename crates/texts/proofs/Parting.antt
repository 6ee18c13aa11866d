-- A number's digits end before a byte that is no digit, so a text tells the number that it begins with and what follows it.
use Prim.Native.Nat.{ℕ, ◌^◌, ◌≤◌, ◌<◌}
use native.Mathlib.Omega.{arith}
use mathlib.Core.Path.{◌≡◌, refl, sym, ap, ◌∙◌}
use mathlib.Core.Bool.{true}
use mathlib.Core.List.{List, [], ◌∷◌, ◌++◌}
use lib.Dec.{leb}
use lib.ListN.{get_or}
use borrow.Author.Tests.{eq-eqb, ne_eqb, leb-true}
use Rattle.slices.specs.Slices.{before, past}
use Rattle.signals.proofs.Truth.{true_false, and_left, and_right, and_of}
use Rattle.names.specs.Names.{digit, all_of}
use Rattle.texts.specs.Lengths.{is_length, value}
use Rattle.texts.specs.Decimal.{decimal}
use Rattle.texts.proofs.DecimalRight.{decimal_right}

digits : (w : List ℕ) → is_length w ≡ true → all_of digit w ≡ true
unfolding is_length all_of
digits [] e = true_false (sym e)
digits (b ∷ bs) e = and_of _ _ (and_left (digit b) _ e) (and_left (all_of digit bs) _ (and_right (digit b) _ e))

bounds : (b : ℕ) → digit b ≡ true → (48 ≤ b) × (b ≤ 57)
unfolding digit
bounds b e = (leb-true 48 b (and_left (leb 48 b) (leb b 57) e), leb-true b 57 (and_right (leb 48 b) (leb b 57) e))

-- digits up to a byte that is none
module _ (stop : ℕ) (low : stop < 48) where
  parted : (w rest : List ℕ) → all_of digit w ≡ true → (before stop (w ++ (stop ∷ rest)) ≡ w) × (past stop (w ++ (stop ∷ rest)) ≡ rest)
  unfolding all_of before past
  parted [] rest e = (rw (eq-eqb stop stop refl), rw (eq-eqb stop stop refl))
  parted (b ∷ w) rest e =
      let more = parted w rest (and_right (digit b) (all_of digit w) e) in
      let other = ne_eqb b stop (λ z. omega (arith, z, low, (bounds b (and_left (digit b) (all_of digit w) e)).0)) in
      (rw other (ap (λ (l : List ℕ). b ∷ l) more.0), rw other more.1)

  pub same_number : (j k : ℕ) (x y : List ℕ) → j < 2 ^ 32 → k < 2 ^ 32 → decimal j ++ (stop ∷ x) ≡ decimal k ++ (stop ∷ y)
      → (j ≡ k) × (x ≡ y)
  same_number j k x y a b e =
      let p = parted (decimal j) x (digits (decimal j) (decimal_right.well_formed j (omega arith))) in
      let q = parted (decimal k) y (digits (decimal k) (decimal_right.well_formed k (omega arith))) in
      let d : decimal j ≡ decimal k = sym p.0 ∙ ap (before stop) e ∙ q.0 in (
        sym (decimal_right.writes j (omega arith)) ∙ ap value d ∙ decimal_right.writes k (omega arith),
        sym p.1 ∙ ap (past stop) e ∙ q.1,
      )

pub first_digit : (k : ℕ) (rest : List ℕ) → k < 2 ^ 32 → get_or (decimal k ++ rest) 0 0 ≤ 57
unfolding is_length
first_digit k rest h = go (decimal k) (decimal_right.well_formed k (omega arith))
  where
    go : (w : List ℕ) → is_length w ≡ true → get_or (w ++ rest) 0 0 ≤ 57
    go [] e = true_false (sym e)
    go (b ∷ w) e = (bounds b (and_left (digit b) _ e)).1
