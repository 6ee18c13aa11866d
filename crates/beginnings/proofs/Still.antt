-- Readers leave a state that all is not well with as it is.
use Prim.Native.Nat.{ℕ, zero, suc, ◌<◌}
use native.Mathlib.Nat.{add-zero}
use native.Mathlib.Omega.{arith}
use mathlib.Core.Path.{◌≡◌, refl, sym, ap, ◌∙◌}
use mathlib.Core.Bool.{false}
use mathlib.Core.List.{List}
use lib.Dec.{eqb}
use borrow.Author.Tests.{ne_eqb}
use Rattle.names.specs.Names.{letter}
use Rattle.grammar.specs.Code.{Part}
use Rattle.grammar.specs.Reader.{State, next, bad, stepped, expect, put, prefix_kind, block_at, astray, leaf_at}
use Rattle.grammar.specs.Reader.{sum_at, sums_at, product_at, products_at, factor_at}
use Rattle.grammar.specs.Formula.{spelled}
use Rattle.grammar.proofs.Standing.{state_eq}
use Rattle.grammar.proofs.Branches.{Chain, plus, times}
use Rattle.grammar.proofs.Found.{bad_next}

abbrev pub Still : (State Part → State Part) → Type 0
Still R = (s : State Part) → s.ok ≡ false → R s ≡ s

pub still_then : (R Q : State Part → State Part) → Still R → Still Q → Still (λ (s : State Part). R (Q s))
still_then R Q r q s e = ap R (q s e) ∙ r s e

pub bad_still : Still bad
unfolding bad
bad_still s e = state_eq (sym e) refl refl refl refl

pub put_still : (x : Part) (deep ticks : ℕ) → Still (put x deep ticks)
unfolding put
put_still x deep ticks s e = rw e refl

module _ (text : List ℕ) where
  pub expect_still : (b : ℕ) → 0 < b → Still (expect text b)
  unfolding expect
  expect_still b pos s e = rw (ne_eqb (next text s) b (λ q. let z = bad_next text s e in omega arith)) (bad_still s e)

  pub leaf_still : (deep : ℕ) → Still (leaf_at (spelled text) text deep)
  unfolding leaf_at astray bad stepped letter
  leaf_still deep s e = rw (bad_next text s e, e) (state_eq refl (add-zero s.at) refl refl refl)

  no_block : (s : State Part) → s.ok ≡ false → block_at text s ≡ 0
  unfolding block_at
  no_block s e = rw e refl

  pub factor_still : (n deep : ℕ) → Still (factor_at (spelled text) text n deep)
  unfolding factor_at prefix_kind
  factor_still zero deep s e = bad_still s e
  factor_still (suc n) deep s e = rw (bad_next text s e, no_block s e) (leaf_still deep s e)

  pub rest_still : {deep byte kind level : ℕ} {operand rest whole : ℕ → State Part → State Part} →
      Chain (spelled text) text deep byte kind level operand rest whole → (n : ℕ) → Still (rest n)
  rest_still C zero s e = C.stops s ∙ bad_still s e
  rest_still {byte = byte} C (suc n) s e =
      let other : eqb (next text s) byte ≡ false = ne_eqb (next text s) byte (λ q. let z = bad_next text s e in omega (arith, C.some)) in
      C.goes_on n s ∙ rw other refl

  pub product_still : (n deep : ℕ) → Still (product_at (spelled text) text n deep)
  unfolding product_at
  product_still zero deep s e = bad_still s e
  product_still (suc n) deep s e = ap (products_at (spelled text) text n deep) (factor_still n deep s e) ∙ rest_still times n s e

  pub sum_still : (n deep : ℕ) → Still (sum_at (spelled text) text n deep)
  unfolding sum_at
  sum_still zero deep s e = bad_still s e
  sum_still (suc n) deep s e = ap (sums_at (spelled text) text n deep) (product_still n deep s e) ∙ rest_still plus n s e
