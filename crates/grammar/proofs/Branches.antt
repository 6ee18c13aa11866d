-- What the computing reader does by the byte that is next, whatever it puts out.
use Prim.Native.Nat.{ℕ, zero, suc, ◌≤◌, ◌<◌}
use native.Mathlib.Omega.{arith}
use mathlib.Core.Path.{◌≡◌, refl}
use mathlib.Core.Bool.{false, cond}
use mathlib.Core.List.{List}
use lib.Dec.{eqb}
use borrow.Author.Tests.{lt-ltb, le-ltb}
use Rattle.grammar.specs.Kinds as kinds
use Rattle.grammar.specs.Reader.{State, Emission, next, bad, stepped, put, prefix_kind, block_bytes, block_at, sum_at, sums_at}
use Rattle.grammar.specs.Reader.{product_at, products_at, factor_at, latch_at, timer_at}

-- a chain of operands: its operator's byte and kind, the level of an operand's reader, and the readers of an operand, of the rest after it
-- and of the whole
pub record Chain {X : Type 0} (E : Emission X) (text : List ℕ) (deep byte kind level : ℕ) (operand rest whole : ℕ → State X →
    State X) : Type 0 where
  pub some : 0 < byte
  pub above : 1 ≤ level
  pub below : level < 5
  pub begins : (n : ℕ) (s : State X) → whole (suc n) s ≡ rest n (operand n s)
  pub goes_on : (n : ℕ) (s : State X) →
      rest (suc n) s ≡ cond (eqb (next text s) byte) (rest n (put (E.plain kind) deep 0 (operand n (stepped 1 s)))) s
  pub stops : (s : State X) → rest zero s ≡ bad s

module _ {X : Type 0} {E : Emission X} {text : List ℕ} {deep : ℕ} where
  -- + of products, . of factors
  pub plus : Chain E text deep 43 kinds.OR 3 (λ n. product_at E text n deep) (λ n. sums_at E text n deep) (λ n. sum_at E text n deep)
  unfolding sum_at sums_at
  plus = record {
    some = omega arith;
    above = omega arith;
    below = omega arith;
    begins = λ n s. refl;
    goes_on = λ n s. refl;
    stops = λ s. refl;
  }

  pub times : Chain E text deep 46 kinds.AND 2 (λ n. factor_at E text n deep) (λ n. products_at E text n deep)
      (λ n. product_at E text n deep)
  unfolding product_at products_at
  times = record {
    some = omega arith;
    above = omega arith;
    below = omega arith;
    begins = λ n s. refl;
    goes_on = λ n s. refl;
    stops = λ s. refl;
  }

-- a block of the kind is next
pub record BlockNext {X : Type 0} (text : List ℕ) (s : State X) (kind : ℕ) : Type 0 where
  pub no_prefix : prefix_kind (next text s) ≡ 0
  pub no_bracket : eqb (next text s) 40 ≡ false
  pub here : block_at text s ≡ kind
  pub some : 0 < kind

module _ {X : Type 0} (E : Emission X) {text : List ℕ} (deep n : ℕ) {s : State X} {kind : ℕ} (b : BlockNext text s kind) where
  pub latch_is : kinds.AND ≤ kind → factor_at E text (suc n) deep s ≡ latch_at E text n kind deep (stepped (block_bytes kind) s)
  unfolding factor_at
  latch_is h = rw (b.no_prefix, b.no_bracket, b.here, lt-ltb 0 kind b.some, le-ltb kind kinds.AND h) refl

  pub timer_is : kind < kinds.AND → factor_at E text (suc n) deep s ≡ timer_at E text n kind deep (stepped (block_bytes kind) s)
  unfolding factor_at
  timer_is h = rw (b.no_prefix, b.no_bracket, b.here, lt-ltb 0 kind b.some, lt-ltb kind kinds.AND h) refl
