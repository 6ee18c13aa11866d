-- No reader goes back.
use Prim.Native.Nat.{ℕ, zero, suc, ◌+◌, ◌≤◌}
use native.Mathlib.Omega.{arith}
use mathlib.Core.List.{List}
use lib.Dec.{leb, ltb, eqb}
use lib.ListN.{drop}
use Rattle.names.specs.Names.{digit, letter, name_byte}
use Rattle.grammar.specs.Kinds as kinds
use Rattle.grammar.specs.Reader.{State, Emission, run, next, bad, stepped, expect, put, pass_length, value_between, prefix_kind}
use Rattle.grammar.specs.Reader.{block_bytes, block_at, astray, leaf_at, timed, sum_at, sums_at, product_at, products_at, factor_at}
use Rattle.grammar.specs.Reader.{latch_at, timer_at}
use Rattle.grammar.proofs.Bytes.{by_cond}

module _ {X : Type 0} (E : Emission X) (text : List ℕ) where
  -- the place that a state has come to is not before this one
  abbrev pub From : ℕ → State X → Type 0
  From k s = k ≤ s.at

  pub put_on : (k : ℕ) (x : X) (deep ticks : ℕ) (s : State X) → From k s → From k (put x deep ticks s)
  unfolding put
  put_on k x deep ticks s h = by_cond (From k) s.ok (λ e. h) (λ e. h)

  pub expect_on : (k b : ℕ) (s : State X) → From k s → From k (expect text b s)
  unfolding expect stepped bad
  expect_on k b s h = by_cond (From k) (eqb (next text s) b) (λ e. omega arith) (λ e. h)

  pub length_on : (k : ℕ) (s : State X) → From k s → From k (pass_length text s)
  unfolding pass_length stepped bad
  length_on k s h =
      by_cond (From k) (eqb (next text s) 48) (λ e. omega arith)
      (λ e. by_cond (From k) (digit (next text s)) (λ e. omega arith) (λ e. h))

  pub leaf_on : (k deep : ℕ) (s : State X) → From k s → From k (leaf_at E text deep s)
  unfolding leaf_at astray stepped bad
  leaf_on k deep s h =
      by_cond (From k) (eqb (next text s) 48) (λ e. put_on k (E.plain kinds.DOWN) deep 0 (stepped 1 s) (omega arith))
      (λ e. by_cond (From k) (eqb (next text s) 49) (λ e. put_on k (E.plain kinds.UP) deep 0 (stepped 1 s) (omega arith))
      (λ e. by_cond (From k) (letter (next text s))
      (λ e. by_cond (From k) (leb (run name_byte (drop s.at text)) 8)
      (λ e. put_on k (E.named s.at (run name_byte (drop s.at text))) deep 0 (stepped (run name_byte (drop s.at text)) s)
      (omega arith))
      (λ e. omega arith)) (λ e. omega arith)))

  -- the readers, with so much fuel
  pub record On (n : ℕ) : Type 0 where
    pub sum : (k deep : ℕ) (s : State X) → From k s → From k (sum_at E text n deep s)
    pub sums : (k deep : ℕ) (s : State X) → From k s → From k (sums_at E text n deep s)
    pub product : (k deep : ℕ) (s : State X) → From k s → From k (product_at E text n deep s)
    pub products : (k deep : ℕ) (s : State X) → From k s → From k (products_at E text n deep s)
    pub factor : (k deep : ℕ) (s : State X) → From k s → From k (factor_at E text n deep s)
    pub latch : (k kind deep : ℕ) (s : State X) → From k s → From k (latch_at E text n kind deep s)
    pub timer : (k kind deep : ℕ) (s : State X) → From k s → From k (timer_at E text n kind deep s)

  none : On zero
  unfolding sum_at bad
  none =
      record {
        sum = λ k deep s h. h;
        sums = λ k deep s h. h;
        product = λ k deep s h. h;
        products = λ k deep s h. h;
        factor = λ k deep s h. h;
        latch = λ k kind deep s h. h;
        timer = λ k kind deep s h. h;
      }

  factor_on : (n : ℕ) → On n → (k deep : ℕ) (s : State X) → From k s → From k (factor_at E text (suc n) deep s)
  unfolding factor_at stepped
  factor_on n ih k deep s h =
      by_cond (From k) (ltb 0 (prefix_kind (next text s)))
      (λ e. put_on k (E.plain (prefix_kind (next text s))) deep 0 (factor_at E text n (deep + 1) (stepped 1 s))
      (ih.factor k (deep + 1) (stepped 1 s) (omega arith)))
      (λ e. by_cond (From k) (eqb (next text s) 40)
      (λ e. expect_on k 41 (sum_at E text n (deep + 1) (stepped 1 s)) (ih.sum k (deep + 1) (stepped 1 s) (omega arith)))
      (λ e. by_cond (From k) (ltb 0 (block_at text s))
      (λ e. by_cond (From k) (ltb (block_at text s) kinds.AND)
      (λ e. ih.timer k (block_at text s) deep (stepped (block_bytes (block_at text s)) s) (omega arith))
      (λ e. ih.latch k (block_at text s) deep (stepped (block_bytes (block_at text s)) s) (omega arith)))
      (λ e. leaf_on k deep s h)))

  more : (n : ℕ) → On n → On (suc n)
  unfolding sum_at stepped timed
  more n ih =
      record {
        sum = λ k deep s h. ih.sums k deep (product_at E text n deep s) (ih.product k deep s h);
        product = λ k deep s h. ih.products k deep (factor_at E text n deep s) (ih.factor k deep s h);
        sums = λ k deep s h.
            by_cond (From k) (eqb (next text s) 43)
            (λ e. ih.sums k deep (put (E.plain kinds.OR) deep 0 (product_at E text n deep (stepped 1 s)))
            (put_on k (E.plain kinds.OR) deep 0 (product_at E text n deep (stepped 1 s))
            (ih.product k deep (stepped 1 s) (omega arith))))
            (λ e. h);
        products = λ k deep s h.
            by_cond (From k) (eqb (next text s) 46)
            (λ e. ih.products k deep (put (E.plain kinds.AND) deep 0 (factor_at E text n deep (stepped 1 s)))
            (put_on k (E.plain kinds.AND) deep 0 (factor_at E text n deep (stepped 1 s))
            (ih.factor k deep (stepped 1 s) (omega arith))))
            (λ e. h);
        factor = factor_on n ih;
        latch = λ k kind deep s h.
            let b1 = sum_at E text n (deep + 1) s in
            let b2 = sum_at E text n (deep + 1) (expect text 44 b1) in
            put_on k (E.plain kind) deep 0 (expect text 41 b2)
            (expect_on k 41 b2 (ih.sum k (deep + 1) (expect text 44 b1) (expect_on k 44 b1 (ih.sum k (deep + 1) s h))));
        timer = λ k kind deep s h.
            let p = pass_length text s in
            let b = sum_at E text n (deep + 1) (expect text 44 p) in
            let v = value_between text s.at p.at in
            put_on k (E.timed kind v) deep (E.ticks v) (expect text 41 b)
            (expect_on k 41 b (ih.sum k (deep + 1) (expect text 44 p) (expect_on k 44 p (length_on k s h))));
      }

  pub on : (n : ℕ) → On n
  on zero = none
  on (suc n) = more n (on n)
