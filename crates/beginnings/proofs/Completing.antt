-- Whatever the text, the bytes up to where reading stops can be completed to a formula.
use Prim.Native.Nat.{ℕ, zero, suc, ◌+◌, ◌*◌, ◌≤◌}
use native.Mathlib.Omega.{arith}
use mathlib.Core.Path.{◌≡◌, refl, sym, ap, ◌∙◌, subst}
use mathlib.Core.Bool.{true, cond}
use mathlib.Core.List.{List, [], ◌∷◌, ◌++◌, append-nil}
use lib.Dec.{ltb, eqb}
use lib.ListN.{length, take, drop, length-append}
use lib.Seq.{take-append_seam}
use borrow.Author.Tests.{eqb-true}
use Rattle.grammar.specs.Code.{Part}
use Rattle.grammar.specs.Grammar.{Sum, Product, Factor}
use Rattle.grammar.specs.Kinds as kinds
use Rattle.grammar.specs.Reader.{State, next, stepped, expect, put, pass_length, value_between, prefix_kind, starts, block_bytes, block_at}
use Rattle.grammar.specs.Reader.{timed, sum_at, sums_at, product_at, products_at, factor_at, latch_at, timer_at, start, read_text}
use Rattle.grammar.specs.Formula.{spelled, stop_of}
use Rattle.grammar.specs.PartWords.{plain_part, timed_part}
use Rattle.grammar.proofs.Bytes.{never, by_cond, by_block}
use Rattle.grammar.proofs.Branches.{plus, times}
use Rattle.grammar.proofs.Found.{Block}
use Rattle.beginnings.specs.Beginnings.{Begins}
use Rattle.beginnings.proofs.Still.{put_still, expect_still}
use Rattle.beginnings.proofs.Begun.{step_fine, Between, nothing_between, byte_between, between_put}
use Rattle.beginnings.proofs.Begun.{Begun, done, broken, part_then, byte_then}
use Rattle.beginnings.proofs.Rules.{Some, product_sum, factor_product, plus_sum, dot_product, zero_factor, zero_product, zero_sum}
use Rattle.beginnings.proofs.Rules.{prefix_factor, brackets_factor, Length, Word, sr_word, rs_word, ton_word, tof_word, tp_word}
use Rattle.beginnings.proofs.Astray.{leaf_begun}
use Rattle.beginnings.proofs.Chains.{whole_step, rest_step}
use Rattle.beginnings.proofs.Blocks.{block_step, length_begun, word_begun}

module _ (text : List ℕ) where
  -- what the readers pass begins what they read, with so much fuel
  record Completes (n : ℕ) : Type 0 where
    sum : (deep : ℕ) (s : State Part) → s.ok ≡ true → Begun text (Some Sum) s (sum_at (spelled text) text n deep s)
    sums : (deep : ℕ) (s i : State Part) (w : List ℕ) → Some Sum w → Between text s i w →
        Begun text (Some Sum) s (sums_at (spelled text) text n deep i)
    product : (deep : ℕ) (s : State Part) → s.ok ≡ true → Begun text (Some Product) s (product_at (spelled text) text n deep s)
    products : (deep : ℕ) (s i : State Part) (w : List ℕ) → Some Product w → Between text s i w →
        Begun text (Some Product) s (products_at (spelled text) text n deep i)
    factor : (deep : ℕ) (s : State Part) → s.ok ≡ true → Begun text (Some Factor) s (factor_at (spelled text) text n deep s)
    latch : (word : List ℕ) → Word (Some Sum) word → (kind deep : ℕ) (s : State Part) → s.ok ≡ true →
        Begun text (λ (x : List ℕ). Some Factor (word ++ x)) s (latch_at (spelled text) text n kind deep s)
    timer : (word : List ℕ) → Word Length word → (kind deep : ℕ) (s : State Part) → s.ok ≡ true →
        Begun text (λ (x : List ℕ). Some Factor (word ++ x)) s (timer_at (spelled text) text n kind deep s)

  none : Completes zero
  unfolding sum_at
  none =
      record {
        sum = λ deep s e. broken text (Some Sum) (nothing_between text s e) (48 ∷ []) zero_sum;
        sums = λ deep s i w x p. broken text (Some Sum) p [] (rw (append-nil w) x);
        product = λ deep s e. broken text (Some Product) (nothing_between text s e) (48 ∷ []) zero_product;
        products = λ deep s i w x p. broken text (Some Product) p [] (rw (append-nil w) x);
        factor = λ deep s e. broken text (Some Factor) (nothing_between text s e) (48 ∷ []) zero_factor;
        latch = λ word c kind deep s e. broken text (λ (x : List ℕ). Some Factor (word ++ x)) (nothing_between text s e)
            (Block (48 ∷ []) (48 ∷ [])) (c.makes (48 ∷ []) (48 ∷ []) c.zero zero_sum);
        timer = λ word c kind deep s e. broken text (λ (x : List ℕ). Some Factor (word ++ x)) (nothing_between text s e)
            (Block (48 ∷ []) (48 ∷ [])) (c.makes (48 ∷ []) (48 ∷ []) c.zero zero_sum);
      }

  -- ! ^ ~
  prefix_step : (n : ℕ) → Completes n → (deep : ℕ) (s : State Part) → ltb 0 (prefix_kind (next text s)) ≡ true →
      Begun text (Some Factor) s
      (put (plain_part (prefix_kind (next text s))) deep 0 (factor_at (spelled text) text n (deep + 1) (stepped 1 s)))
  prefix_step n ih deep s e =
      let c = prefix_factor (next text s) e in
      let x = plain_part (prefix_kind (next text s)) in
      let p = byte_between text s (next text s) refl c.0 in
      part_then text (Some Factor) (put x deep 0) (put_still x deep 0) (Some Factor) p
      (ih.factor (deep + 1) (stepped 1 s) (step_fine 1 s p.here.fine)) [] (λ w f. rw (append-nil w) (c.1 w f))
      (λ w f h q. done text (Some Factor) (between_put text x deep 0 q) (c.1 w f))

  brackets_step : (n : ℕ) → Completes n → (deep : ℕ) (s : State Part) → next text s ≡ 40 →
      Begun text (Some Factor) s (expect text 41 (sum_at (spelled text) text n (deep + 1) (stepped 1 s)))
  brackets_step n ih deep s e =
      let p = byte_between text s 40 e (omega arith) in
      part_then text (Some Factor) (expect text 41) (expect_still text 41 (omega arith)) (Some Sum) p
      (ih.sum (deep + 1) (stepped 1 s) (step_fine 1 s p.here.fine)) (41 ∷ []) brackets_factor
      (λ w f h q. byte_then text (Some Factor) (λ (i : State Part). i) (λ i h. refl) 41 (omega arith) q (41 ∷ []) (brackets_factor w f)
      (λ h q. done text (Some Factor) q (brackets_factor w f)))

  -- what is passed after the word of a block of the kind
  abbrev BlockBegun : ℕ → ℕ → State Part → ℕ → Type 0
  BlockBegun n deep s kind =
      ltb 0 kind ≡ true →
      Begun text (Some Factor) s
      (cond (ltb kind kinds.AND) (timer_at (spelled text) text n kind deep (stepped (block_bytes kind) s))
      (latch_at (spelled text) text n kind deep (stepped (block_bytes kind) s)))

  word_step : (n : ℕ) → Completes n → (deep : ℕ) (s : State Part) → s.ok ≡ true → BlockBegun n deep s (block_at text s)
  unfolding block_at block_bytes
  word_step n ih deep s fine =
      by_cond (BlockBegun n deep s) s.ok
      (λ e. by_block (BlockBegun n deep s) (drop s.at text) (latch sr_word kinds.SR) (latch rs_word kinds.RS)
      (timer ton_word kinds.TON) (timer tof_word kinds.TOF) (timer tp_word kinds.TP) (λ pos. never pos))
      (λ e pos. never pos)
    where
      latch : {word : List ℕ} → Word (Some Sum) word → (kind : ℕ) → starts word (drop s.at text) ≡ true → ltb 0 kind ≡ true →
          Begun text (Some Factor) s (latch_at (spelled text) text n kind deep (stepped (length word) s))
      latch {word} c kind e pos =
          word_begun text word c s (latch_at (spelled text) text n kind deep (stepped (length word) s)) fine e
          (ih.latch word c kind deep (stepped (length word) s) (step_fine (length word) s fine))

      timer : {word : List ℕ} → Word Length word → (kind : ℕ) → starts word (drop s.at text) ≡ true → ltb 0 kind ≡ true →
          Begun text (Some Factor) s (timer_at (spelled text) text n kind deep (stepped (length word) s))
      timer {word} c kind e pos =
          word_begun text word c s (timer_at (spelled text) text n kind deep (stepped (length word) s)) fine e
          (ih.timer word c kind deep (stepped (length word) s) (step_fine (length word) s fine))

  factor_step : (n : ℕ) → Completes n → (deep : ℕ) (s : State Part) → s.ok ≡ true →
      Begun text (Some Factor) s (factor_at (spelled text) text (suc n) deep s)
  unfolding factor_at
  factor_step n ih deep s fine =
      by_cond (Begun text (Some Factor) s) (ltb 0 (prefix_kind (next text s))) (prefix_step n ih deep s)
      (λ e. by_cond (Begun text (Some Factor) s) (eqb (next text s) 40) (λ e. brackets_step n ih deep s (eqb-true (next text s) 40 e))
      (λ e. by_cond (Begun text (Some Factor) s) (ltb 0 (block_at text s)) (word_step n ih deep s fine)
      (λ e. leaf_begun text deep s fine)))

  more : (n : ℕ) → Completes n → Completes (suc n)
  unfolding latch_at timed
  more n ih =
      record {
        sum = λ deep. whole_step text plus (Some Product) (Some Sum) n (ih.product deep) (ih.sums deep) product_sum;
        sums = λ deep. rest_step text plus (Some Product) (Some Sum) n (ih.product deep) (ih.sums deep) plus_sum;
        product = λ deep. whole_step text times (Some Factor) (Some Product) n (ih.factor deep) (ih.products deep) factor_product;
        products = λ deep. rest_step text times (Some Factor) (Some Product) n (ih.factor deep) (ih.products deep) dot_product;
        factor = factor_step n ih;
        latch = λ word c kind deep s fine.
            block_step text (Some Sum) (λ (x : List ℕ). Some Factor (word ++ x)) c.makes (plain_part kind) n deep 0
            (ih.sum (deep + 1)) s (sum_at (spelled text) text n (deep + 1) s) fine (ih.sum (deep + 1) s fine);
        timer = λ word c kind deep s fine.
            let v = value_between text s.at (pass_length text s).at in
            block_step text Length (λ (x : List ℕ). Some Factor (word ++ x)) c.makes (timed_part kind v) n deep v
            (ih.sum (deep + 1)) s (pass_length text s) fine (length_begun text s fine);
      }

  completes : (n : ℕ) → Completes n
  completes zero = none
  completes (suc n) = more n (completes n)

pub stop_begins : (w : List ℕ) → (stop_of w ≤ length w) × Begins (take (stop_of w) w)
unfolding stop_of read_text
stop_begins w =
    let r = sum_at (spelled w) w (5 * length w + 4) 0 start in
    let g = (completes w (5 * length w + 4)).sum 0 start refl in
    let all : w ≡ g.bytes ++ g.between.rest = g.between.here.left in
    let place : r.at ≡ length g.bytes = omega (arith, g.between.place) in
    let size : length w ≡ length g.bytes + length g.between.rest = ap length all ∙ length-append g.bytes g.between.rest in
    let these : g.bytes ≡ take r.at w =
    sym (ap (λ (k : ℕ). take k w) place ∙ ap (take (length g.bytes)) all ∙ take-append_seam g.bytes g.between.rest) in
    let x : Some Sum (take r.at w ++ g.more) = subst (λ (l : List ℕ). Some Sum (l ++ g.more)) these g.begins in
    (omega arith, (g.more, x.0, x.1, x.2))
