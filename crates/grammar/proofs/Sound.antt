-- What the reader reads, the grammar derives.
use Prim.Native.Nat.{ℕ, zero, suc, ◌+◌, ◌<◌, max}
use native.Mathlib.Omega.{arith}
use mathlib.Core.Path.{◌≡◌, refl, sym, ap, ◌∙◌, subst}
use mathlib.Core.Bool.{Bool, true, false, cond}
use mathlib.Core.List.{List, [], ◌∷◌, ◌++◌, append_assoc}
use lib.Dec.{ltb, eqb}
use lib.ListN.{length, drop}
use borrow.Author.Tests.{eqb-true}
use Rattle.grammar.specs.Tree.{Tree, Unary, Binary, unary, binary, invert, rise, fall, ton, tof, tp, and, or, sr, rs}
use Rattle.grammar.specs.Code.{Part, one, two, ticks_of}
use Rattle.names.specs.Names.{all_of}
use Rattle.texts.specs.Lengths.{is_length, value}
use Rattle.grammar.specs.Grammar.{Sum, Product, Factor}
use Rattle.grammar.specs.Kinds as kinds
use Rattle.grammar.specs.Reader.{State, next, bad, stepped, expect, put, pass_length, value_between, prefix_kind, starts}
use Rattle.grammar.specs.Reader.{block_bytes, block_at, timed, sum_at, sums_at, product_at, products_at, factor_at, latch_at, timer_at}
use Rattle.grammar.specs.Formula.{spelled}
use Rattle.grammar.specs.PartWords.{plain_part, timed_part}
use Rattle.grammar.proofs.Bytes.{never, by_cond, by_block}
use Rattle.grammar.proofs.Standing.{At, step_at, word_at, expect_at, after, after_at}
use Rattle.grammar.proofs.Steps.{joined, prefixed, bracketed, worded}
use Rattle.grammar.proofs.Branches.{Chain, plus, times}
use Rattle.grammar.proofs.Found.{next_inv, same_left, moved, expect_inv, put_ok, Finds, rest_ok, Block, LatchFound, TimerFound}
use Rattle.grammar.proofs.FoundLeaves.{length_inv, leaf_step}
use Rattle.grammar.proofs.FoundBlocks.{latch_found, timer_found}

module _ (text : List ℕ) where
  -- what the readers find with so much fuel
  record Sound (n : ℕ) : Type 0 where
    sum : (deep : ℕ) (s : State Part) → Finds text Sum deep s (sum_at (spelled text) text n deep s)
    sums : (deep : ℕ) (s : State Part) (w : List ℕ) (t : Tree) (d : ℕ) (l : List ℕ) → Sum w t d → At text s (w ++ l) →
        Finds text Sum deep s (sums_at (spelled text) text n deep (after w t d deep s))
    product : (deep : ℕ) (s : State Part) → Finds text Product deep s (product_at (spelled text) text n deep s)
    products : (deep : ℕ) (s : State Part) (w : List ℕ) (t : Tree) (d : ℕ) (l : List ℕ) → Product w t d → At text s (w ++ l) →
        Finds text Product deep s (products_at (spelled text) text n deep (after w t d deep s))
    factor : (deep : ℕ) (s : State Part) → Finds text Factor deep s (factor_at (spelled text) text n deep s)
    latch : (kind : ℕ) (o : Binary) → plain_part kind ≡ two o → (deep : ℕ) (s : State Part) →
        (latch_at (spelled text) text n kind deep s).ok ≡ true → LatchFound text o deep s (latch_at (spelled text) text n kind deep s)
    timer : (kind deep : ℕ) (s : State Part) → (timer_at (spelled text) text n kind deep s).ok ≡ true →
        TimerFound text kind deep s (timer_at (spelled text) text n kind deep s)

  none : Sound zero
  unfolding sum_at bad
  none =
      record {
        sum = λ deep s h. never h;
        sums = λ deep s w t d l x a h. never h;
        product = λ deep s h. never h;
        products = λ deep s w t d l x a h. never h;
        factor = λ deep s h. never h;
        latch = λ kind o p deep s h. never h;
        timer = λ kind deep s h. never h;
      }

  -- one more operand of a chain stands after the operator b
  longer : (w v : List ℕ) (b : ℕ) (t : Tree) (d deep : ℕ) (s : State Part) (l m : List ℕ) → At text s (w ++ l) →
      next text (after w t d deep s) ≡ b → 0 < b →
      At text (stepped 1 (after w t d deep s)) (v ++ m) → At text s ((w ++ (b ∷ v)) ++ m)
  longer w v b t d deep s l m a e pos c =
      let x = after_at w t d deep a in
      let y = next_inv text (after w t d deep s) b e pos in
      let z : l ≡ b ∷ (v ++ m) = same_left x y.1 ∙ ap (λ (k : List ℕ). b ∷ k) (same_left (step_at y.1) c) in
      rw (append_assoc w (b ∷ v) m, ← z) a

  -- a chain W of operands O
  module _ {deep byte kind level : ℕ} {operand rest whole : ℕ → State Part → State Part}
      (C : Chain (spelled text) text deep byte kind level operand rest whole)
      (O W : List ℕ → Tree → ℕ → Type 0) (n : ℕ) (reads : (s : State Part) → Finds text O deep s (operand n s))
      (goes_on : (s : State Part) (w : List ℕ) (t : Tree) (d : ℕ) (l : List ℕ) → W w t d → At text s (w ++ l) →
      Finds text W deep s (rest n (after w t d deep s))) where
    whole_step : ((w : List ℕ) (t : Tree) (d : ℕ) → O w t d → W w t d) → (s : State Part) → Finds text W deep s (whole (suc n) s)
    whole_step up s =
        subst (Finds text W deep s) (sym (C.begins n s))
        (λ h.
        let p = reads s (rest_ok text C n (operand n s) h) in
        rw p.gives (goes_on s p.bytes p.tree p.depth p.rest (up p.bytes p.tree p.depth p.derived) p.here
        (rw p.gives at h)))

    rest_step : (o : Binary) → plain_part kind ≡ two o →
        ((w v : List ℕ) (t u : Tree) (d e : ℕ) → W w t d → O v u e → W (w ++ (byte ∷ v)) (binary o t u) (max d e)) →
        (s : State Part) (w : List ℕ) (t : Tree) (d : ℕ) (l : List ℕ) → W w t d → At text s (w ++ l) →
        Finds text W deep s (rest (suc n) (after w t d deep s))
    rest_step o q more s w t d l x a =
        subst (Finds text W deep s) (sym (C.goes_on n (after w t d deep s)))
        (by_cond (Finds text W deep s) (eqb (next text (after w t d deep s)) byte)
        (λ e h.
        let i = stepped 1 (after w t d deep s) in
        let p = reads i (put_ok (plain_part kind) deep 0 (operand n i) (rest_ok text C n (put (plain_part kind) deep 0 (operand n i)) h)) in
        let j = joined o w p.bytes t p.tree d p.depth byte kind deep s q in
        rw (p.gives, j)
        (goes_on s (w ++ (byte ∷ p.bytes)) (binary o t p.tree) (max d p.depth) p.rest
        (more w p.bytes t p.tree d p.depth x p.derived)
        (longer w p.bytes byte t d deep s l p.rest a (eqb-true (next text (after w t d deep s)) byte e) C.some p.here)
        (rw (p.gives, j) at h)))
        (λ e h. record { bytes = w; tree = t; depth = d; rest = l; here = a; derived = x; gives = refl }))

  latch_step : (n : ℕ) → Sound n → (kind : ℕ) (o : Binary) → plain_part kind ≡ two o → (deep : ℕ) (s : State Part) →
      (latch_at (spelled text) text (suc n) kind deep s).ok ≡ true →
      LatchFound text o deep s (latch_at (spelled text) text (suc n) kind deep s)
  unfolding latch_at
  latch_step n ih kind o p deep s h =
      let b1 = sum_at (spelled text) text n (deep + 1) s in
      let b2 = sum_at (spelled text) text n (deep + 1) (expect text 44 b1) in
      let x3 = expect_inv text b2 41 (omega arith) (put_ok (plain_part kind) deep 0 (expect text 41 b2) h) in
      let f2 = ih.sum (deep + 1) (expect text 44 b1) x3.1.fine in
      let x2 = expect_inv text b1 44 (omega arith) f2.here.fine in
      let f1 = ih.sum (deep + 1) s x2.1.fine in
      latch_found text o kind p deep s b1 b2 f1 f2 x2.0 x2.1 x3.0 x3.1

  timer_step : (n : ℕ) → Sound n → (kind deep : ℕ) (s : State Part) → (timer_at (spelled text) text (suc n) kind deep s).ok ≡ true →
      TimerFound text kind deep s (timer_at (spelled text) text (suc n) kind deep s)
  unfolding timer_at timed
  timer_step n ih kind deep s h =
      let p1 = pass_length text s in
      let b = sum_at (spelled text) text n (deep + 1) (expect text 44 p1) in
      let v = value_between text s.at p1.at in
      let x3 = expect_inv text b 41 (omega arith) (put_ok (timed_part kind v) deep v (expect text 41 b) h) in
      let f = ih.sum (deep + 1) (expect text 44 p1) x3.1.fine in
      let x2 = expect_inv text p1 44 (omega arith) f.here.fine in
      let g = length_inv text s x2.1.fine in
      timer_found text kind deep s p1 b g f x2.0 x2.1 x3.0 x3.1

  -- ! ^ ~
  prefix_found : (b kind : ℕ) (o : Unary) → prefix_kind b ≡ kind → plain_part kind ≡ one o → ticks_of o ≡ 0 → 0 < b →
      ((w : List ℕ) (t : Tree) (d : ℕ) → Factor w t d → Factor (b ∷ w) (unary o t) (d + 1)) →
      (n : ℕ) → Sound n → (deep : ℕ) (s : State Part) → next text s ≡ b →
      Finds text Factor deep s (put (plain_part (prefix_kind (next text s))) deep 0
      (factor_at (spelled text) text n (deep + 1) (stepped 1 s)))
  prefix_found b kind o pk pp tk pos make n ih deep s e h =
      let x = next_inv text s b e pos in
      let f = ih.factor (deep + 1) (stepped 1 s)
      (put_ok (plain_part (prefix_kind (next text s))) deep 0 (factor_at (spelled text) text n (deep + 1) (stepped 1 s)) h) in
      record {
        bytes = b ∷ f.bytes;
        tree = unary o f.tree;
        depth = f.depth + 1;
        rest = f.rest;
        here = subst (λ (k : List ℕ). At text s (b ∷ k)) (same_left (step_at x.1) f.here) x.1;
        derived = make f.bytes f.tree f.depth f.derived;
        gives =
            ap (λ (k : ℕ). put (plain_part k) deep 0 (factor_at (spelled text) text n (deep + 1) (stepped 1 s))) (ap prefix_kind e ∙ pk)
            ∙ ap (put (plain_part kind) deep 0) f.gives
            ∙ prefixed b kind o pp tk f.bytes f.tree f.depth deep s;
      }

  prefix_step : (n : ℕ) → Sound n → (deep : ℕ) (s : State Part) → ltb 0 (prefix_kind (next text s)) ≡ true →
      Finds text Factor deep s (put (plain_part (prefix_kind (next text s))) deep 0
      (factor_at (spelled text) text n (deep + 1) (stepped 1 s)))
  unfolding prefix_kind
  prefix_step n ih deep s e = go (eqb (next text s) 33) refl
    where
      goal : Type 0
      goal = Finds text Factor deep s
          (put (plain_part (prefix_kind (next text s))) deep 0 (factor_at (spelled text) text n (deep + 1) (stepped 1 s)))

      go3 : eqb (next text s) 33 ≡ false → eqb (next text s) 94 ≡ false → (z : Bool) → eqb (next text s) 126 ≡ z → goal
      go3 p q true z = prefix_found 126 kinds.FALLING fall refl refl refl (omega arith) (λ w t d x. Factor.falling x) n ih deep s
          (eqb-true (next text s) 126 z)
      go3 p q false z = never (rw (p, q, z) at e)

      go2 : eqb (next text s) 33 ≡ false → (z : Bool) → eqb (next text s) 94 ≡ z → goal
      go2 p true z = prefix_found 94 kinds.RISING rise refl refl refl (omega arith) (λ w t d x. Factor.rising x) n ih deep s
          (eqb-true (next text s) 94 z)
      go2 p false z = go3 p z (eqb (next text s) 126) refl

      go : (z : Bool) → eqb (next text s) 33 ≡ z → goal
      go true z = prefix_found 33 kinds.NOT invert refl refl refl (omega arith) (λ w t d x. Factor.inverted x) n ih deep s
          (eqb-true (next text s) 33 z)
      go false z = go2 z (eqb (next text s) 94) refl

  brackets_step : (n : ℕ) → Sound n → (deep : ℕ) (s : State Part) → next text s ≡ 40 →
      Finds text Factor deep s (expect text 41 (sum_at (spelled text) text n (deep + 1) (stepped 1 s)))
  brackets_step n ih deep s e h =
      let x = next_inv text s 40 e (omega arith) in
      let b = sum_at (spelled text) text n (deep + 1) (stepped 1 s) in
      let x3 = expect_inv text b 41 (omega arith) h in
      let f = ih.sum (deep + 1) (stepped 1 s) x3.1.fine in
      let q1 : x.0 ≡ f.bytes ++ f.rest = same_left (step_at x.1) f.here in
      let q2 : f.rest ≡ 41 ∷ x3.0 =
      same_left (after_at f.bytes f.tree f.depth (deep + 1) f.here) (moved f.gives x3.1) in
      record {
        bytes = 40 ∷ (f.bytes ++ (41 ∷ []));
        tree = f.tree;
        depth = f.depth + 1;
        rest = x3.0;
        here = subst (λ (k : List ℕ). At text s (40 ∷ k)) (q1 ∙ ap (λ (k : List ℕ). f.bytes ++ k) q2
            ∙ sym (append_assoc f.bytes (41 ∷ []) x3.0)) x.1;
        derived = Factor.brackets f.derived;
        gives = expect_at x3.1 ∙ ap (stepped 1) f.gives ∙ bracketed f.bytes f.tree f.depth deep s;
      }

  -- a latch after the word that the bytes begin with
  latch_word : (word : List ℕ) (kind : ℕ) (o : Binary) → plain_part kind ≡ two o →
      ((w v : List ℕ) (t u : Tree) (d e : ℕ) → Sum w t d → Sum v u e → Factor (word ++ Block w v) (binary o t u) (max d e + 1)) →
      all_of (ltb 0) word ≡ true → (n : ℕ) → Sound n → (deep : ℕ) (s : State Part) → s.ok ≡ true →
      starts word (drop s.at text) ≡ true →
      Finds text Factor deep s (latch_at (spelled text) text n kind deep (stepped (length word) s))
  latch_word word kind o p make full n ih deep s fine e h =
      let f = ih.latch kind o p deep (stepped (length word) s) h in
      let w = Block f.first f.second in
      record {
        bytes = word ++ w;
        tree = binary o f.t f.u;
        depth = max f.d f.e + 1;
        rest = f.rest;
        here = rw (append_assoc word w f.rest) (word_at word full fine e f.here);
        derived = make f.first f.second f.t f.u f.d f.e f.left f.right;
        gives = f.gives ∙ worded word w (binary o f.t f.u) (max f.d f.e + 1) deep s;
      }

  timer_word_lem : (word : List ℕ) (kind : ℕ) (o : ℕ → Unary) → ((n : ℕ) → timed_part kind n ≡ one (o n)) → ((n : ℕ) → ticks_of (o n) ≡ n) →
      ((w v : List ℕ) (t : Tree) (d : ℕ) → is_length w ≡ true → Sum v t d → Factor (word ++ Block w v) (unary (o (value w)) t) (d + 1)) →
      all_of (ltb 0) word ≡ true → (n : ℕ) → Sound n → (deep : ℕ) (s : State Part) → s.ok ≡ true →
      starts word (drop s.at text) ≡ true →
      Finds text Factor deep s (timer_at (spelled text) text n kind deep (stepped (length word) s))
  timer_word_lem word kind o p tk make full n ih deep s fine e h =
      let f = ih.timer kind deep (stepped (length word) s) h in
      let op = o (value f.digits) in
      let w = Block f.digits f.body in
      record {
        bytes = word ++ w;
        tree = unary op f.t;
        depth = f.d + 1;
        rest = f.rest;
        here = rw (append_assoc word w f.rest) (word_at word full fine e f.here);
        derived = make f.digits f.body f.t f.d f.number f.operand;
        gives = f.gives op (p (value f.digits)) (tk (value f.digits)) ∙ worded word w (unary op f.t) (f.d + 1) deep s;
      }

  -- what is read after the word of a block of the kind
  abbrev block : ℕ → ℕ → State Part → ℕ → State Part
  block n deep s kind =
      cond (ltb kind kinds.AND) (timer_at (spelled text) text n kind deep (stepped (block_bytes kind) s))
      (latch_at (spelled text) text n kind deep (stepped (block_bytes kind) s))

  abbrev BlockFinds : ℕ → ℕ → State Part → ℕ → Type 0
  BlockFinds n deep s kind = ltb 0 kind ≡ true → Finds text Factor deep s (block n deep s kind)

  block_step : (n : ℕ) → Sound n → (deep : ℕ) (s : State Part) → BlockFinds n deep s (block_at text s)
  unfolding block_at block_bytes timed_part all_of
  block_step n ih deep s =
      by_cond (BlockFinds n deep s) s.ok
      (λ fine. by_block (BlockFinds n deep s) (drop s.at text)
      (λ e pos. latch_word (83 ∷ 82 ∷ 40 ∷ []) kinds.SR sr refl (λ w v t u d e a b. Factor.sr a b) refl n ih deep s fine e)
      (λ e pos. latch_word (82 ∷ 83 ∷ 40 ∷ []) kinds.RS rs refl (λ w v t u d e a b. Factor.rs a b) refl n ih deep s fine e)
      (λ e pos. timer_word_lem (84 ∷ 79 ∷ 78 ∷ 40 ∷ []) kinds.TON ton (λ n. refl) (λ n. refl) (λ w v t d a b. Factor.ton w a b) refl n ih
      deep s fine e)
      (λ e pos. timer_word_lem (84 ∷ 79 ∷ 70 ∷ 40 ∷ []) kinds.TOF tof (λ n. refl) (λ n. refl) (λ w v t d a b. Factor.tof w a b) refl n ih
      deep s fine e)
      (λ e pos. timer_word_lem (84 ∷ 80 ∷ 40 ∷ []) kinds.TP tp (λ n. refl) (λ n. refl) (λ w v t d a b. Factor.tp w a b) refl n ih
      deep s fine e)
      (λ pos. never pos))
      (λ bad pos. never pos)

  factor_step : (n : ℕ) → Sound n → (deep : ℕ) (s : State Part) → Finds text Factor deep s (factor_at (spelled text) text (suc n) deep s)
  unfolding factor_at
  factor_step n ih deep s =
      by_cond (Finds text Factor deep s) (ltb 0 (prefix_kind (next text s))) (prefix_step n ih deep s)
      (λ e1. by_cond (Finds text Factor deep s) (eqb (next text s) 40) (λ e. brackets_step n ih deep s (eqb-true (next text s) 40 e))
      (λ e2. by_cond (Finds text Factor deep s) (ltb 0 (block_at text s)) (block_step n ih deep s) (λ e3. leaf_step text deep s)))

  sound : (n : ℕ) → Sound n
  sound zero = none
  sound (suc n) =
      record {
        sum = λ deep. whole_step plus Product Sum n ((sound n).product deep) ((sound n).sums deep) (λ w t d. Sum.product);
        sums = λ deep. rest_step plus Product Sum n ((sound n).product deep) ((sound n).sums deep) or refl (λ w v t u d e. Sum.plus);
        product = λ deep. whole_step times Factor Product n ((sound n).factor deep) ((sound n).products deep) (λ w t d. Product.factor);
        products = λ deep. rest_step times Factor Product n ((sound n).factor deep) ((sound n).products deep) and refl
            (λ w v t u d e. Product.dot);
        factor = factor_step n (sound n);
        latch = latch_step n (sound n);
        timer = timer_step n (sound n);
      }

  pub sum_found : (n deep : ℕ) (s : State Part) → Finds text Sum deep s (sum_at (spelled text) text n deep s)
  sum_found n = (sound n).sum
