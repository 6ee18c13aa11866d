-- The reader puts out one thing or another for a part and goes the same way: what one run puts out is carried to what the other does.
use Prim.Native.Nat.{ℕ, zero, suc, ◌+◌, ◌*◌, ◌≤◌, max}
use mathlib.Core.Path.{◌≡◌, refl, sym, ap, ◌∙◌}
use mathlib.Core.Bool.{Bool, true, false, cond, ◌||◌}
use mathlib.Core.List.{List, [], ◌∷◌, map, map-append}
use lib.Dec.{leb, ltb, eqb}
use lib.ListN.{length, drop}
use borrow.Author.Tests.{leb-true}
use Rattle.names.specs.Names.{digit, letter, name_byte}
use Rattle.grammar.specs.Kinds as kinds
use Rattle.grammar.specs.PartWords.{Kind, plain_kinds, is_timer}
use Rattle.grammar.specs.Reader.{State, Emission, run, next, bad, stepped, expect, put, pass_length, value_between, prefix_kind}
use Rattle.grammar.specs.Reader.{block_bytes, block_at, astray, leaf_at, timed, sum_at, sums_at, product_at, products_at, factor_at}
use Rattle.grammar.specs.Reader.{latch_at, timer_at, read_text, start}
use Rattle.grammar.proofs.Bytes.{never, by_cond, by_block}
use Rattle.grammar.proofs.Standing.{state_eq}

-- the kinds that are a part by themselves
abbrev pub is_in : List Kind → ℕ → Bool
is_in [] k = false
is_in (e ∷ es) k = eqb k e.number || is_in es k

abbrev pub is_plain : ℕ → Bool
is_plain k = is_in plain_kinds k

pub record Carries {X Y : Type 0} (E : Emission X) (E2 : Emission Y) (f : X → Y) (g : ℕ → ℕ) : Type 0 where
  pub plain : (k : ℕ) → is_plain k ≡ true → f (E.plain k) ≡ E2.plain k
  pub named : (p k : ℕ) → k ≤ 8 → f (E.named p k) ≡ E2.named p k
  pub timed : (k n : ℕ) → is_timer k ≡ true → f (E.timed k n) ≡ E2.timed k n
  pub ticks : (n : ℕ) → g (E.ticks n) ≡ E2.ticks n
  pub none : g 0 ≡ 0
  pub larger : (a b : ℕ) → g (max a b) ≡ max (g a) (g b)

-- a test's two ways
pub both_ways : {A B : Type 0} (h : A → B) (b : Bool) {x y : A} {x2 y2 : B} → (b ≡ true → h x ≡ x2) → (b ≡ false → h y ≡ y2) →
    h (cond b x y) ≡ cond b x2 y2
both_ways h true p q = p refl
both_ways h false p q = q refl

module _ {X Y : Type 0} (E : Emission X) (E2 : Emission Y) (f : X → Y) (g : ℕ → ℕ) (c : Carries E E2 f g) (text : List ℕ) where
  abbrev pub carried : State X → State Y
  carried s = record { ok = s.ok; at = s.at; out = map f s.out; deepest = s.deepest; longest = g s.longest }

  expect_same : (b : ℕ) (s : State X) → carried (expect text b s) ≡ expect text b (carried s)
  unfolding expect next stepped bad
  expect_same b s = both_ways carried (eqb (next text s) b) (λ e. refl) (λ e. refl)

  length_same : (s : State X) → carried (pass_length text s) ≡ pass_length text (carried s)
  unfolding pass_length next stepped bad
  length_same s = both_ways carried (eqb (next text s) 48) (λ e. refl)
      (λ e. both_ways carried (digit (next text s)) (λ e. refl) (λ e. refl))

  put_same : (x : X) (deep k : ℕ) (s : State X) → carried (put x deep k s) ≡ put (f x) deep (g k) (carried s)
  unfolding put
  put_same x deep k s =
      both_ways carried s.ok
      (λ e. state_eq refl refl (map-append f s.out (x ∷ [])) refl (c.larger s.longest k)) (λ e. refl)

  -- what is put out for a part of a kind
  plain_same : (k deep : ℕ) → is_plain k ≡ true → (s : State X) (s2 : State Y) → carried s ≡ s2 →
      carried (put (E.plain k) deep 0 s) ≡ put (E2.plain k) deep 0 s2
  plain_same k deep e s s2 q = put_same (E.plain k) deep 0 s ∙ rw (c.plain k e, c.none, q) refl

  leaf_same : (deep : ℕ) (s : State X) → carried (leaf_at E text deep s) ≡ leaf_at E2 text deep (carried s)
  unfolding leaf_at astray next stepped bad
  leaf_same deep s =
      both_ways carried (eqb (next text s) 48) (λ e. plain_same kinds.DOWN deep refl (stepped 1 s) (stepped 1 (carried s)) refl)
      (λ e. both_ways carried (eqb (next text s) 49) (λ e. plain_same kinds.UP deep refl (stepped 1 s) (stepped 1 (carried s)) refl)
      (λ e. both_ways carried (letter (next text s))
      (λ low. both_ways carried (leb (run name_byte (drop s.at text)) 8)
      (λ short.
      put_same (E.named s.at (run name_byte (drop s.at text))) deep 0 (stepped (run name_byte (drop s.at text)) s)
      ∙ rw (c.named s.at (run name_byte (drop s.at text)) (leb-true (run name_byte (drop s.at text)) 8 short), c.none) refl)
      (λ long. refl))
      (λ e. refl)))

  prefix_plain : (b : ℕ) → is_plain (prefix_kind b) ≡ true
  unfolding prefix_kind
  prefix_plain b =
      by_cond (λ (k : ℕ). is_plain k ≡ true) (eqb b 33) (λ e. refl)
      (λ e. by_cond (λ (k : ℕ). is_plain k ≡ true) (eqb b 94) (λ e. refl)
      (λ e. by_cond (λ (k : ℕ). is_plain k ≡ true) (eqb b 126) (λ e. refl) (λ e. refl)))

  -- the readers, with so much fuel
  record Same (n : ℕ) : Type 0 where
    sum : (deep : ℕ) (s : State X) → carried (sum_at E text n deep s) ≡ sum_at E2 text n deep (carried s)
    sums : (deep : ℕ) (s : State X) → carried (sums_at E text n deep s) ≡ sums_at E2 text n deep (carried s)
    product : (deep : ℕ) (s : State X) → carried (product_at E text n deep s) ≡ product_at E2 text n deep (carried s)
    products : (deep : ℕ) (s : State X) → carried (products_at E text n deep s) ≡ products_at E2 text n deep (carried s)
    factor : (deep : ℕ) (s : State X) → carried (factor_at E text n deep s) ≡ factor_at E2 text n deep (carried s)
    latch : (kind deep : ℕ) → is_plain kind ≡ true → (s : State X) →
        carried (latch_at E text n kind deep s) ≡ latch_at E2 text n kind deep (carried s)
    timer : (kind deep : ℕ) → is_timer kind ≡ true → (s : State X) →
        carried (timer_at E text n kind deep s) ≡ timer_at E2 text n kind deep (carried s)

  none : Same zero
  unfolding sum_at bad
  none =
      record {
        sum = λ deep s. refl;
        sums = λ deep s. refl;
        product = λ deep s. refl;
        products = λ deep s. refl;
        factor = λ deep s. refl;
        latch = λ kind deep e s. refl;
        timer = λ kind deep e s. refl;
      }

  timer_more : (n : ℕ) → Same n → (kind deep : ℕ) → is_timer kind ≡ true → (s : State X) →
      carried (timer_at E text (suc n) kind deep s) ≡ timer_at E2 text (suc n) kind deep (carried s)
  unfolding timer_at timed
  timer_more n ih kind deep e s =
      let p = pass_length text s in
      let e2 : carried p ≡ pass_length text (carried s) = length_same s in
      let e3 = expect_same 44 p ∙ ap (expect text 44) e2 in
      let b = sum_at E text n (deep + 1) (expect text 44 p) in
      let e4 = ih.sum (deep + 1) (expect text 44 p) ∙ ap (sum_at E2 text n (deep + 1)) e3 in
      let e5 = expect_same 41 b ∙ ap (expect text 41) e4 in
      let v = value_between text s.at p.at in
      let v2 = value_between text s.at (pass_length text (carried s)).at in
      let ev : v ≡ v2 = ap (value_between text s.at) (ap (λ (x : State Y). x.at) e2) in
      put_same (E.timed kind v) deep (E.ticks v) (expect text 41 b)
      ∙ ap (λ (x : Y). put x deep (g (E.ticks v)) (carried (expect text 41 b))) (c.timed kind v e ∙ ap (E2.timed kind) ev)
      ∙ ap (λ (k : ℕ). put (E2.timed kind v2) deep k (carried (expect text 41 b))) (c.ticks v ∙ ap E2.ticks ev)
      ∙ ap (put (E2.timed kind v2) deep (E2.ticks v2)) e5

  -- a block's kind is a timer's or a part by itself
  record BlockKind (kind : ℕ) : Type 0 where
    timer : ltb 0 kind ≡ true → ltb kind kinds.AND ≡ true → is_timer kind ≡ true
    latch : ltb 0 kind ≡ true → ltb kind kinds.AND ≡ false → is_plain kind ≡ true

  block_kind_lem : (s : State X) → BlockKind (block_at text s)
  unfolding block_at
  block_kind_lem s =
      by_cond BlockKind s.ok
      (λ e. by_block BlockKind (drop s.at text)
      (λ e. record { timer = λ p q. never q; latch = λ p q. refl })
      (λ e. record { timer = λ p q. never q; latch = λ p q. refl })
      (λ e. record { timer = λ p q. refl; latch = λ p q. never (sym q) })
      (λ e. record { timer = λ p q. refl; latch = λ p q. never (sym q) })
      (λ e. record { timer = λ p q. refl; latch = λ p q. never (sym q) }) nothing)
      (λ e. nothing)
    where
      nothing : BlockKind 0
      nothing = record { timer = λ p q. never p; latch = λ p q. never p }

  factor_more : (n : ℕ) → Same n → (deep : ℕ) (s : State X) →
      carried (factor_at E text (suc n) deep s) ≡ factor_at E2 text (suc n) deep (carried s)
  unfolding factor_at next stepped block_at
  factor_more n ih deep s =
      both_ways carried (ltb 0 (prefix_kind (next text s)))
      (λ e. plain_same (prefix_kind (next text s)) deep (prefix_plain (next text s)) (factor_at E text n (deep + 1) (stepped 1 s))
      (factor_at E2 text n (deep + 1) (stepped 1 (carried s))) (ih.factor (deep + 1) (stepped 1 s)))
      (λ e. both_ways carried (eqb (next text s) 40)
      (λ e. expect_same 41 (sum_at E text n (deep + 1) (stepped 1 s)) ∙ ap (expect text 41) (ih.sum (deep + 1) (stepped 1 s)))
      (λ e. both_ways carried (ltb 0 (block_at text s))
      (λ pos. both_ways carried (ltb (block_at text s) kinds.AND)
      (λ low. ih.timer (block_at text s) deep ((block_kind_lem s).timer pos low) (stepped (block_bytes (block_at text s)) s))
      (λ high. ih.latch (block_at text s) deep ((block_kind_lem s).latch pos high) (stepped (block_bytes (block_at text s)) s)))
      (λ e. leaf_same deep s)))

  more : (n : ℕ) → Same n → Same (suc n)
  unfolding sum_at next stepped timed value_between
  more n ih =
      record {
        sum = λ deep s. ih.sums deep (product_at E text n deep s) ∙ ap (sums_at E2 text n deep) (ih.product deep s);
        product = λ deep s. ih.products deep (factor_at E text n deep s) ∙ ap (products_at E2 text n deep) (ih.factor deep s);
        sums = λ deep s.
            both_ways carried (eqb (next text s) 43)
            (λ e.
            ih.sums deep (put (E.plain kinds.OR) deep 0 (product_at E text n deep (stepped 1 s)))
            ∙ ap (sums_at E2 text n deep)
            (plain_same kinds.OR deep refl (product_at E text n deep (stepped 1 s)) (product_at E2 text n deep (stepped 1 (carried s)))
            (ih.product deep (stepped 1 s))))
            (λ e. refl);
        products = λ deep s.
            both_ways carried (eqb (next text s) 46)
            (λ e.
            ih.products deep (put (E.plain kinds.AND) deep 0 (factor_at E text n deep (stepped 1 s)))
            ∙ ap (products_at E2 text n deep)
            (plain_same kinds.AND deep refl (factor_at E text n deep (stepped 1 s)) (factor_at E2 text n deep (stepped 1 (carried s)))
            (ih.factor deep (stepped 1 s))))
            (λ e. refl);
        factor = λ deep s. factor_more n ih deep s;
        latch = λ kind deep e s.
            let e2 = ih.sum (deep + 1) s in
            let b1 = sum_at E text n (deep + 1) s in
            let e3 = expect_same 44 b1 ∙ ap (expect text 44) e2 in
            let e4 = ih.sum (deep + 1) (expect text 44 b1) ∙ ap (sum_at E2 text n (deep + 1)) e3 in
            let b2 = sum_at E text n (deep + 1) (expect text 44 b1) in
            let e5 = expect_same 41 b2 ∙ ap (expect text 41) e4 in
            plain_same kind deep e (expect text 41 b2)
            (expect text 41 (sum_at E2 text n (deep + 1) (expect text 44 (sum_at E2 text n (deep + 1) (carried s))))) e5;
        timer = λ kind deep e s. timer_more n ih kind deep e s;
      }

  same : (n : ℕ) → Same n
  same zero = none
  same (suc n) = more n (same n)

  pub text_carried : carried (read_text E text) ≡ read_text E2 text
  unfolding read_text
  text_carried = (same (5 * length text + 4)).sum 0 start
      ∙ ap (sum_at E2 text (5 * length text + 4) 0) (state_eq refl refl refl refl c.none)
