-- Every tree whose names are names has a text that the grammar derives.
use Prim.Native.Nat.{ℕ, zero, suc, ◌+◌, ◌*◌, ◌-◌, ◌/◌, ◌%◌, ◌≤◌, ◌<◌, max}
use native.Mathlib.Omega.{arith}
use native.Mathlib.Decide.{dec_lt}
use mathlib.Core.Path.{◌≡◌, refl, ◌∙◌, subst}
use mathlib.Core.Bool.{Bool, true, false, ◌&&◌, ◌||◌}
use mathlib.Core.List.{List, [], ◌∷◌, ◌++◌}
use lib.Dec.{leb, eqb}
use lib.ListN.{length}
use borrow.Author.Tests.{ne_eqb, le-leb}
use Rattle.grammar.specs.Tree.{Tree, Unary, leaf, unary, binary, invert, rise, fall, ton, tof, tp, and, or, sr, rs, name, down, up}
use Rattle.names.specs.Names.{digit, all_of}
use Rattle.texts.specs.Lengths.{is_length, value, value_from}
use Rattle.grammar.specs.Grammar.{Sum, Product, Factor}
use Rattle.grammar.specs.Exactness.{Writable, EveryTreeWritten}
use Rattle.signals.proofs.Truth.{and_of}

pub value_more : (k c : ℕ) (w : List ℕ) → value_from k (w ++ (c ∷ [])) ≡ value_from k w * 10 + (c - 48)
unfolding value_from
value_more k c [] = refl
value_more k c (b ∷ w) = value_more (k * 10 + (b - 48)) c w

all_more : (c : ℕ) (w : List ℕ) → all_of digit w ≡ true → digit c ≡ true → all_of digit (w ++ (c ∷ [])) ≡ true
unfolding all_of
all_more c [] e f = rw f refl
all_more c (b ∷ w) e f = go (digit b) e (λ h. all_more c w h f)
  where
    go : (z : Bool) → z && all_of digit w ≡ true → (all_of digit w ≡ true → all_of digit (w ++ (c ∷ [])) ≡ true) →
        z && all_of digit (w ++ (c ∷ [])) ≡ true
    go true e g = g e
    go false e g = e

digit_is : (n : ℕ) → n < 10 → digit (48 + n) ≡ true
unfolding digit
digit_is n h = and_of (leb 48 (48 + n)) (leb (48 + n) 57) (le-leb 48 (48 + n) (omega arith)) (le-leb (48 + n) 57 (omega arith))

-- the digits of a number above 0
record Digits (v : ℕ) : Type 0 where
  first : ℕ
  others : List ℕ
  leads : digit first ≡ true
  digits : all_of digit others ≡ true
  above : eqb first 48 ≡ false
  number : value (first ∷ others) ≡ v

digits_of : (n v : ℕ) → v ≤ n → 0 < v → Digits v
unfolding value value_from all_of
digits_of zero v h pos = absurd (omega arith)
digits_of (suc n) v h pos = go (dec_lt v 10) (digits_of n (v / 10))
  where
    go : Dec (v < 10) → (v / 10 ≤ n → 0 < v / 10 → Digits (v / 10)) → Digits v
    go (yes k) ih = record {
      first = 48 + v;
      others = [];
      leads = digit_is v k;
      digits = refl;
      above = ne_eqb (48 + v) 48 (omega arith);
      number = omega arith;
    }
    go (no k) ih =
        let r = ih (omega (arith, k)) (omega (arith, k)) in
        let m = value_more 0 (48 + v % 10) (r.first ∷ r.others) in
        let e = r.number in
        record {
          first = r.first;
          others = r.others ++ ((48 + v % 10) ∷ []);
          leads = r.leads;
          digits = all_more (48 + v % 10) r.others r.digits (digit_is (v % 10) (omega arith));
          above = r.above;
          number = m ∙ omega arith;
        }

pub length_written : (v : ℕ) → (w : List ℕ) × (is_length w ≡ true) × (value w ≡ v)
unfolding is_length value value_from digit all_of
length_written zero = (48 ∷ [], refl, refl)
length_written (suc v) = let r = digits_of (suc v) (suc v) (omega arith) (omega arith) in
    (r.first ∷ r.others, rw (r.leads, r.digits, r.above) (or_true (eqb (length r.others) 0)), r.number)
  where
    or_true : (a : Bool) → a || true ≡ true
    or_true true = refl
    or_true false = refl

-- a timer by its word
timer_written : (word : List ℕ) (o : ℕ → Unary) →
    ((w v : List ℕ) (t : Tree) (d : ℕ) → is_length w ≡ true → Sum v t d →
    Factor (word ++ (w ++ (44 ∷ (v ++ (41 ∷ []))))) (unary (o (value w)) t) (d + 1)) →
    (n : ℕ) (t : Tree) → (w : List ℕ) × (d : ℕ) × Factor w t d → (w : List ℕ) × (d : ℕ) × Factor w (unary (o n) t) d
timer_written word o make n t r =
    let l = length_written n in
    let s = Sum.product (Product.factor r.2) in
    let w = word ++ (l.0 ++ (44 ∷ (r.0 ++ (41 ∷ [])))) in (
      w,
      r.1 + 1,
      subst (λ (k : ℕ). Factor w (unary (o k) t) (r.1 + 1)) l.2 (make l.0 r.0 t r.1 l.1 s),
    )

factor_written : (t : Tree) → Writable t → (w : List ℕ) × (d : ℕ) × Factor w t d
factor_written (leaf down) h = (48 ∷ [], 0, Factor.zero)
factor_written (leaf up) h = (49 ∷ [], 0, Factor.one)
factor_written (leaf (name w)) h = (w, 0, Factor.named h)
factor_written (unary invert t) h = let r = factor_written t h in (33 ∷ r.0, r.1 + 1, Factor.inverted r.2)
factor_written (unary rise t) h = let r = factor_written t h in (94 ∷ r.0, r.1 + 1, Factor.rising r.2)
factor_written (unary fall t) h = let r = factor_written t h in (126 ∷ r.0, r.1 + 1, Factor.falling r.2)
factor_written (unary (ton n) t) h = timer_written (84 ∷ 79 ∷ 78 ∷ 40 ∷ []) ton (λ w v t d. Factor.ton w) n t (factor_written t h)
factor_written (unary (tof n) t) h = timer_written (84 ∷ 79 ∷ 70 ∷ 40 ∷ []) tof (λ w v t d. Factor.tof w) n t (factor_written t h)
factor_written (unary (tp n) t) h = timer_written (84 ∷ 80 ∷ 40 ∷ []) tp (λ w v t d. Factor.tp w) n t (factor_written t h)
factor_written (binary and t u) h =
    let r = factor_written t h.0 in
    let q = factor_written u h.1 in (
      40 ∷ ((r.0 ++ (46 ∷ q.0)) ++ (41 ∷ [])),
      max r.1 q.1 + 1,
      Factor.brackets (Sum.product (Product.dot (Product.factor r.2) q.2)),
    )
factor_written (binary or t u) h =
    let r = factor_written t h.0 in
    let q = factor_written u h.1 in (
      40 ∷ ((r.0 ++ (43 ∷ q.0)) ++ (41 ∷ [])),
      max r.1 q.1 + 1,
      Factor.brackets (Sum.plus (Sum.product (Product.factor r.2)) (Product.factor q.2)),
    )
factor_written (binary sr t u) h =
    let r = factor_written t h.0 in
    let q = factor_written u h.1 in (
      83 ∷ 82 ∷ 40 ∷ (r.0 ++ (44 ∷ (q.0 ++ (41 ∷ [])))),
      max r.1 q.1 + 1,
      Factor.sr (Sum.product (Product.factor r.2)) (Sum.product (Product.factor q.2)),
    )
factor_written (binary rs t u) h =
    let r = factor_written t h.0 in
    let q = factor_written u h.1 in (
      82 ∷ 83 ∷ 40 ∷ (r.0 ++ (44 ∷ (q.0 ++ (41 ∷ [])))),
      max r.1 q.1 + 1,
      Factor.rs (Sum.product (Product.factor r.2)) (Sum.product (Product.factor q.2)),
    )

pub every_tree_written : EveryTreeWritten
every_tree_written t h = let r = factor_written t h in (r.0, r.1, Sum.product (Product.factor r.2))
