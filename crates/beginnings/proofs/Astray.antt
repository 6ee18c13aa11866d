-- Where no factor stands, the bytes that are passed begin one.
use Prim.Native.Nat.{ℕ, zero, suc, ◌≤◌, ◌<◌, max}
use native.Mathlib.Omega.{arith}
use native.Mathlib.Decide.{dec_le}
use mathlib.Core.Path.{◌≡◌, refl, sym, ap, ◌∙◌, subst}
use mathlib.Core.Bool.{Bool, true, false, cond}
use mathlib.Core.List.{List, [], ◌∷◌, ◌++◌, append_assoc, append-nil}
use lib.Dec.{leb, ltb, eqb}
use lib.ListN.{length, get_or, take, drop, take-append-drop}
use lib.Seq.{length-take-le}
use borrow.Author.Tests.{eqb-true, ne_eqb, ltb-true, leb-false}
use Rattle.names.specs.Names.{all_of, letter, name_byte, well_named}
use Rattle.grammar.specs.Tree.{Tree, leaf, down, up, name}
use Rattle.grammar.specs.Code.{Part, operand}
use Rattle.grammar.specs.Grammar.{Factor}
use Rattle.grammar.specs.Reader.{State, run, next, bad, stepped, put, shared, reach, astray, leaf_at}
use Rattle.grammar.specs.Formula.{spelled}
use Rattle.grammar.specs.PartWords.{name_at}
use Rattle.signals.proofs.Truth.{true_false, and_left, and_right}
use Rattle.grammar.proofs.Bytes.{never, by_cond, lower_low}
use Rattle.grammar.proofs.Standing.{next_of, after}
use Rattle.grammar.proofs.Found.{Found, Block}
use Rattle.grammar.proofs.FoundLeaves.{leaf_step}
use Rattle.beginnings.proofs.Begun.{Begun, done}
use Rattle.beginnings.proofs.Rules.{Some, zero_sum, Word, sr_word, rs_word, ton_word, tof_word, tp_word}

-- the first k of the bytes begin a factor
pub record Front (l : List ℕ) (k : ℕ) : Type 0 where
  pub within : k ≤ length l
  pub more : List ℕ
  pub begins : Some Factor (take k l ++ more)

by_max : (P : ℕ → Type 0) (a b : ℕ) → P a → P b → P (max a b)
by_max P a b x y = go (dec_le a b)
  where
    go : Dec (a ≤ b) → P (max a b)
    go (yes h) = let e : b ≡ max a b = omega arith in subst P e y
    go (no h) = let e : a ≡ max a b = omega (arith, h) in subst P e x

-- what bytes share with a word is a front of both
shared_front : (word l : List ℕ) → all_of (ltb 0) word ≡ true →
    (shared word l ≤ length l) × (take (shared word l) l ++ drop (shared word l) word ≡ word)
unfolding shared all_of
shared_front [] l pos = (omega arith, refl)
shared_front (b ∷ w) [] pos =
    let other : eqb 0 b ≡ false = ne_eqb 0 b (λ q. let h = ltb-true 0 b (and_left (ltb 0 b) (all_of (ltb 0) w) pos) in omega arith) in
    rw other (omega arith, refl)
shared_front (b ∷ w) (c ∷ l) pos =
    let ih = shared_front w l (and_right (ltb 0 b) (all_of (ltb 0) w) pos) in
    by_cond (λ (k : ℕ). (k ≤ length (c ∷ l)) × (take k (c ∷ l) ++ drop k (b ∷ w) ≡ b ∷ w)) (eqb c b)
    (λ e. (
      omega (arith, ih.0),
      ap (λ (x : ℕ). x ∷ (take (shared w l) l ++ drop (shared w l) w)) (eqb-true c b e)
          ∙ ap (λ (x : List ℕ). b ∷ x) ih.1,
    ))
    (λ e. (omega arith, refl))

-- the rest of a block's word and 0,0) go on after what is there of it
word_front : {First : List ℕ → Type 0} {word : List ℕ} → Word First word → (l : List ℕ) → Front l (shared word l)
word_front {word = word} c l =
    let f = shared_front word l c.full in
    let k = shared word l in
    let zeros = Block (48 ∷ []) (48 ∷ []) in
    record {
      within = f.0;
      more = drop k word ++ zeros;
      begins = subst (Some Factor) (ap (λ (x : List ℕ). x ++ zeros) (sym f.1) ∙ append_assoc (take k l) (drop k word) zeros)
          (c.makes (48 ∷ []) (48 ∷ []) c.zero zero_sum);
    }

-- the first bytes of a run
run_first : (p : ℕ → Bool) (l : List ℕ) (k : ℕ) → k ≤ run p l → (all_of p (take k l) ≡ true) × (k ≤ length l)
unfolding run all_of
run_first p l zero h = (refl, omega arith)
run_first p [] (suc k) h = absurd (omega arith)
run_first p (b ∷ l) (suc k) h = go (p b) refl h (run_first p l k)
  where
    go : (z : Bool) → p b ≡ z → suc k ≤ cond z (suc (run p l)) 0 → (k ≤ run p l → (all_of p (take k l) ≡ true) × (k ≤ length l)) →
        (all_of p (take (suc k) (b ∷ l)) ≡ true) × (suc k ≤ length (b ∷ l))
    go true e h ih = let r = ih (omega arith) in (rw e r.0, omega (arith, r.1))
    go false e h ih = absurd (omega arith)

-- eight bytes of a name that is too long are a name
name_front : (l : List ℕ) → letter (get_or l 0 0) ≡ true → 8 < run name_byte l → Front l 8
unfolding run name_byte well_named
name_front [] low long = let h = lower_low 0 low in absurd (omega arith)
name_front (b ∷ l) low long =
    let long2 : 8 < suc (run name_byte l) = rw low at long in
    let r = run_first name_byte l 7 (omega arith) in
    let size : length (take 7 l) ≡ 7 = length-take-le 7 l r.1 in
    let well : well_named (b ∷ take 7 l) ≡ true = rw (size, low, r.0) refl in
    record {
      within = omega (arith, r.1);
      more = [];
      begins = (leaf (name (b ∷ take 7 l)), 0, rw (append-nil (take 7 l)) (Factor.named {w = b ∷ take 7 l} well));
    }

-- the bytes within reach: of a name that is too long, or of the block's word that has most of them there
reach_front : (l : List ℕ) → (letter (get_or l 0 0) ≡ true → 8 < run name_byte l) → Front l (reach l)
unfolding reach
reach_front l long =
    by_cond (Front l) (letter (get_or l 0 0)) (λ low. name_front l low (long low))
    (λ e. by_max (Front l) _ _ (word_front sr_word l)
    (by_max (Front l) _ _ (word_front rs_word l)
    (by_max (Front l) _ _ (word_front ton_word l) (by_max (Front l) _ _ (word_front tof_word l) (word_front tp_word l)))))

-- after a leaf that is put out, all is well
put_not : {A : Type 0} (x : Part) (deep k : ℕ) (s : State Part) → s.ok ≡ true → (put x deep 0 (stepped k s)).ok ≡ false → A
unfolding put stepped
put_not {A} x deep k s fine = by_cond (λ (r : State Part). r.ok ≡ false → A) s.ok (λ e h. true_false h)
    (λ e h. true_false (sym fine ∙ e))

module _ (text : List ℕ) where
  -- what was found is a whole one
  found_begun : {F : List ℕ → Tree → ℕ → Type 0} {deep : ℕ} {s r : State Part} → Found text F deep s r → Begun text (Some F) s r
  unfolding after
  found_begun {F} {deep} {s} {r} f =
      done text (Some F) (record { rest = f.rest; here = f.here; place = ap (λ (i : State Part). i.at) f.gives })
      (f.tree, f.depth, f.derived)

  -- the bytes that are passed where no factor stands
  astray_begun : (s : State Part) → s.ok ≡ true → (letter (next text s) ≡ true → 8 < run name_byte (drop s.at text)) →
      Begun text (Some Factor) s (astray text s)
  unfolding astray bad stepped
  astray_begun s fine long =
      let l = drop s.at text in
      let first : next text s ≡ get_or l 0 0 = next_of (record { fine = fine; left = refl }) in
      let f = reach_front l (λ e. long (ap letter first ∙ e)) in
      let k = reach l in
      let size : length (take k l) ≡ k = length-take-le k l f.within in
      record {
        bytes = take k l;
        more = f.more;
        between = record {
          rest = drop k l;
          here = record { fine = fine; left = sym (take-append-drop k l) };
          place = rw (fine, size) refl;
        };
        begins = f.begins;
        whole = λ e. never e;
      }

  -- if all is not well after it, what is passed begins a factor
  abbrev Breaks : State Part → State Part → Type 0
  Breaks s r = r.ok ≡ false → Begun text (Some Factor) s r

  leaf_broken : (deep : ℕ) (s : State Part) → s.ok ≡ true → Breaks s (leaf_at (spelled text) text deep s)
  unfolding leaf_at
  leaf_broken deep s fine =
      by_cond (Breaks s) (eqb (next text s) 48) (λ e h. put_not (operand down) deep 1 s fine h)
      (λ e. by_cond (Breaks s) (eqb (next text s) 49) (λ e h. put_not (operand up) deep 1 s fine h)
      (λ e. by_cond (Breaks s) (letter (next text s))
      (λ low. by_cond (Breaks s) (leb (run name_byte (drop s.at text)) 8)
      (λ e h.
      let k = run name_byte (drop s.at text) in
      put_not (operand (name (name_at text s.at k))) deep k s fine h)
      (λ long h. astray_begun s fine (λ k. leb-false (run name_byte (drop s.at text)) 8 long)))
      (λ other h. astray_begun s fine (λ k. true_false (sym k ∙ other)))))

  pub leaf_begun : (deep : ℕ) (s : State Part) → s.ok ≡ true → Begun text (Some Factor) s (leaf_at (spelled text) text deep s)
  leaf_begun deep s fine = go (leaf_at (spelled text) text deep s).ok refl
    where
      go : (z : Bool) → (leaf_at (spelled text) text deep s).ok ≡ z → Begun text (Some Factor) s (leaf_at (spelled text) text deep s)
      go true e = found_begun (leaf_step text deep s e)
      go false e = leaf_broken deep s fine e
