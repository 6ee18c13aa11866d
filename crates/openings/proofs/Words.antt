-- How much of a word stands at the front of bytes, byte by byte; the block that is next, by its first byte.
use Prim.Native.Nat.{ℕ, zero, suc, ◌+◌, ◌≤◌}
use native.Mathlib.Omega.{arith}
use native.Mathlib.Decide.{ℕ_discrete}
use native.Mathlib.Numerals.{add-one}
use native.Mathlib.Nat.{add-zero, add_comm}
use mathlib.Core.Path.{◌≡◌, refl, sym, ap, ◌∙◌}
use mathlib.Core.Bool.{Bool, true, false, cond}
use mathlib.Core.List.{List, [], ◌∷◌}
use lib.Dec.{eqb, ltb}
use lib.ListN.{length, get_or, take, drop}
use lib.Seq.{get_or-drop}
use borrow.Author.Tests.{eq-eqb, ne_eqb, lt-ltb, ltb-true}
use Rattle.std.specs.List.{take_while, zip, prefix_len, starts_with}
use Rattle.names.specs.Names.{letter, all_of}
use Rattle.signals.proofs.Truth.{and_left, and_right}
use Rattle.grammar.specs.Reader.{prefix_kind, starts, shared, block_kind, word_reach, reach}
use Rattle.marks.specs.declared.Mark.{Mark}
use Rattle.marks.specs.Marks.{next_mark}
use Rattle.openings.specs.Opening.{BRACKET, open_kind, reach_mark}
use Rattle.marks.proofs.Marking.{inside}

-- how many bytes of a word, none of which is 0, are at the front
pub shared_is : (w l : List ℕ) → all_of (ltb 0) w ≡ true → length (take_while (λ x. eqb x.0 x.1) (zip l w)) ≡ shared w l
unfolding shared all_of
shared_is [] [] pos = refl
shared_is [] (c ∷ l) pos = refl
shared_is (b ∷ w) [] pos =
    let some = ltb-true 0 b (and_left (ltb 0 b) (all_of (ltb 0) w) pos) in
    rw (ne_eqb 0 b (omega arith)) refl
shared_is (b ∷ w) (c ∷ l) pos = go (eqb c b) (shared_is w l (and_right (ltb 0 b) (all_of (ltb 0) w) pos))
  where
    go : (z : Bool) → length (take_while (λ x. eqb x.0 x.1) (zip l w)) ≡ shared w l →
        length (take (cond z (1 + prefix_len (λ x. eqb x.0 x.1) (zip l w)) 0) ((c, b) ∷ zip l w)) ≡ cond z (suc (shared w l)) 0
    go true e = rw (add_comm 1 (prefix_len (λ x. eqb x.0 x.1) (zip l w)), add-one) (ap suc e)
    go false e = refl

eqb_swap : (b c : ℕ) → eqb b c ≡ eqb c b
eqb_swap b c = go (ℕ_discrete b c)
  where
    go : Dec (b ≡ c) → eqb b c ≡ eqb c b
    go (yes h) = eq-eqb b c h ∙ sym (eq-eqb c b (sym h))
    go (no h) = ne_eqb b c h ∙ sym (ne_eqb c b (λ e. h (sym e)))

-- a word, none of whose bytes is 0, is at the front
pub starts_is : (w l : List ℕ) → all_of (ltb 0) w ≡ true → starts_with eqb l w ≡ starts w l
unfolding starts all_of
starts_is [] l pos = refl
starts_is (b ∷ w) [] pos =
    let some = ltb-true 0 b (and_left (ltb 0 b) (all_of (ltb 0) w) pos) in
    rw (ne_eqb 0 b (omega arith)) refl
starts_is (b ∷ w) (c ∷ l) pos = cc (eqb_swap b c, starts_is w l (and_right (ltb 0 b) (all_of (ltb 0) w) pos))

-- so a test of a word says whether it is there
pub told : (w l : List ℕ) {z v : Bool} → all_of (ltb 0) w ≡ true → z ≡ starts_with eqb l w → z ≡ v → starts w l ≡ v
told w l pos e t = sym (starts_is w l pos) ∙ sym e ∙ t

-- a byte other than S, R and T begins no block
pub no_block : (text : List ℕ) (m : Mark) (b : ℕ) → next_mark text m ≡ b → (b ≡ 83 → ⊥) → (b ≡ 82 → ⊥) → (b ≡ 84 → ⊥) →
    cond m.ok (block_kind (drop m.at text)) 0 ≡ 0
unfolding next_mark block_kind starts
no_block text m b e s r t = go m.ok e
  where
    go : (z : Bool) → cond z (get_or text m.at 0) 0 ≡ b → cond z (block_kind (drop m.at text)) 0 ≡ 0
    go false q = refl
    go true q = rw (get_or-drop m.at text 0 0, add-zero, q, ne_eqb b 83 s, ne_eqb b 82 r, ne_eqb b 84 t) refl

-- the kind of what is next, by its byte
pub bracket_next : (text : List ℕ) (m : Mark) → next_mark text m ≡ 40 → BRACKET ≡ open_kind text m
unfolding open_kind prefix_kind
bracket_next text m e = rw e refl

-- a block's word has capital letters
pub block_next : (text : List ℕ) (m : Mark) (b : ℕ) → next_mark text m ≡ b → 65 ≤ b → b ≤ 90 →
    block_kind (drop m.at text) ≡ open_kind text m
unfolding open_kind prefix_kind
block_next text m b e low high =
    rw (
      e,
      (inside text m b e (omega arith)).fine,
      ne_eqb b 33 (λ h. absurd (omega arith)),
      ne_eqb b 94 (λ h. absurd (omega arith)),
      ne_eqb b 126 (λ h. absurd (omega arith)),
      ne_eqb b 40 (λ h. absurd (omega arith)),
    ) refl

pub prefix_next : (text : List ℕ) (m : Mark) (b : ℕ) → next_mark text m ≡ b → (b ≡ 40 → ⊥) → (65 ≤ b → b ≤ 90 → ⊥) →
    prefix_kind b ≡ open_kind text m
unfolding open_kind
prefix_next text m b e o f =
    rw (
      e,
      ne_eqb b 40 o,
      no_block text m b e (λ h. f (omega arith) (omega arith)) (λ h. f (omega arith) (omega arith)) (λ h. f (omega arith) (omega arith)),
    ) (go (prefix_kind b))
  where
    go : (k : ℕ) → k ≡ cond (ltb 0 k) k 0
    go zero = refl
    go (suc k) = rw (lt-ltb 0 (suc k) (omega arith)) refl

-- what is there of a factor, by the byte that is next
pub next_first : (text : List ℕ) (m : Mark) → m.ok ≡ true → get_or (drop m.at text) 0 0 ≡ next_mark text m
unfolding next_mark
next_first text m fine = rw (fine, get_or-drop m.at text 0 0, add-zero) refl

pub reach_name : (text : List ℕ) (m : Mark) → m.ok ≡ true → letter (next_mark text m) ≡ true → 8 ≡ reach_mark text m
unfolding reach_mark reach
reach_name text m fine e = rw (fine, next_first text m fine, e) refl

pub reach_word : (text : List ℕ) (m : Mark) → m.ok ≡ true → letter (next_mark text m) ≡ false →
    word_reach (drop m.at text) ≡ reach_mark text m
unfolding reach_mark reach
reach_word text m fine e = rw (fine, next_first text m fine, e) refl

pub reach_bad : (text : List ℕ) (m : Mark) → m.ok ≡ false → 0 ≡ reach_mark text m
unfolding reach_mark
reach_bad text m e = rw e refl
