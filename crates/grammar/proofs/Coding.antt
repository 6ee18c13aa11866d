-- Code words stand for the parts: the reader that puts out words and the one that puts out parts go the same way.
use Prim.Native.Nat.{ℕ, ◌+◌, ◌*◌, ◌/◌, ◌%◌, ◌≤◌, ◌<◌}
use native.Mathlib.Nat.{mod-eq_of_lt}
use native.Mathlib.Omega.{arith}
use native.Mathlib.Decide.{dec_lt}
use mathlib.Core.Path.{◌≡◌, refl, sym, ap, ◌∙◌}
use mathlib.Core.Bool.{Bool, true, false, ◌&&◌, ◌||◌}
use mathlib.Core.List.{List, [], ◌∷◌, ◌++◌, map, map-append}
use mathlib.Core.Logic.{inl}
use lib.Dec.{ltb, eqb}
use lib.ListN.{length, length-map}
use borrow.Author.Tests.{eqb-true, ne_eqb, ltb-true}
use Rattle.signals.specs.Moment.{M}
use Rattle.grammar.specs.Tree.{Tree, Unary, leaf, unary, binary, name, invert, rise, fall, ton, tof, tp}
use Rattle.grammar.specs.Code.{Part, operand, one, two, code, longest, ticks_of}
use Rattle.grammar.specs.Kinds as kinds
use Rattle.grammar.specs.Reader.{State, Emission, read_text}
use Rattle.texts.specs.Lengths.{capped}
use Rattle.grammar.specs.Formula.{name_word, timer_word}
use Rattle.grammar.specs.PartWords.{Kind, plain_kinds, part_in, plain_part, is_timer, timed_part, name_at}
use Rattle.grammar.specs.Formula.{spelled, coded, accepted, formula_tree, parts_of, code_of}
use Rattle.grammar.specs.PartWords.{part_of}
use Rattle.grammar.specs.Exactness.{CodeExact, AcceptedCode, Breaks11, Breaks12}
use Rattle.grammar.specs.Grammar.{Sum}
use Rattle.signals.proofs.Truth.{and_left, and_right}
use Rattle.grammar.proofs.Bytes.{never}
use Rattle.grammar.proofs.Carried.{is_in, is_plain, Carries, both_ways, text_carried}
use Rattle.grammar.proofs.Faults.{fine_of}
use Rattle.grammar.proofs.Reading.{parts_exact, longest_in, derived_of, tree_of_lem, accepted_of}

-- parts with every length above M taken as M + 1
abbrev cut : List ℕ → Emission Part
cut text = record {
  plain = plain_part;
  named = λ p k. operand (name (name_at text p k));
  timed = λ k n. timed_part k (capped n);
  ticks = capped;
}

abbrev pub cut_unary : Unary → Unary
cut_unary invert = invert
cut_unary rise = rise
cut_unary fall = fall
cut_unary (ton n) = ton (capped n)
cut_unary (tof n) = tof (capped n)
cut_unary (tp n) = tp (capped n)

abbrev pub cut_part : Part → Part
cut_part (operand l) = operand l
cut_part (one o) = one (cut_unary o)
cut_part (two o) = two o

-- the numbers of a table are below 16
abbrev below16 : List Kind → Bool
below16 [] = true
below16 (e ∷ es) = ltb e.number 16 && below16 es

in_below : (es : List Kind) (k : ℕ) → below16 es ≡ true → is_in es k ≡ true → k < 16
in_below [] k h e = never e
in_below (x ∷ es) k h e = go (eqb k x.number) refl e (in_below es k (and_right (ltb x.number 16) (below16 es) h))
  where
    low : x.number < 16
    low = ltb-true x.number 16 (and_left (ltb x.number 16) (below16 es) h)

    go : (z : Bool) → eqb k x.number ≡ z → z || is_in es k ≡ true → (is_in es k ≡ true → k < 16) → k < 16
    go true z e ih = let q = eqb-true k x.number z in let l = low in omega arith
    go false z e ih = ih e

-- a table with each length above M taken as M + 1
abbrev cut_kind : Kind → Kind
cut_kind e = record { number = e.number; part = cut_part e.part }

part_cut : (es : List Kind) (k : ℕ) → cut_part (part_in es k) ≡ part_in (map cut_kind es) k
part_cut [] k = refl
part_cut (e ∷ es) k = both_ways cut_part (eqb k e.number) (λ z. refl) (λ z. part_cut es k)

plain_not : (k j : ℕ) → is_plain j ≡ false → is_plain k ≡ true → eqb k j ≡ false
plain_not k j f e = ne_eqb k j (λ q. never (sym f ∙ ap is_plain (sym q) ∙ e))

timer_kind : (k : ℕ) → is_timer k ≡ true → (kinds.NAME < k) × (k < 16)
timer_kind k e = go (eqb k kinds.TON) (eqb k kinds.TOF) refl refl e
  where
    go : (a b : Bool) → eqb k kinds.TON ≡ a → eqb k kinds.TOF ≡ b → a || b || eqb k kinds.TP ≡ true → (kinds.NAME < k) × (k < 16)
    go true b p q e = let r = eqb-true k kinds.TON p in (omega arith, omega arith)
    go false true p q e = let r = eqb-true k kinds.TOF q in (omega arith, omega arith)
    go false false p q e = let r = eqb-true k kinds.TP e in (omega arith, omega arith)

words_carry : (text : List ℕ) → Carries coded (cut text) (part_of text) (λ n. n)
unfolding part_of name_word timer_word timed_part
words_carry text =
    record {
      plain = λ k e.
          let h = in_below plain_kinds k refl e in
          let m : k % 16 ≡ k = mod-eq_of_lt (omega arith) in
          let not : (j : ℕ) → is_plain j ≡ false → eqb k j ≡ false = λ j f. plain_not k j f e in
          rw (m, not kinds.NAME refl, not kinds.TON refl, not kinds.TOF refl, not kinds.TP refl) refl;
      named = λ p k h.
          let m : ((p * 16 + k) * 16 + kinds.NAME) % 16 ≡ kinds.NAME = omega arith in
          let i : ((p * 16 + k) * 16 + kinds.NAME) / 256 ≡ p = omega arith in
          let q : ((p * 16 + k) * 16 + kinds.NAME) / 16 ≡ p * 16 + k = omega arith in
          let j : (p * 16 + k) % 16 ≡ k = omega arith in
          rw (m, i, q, j) refl;
      timed = λ k n e.
          let h = timer_kind k e in
          let h2 : k < 16 = h.1 in
          let m : (capped n * 16 + k) % 16 ≡ k = omega arith in
          let i : (capped n * 16 + k) / 16 ≡ capped n = omega arith in
          let z : eqb k kinds.NAME ≡ false = ne_eqb k kinds.NAME (λ q. omega (arith, h.0)) in
          rw (m, i, z, e) refl;
      ticks = λ n. refl;
      none = refl;
      larger = λ a b. refl;
    }

parts_carry : (text : List ℕ) → Carries (spelled text) (cut text) cut_part capped
unfolding capped timed_part
parts_carry text =
    record {
      plain = λ k e. part_cut plain_kinds k;
      named = λ p k h. refl;
      timed = λ k n e.
          both_ways cut_part (eqb k kinds.TON) (λ z. refl) (λ z. both_ways cut_part (eqb k kinds.TOF) (λ z. refl) (λ z. refl));
      ticks = λ n. refl;
      none = refl;
      larger = λ a b. omega arith;
    }

-- the run that puts out words, against the one that puts out parts
pub record CodedRun (text : List ℕ) : Type 0 where
  pub ok : (read_text coded text).ok ≡ (read_text (spelled text) text).ok
  pub at : (read_text coded text).at ≡ (read_text (spelled text) text).at
  pub out : map (part_of text) (read_text coded text).out ≡ map cut_part (read_text (spelled text) text).out
  pub deepest : (read_text coded text).deepest ≡ (read_text (spelled text) text).deepest
  pub longest : (read_text coded text).longest ≡ capped (read_text (spelled text) text).longest

pub coded_run : (text : List ℕ) → CodedRun text
coded_run text =
    let e = text_carried coded (cut text) (part_of text) (λ n. n) (words_carry text) text
    ∙ sym (text_carried (spelled text) (cut text) cut_part capped (parts_carry text) text) in
    record {
      ok = ap (λ (s : State Part). s.ok) e;
      at = ap (λ (s : State Part). s.at) e;
      out = ap (λ (s : State Part). s.out) e;
      deepest = ap (λ (s : State Part). s.deepest) e;
      longest = ap (λ (s : State Part). s.longest) e;
    }

capped_small : (n : ℕ) → n ≤ M → capped n ≡ n
unfolding capped
capped_small n h = omega arith

unary_small : (o : Unary) → ticks_of o ≤ M → cut_unary o ≡ o
unary_small invert h = refl
unary_small rise h = refl
unary_small fall h = refl
unary_small (ton n) h = ap ton (capped_small n h)
unary_small (tof n) h = ap tof (capped_small n h)
unary_small (tp n) h = ap tp (capped_small n h)

pub code_small : (t : Tree) → longest t ≤ M → map cut_part (code t) ≡ code t
unfolding code longest
code_small (leaf l) h = refl
code_small (unary o t) h = map-append cut_part (code t) (one o ∷ []) ∙ rw (code_small t (omega arith), unary_small o (omega arith)) refl
code_small (binary o t u) h =
    map-append cut_part (code t) (code u ++ (two o ∷ []))
    ∙ rw (map-append cut_part (code u) (two o ∷ []), code_small t (omega arith), code_small u (omega arith)) refl

pub code_exact : CodeExact
unfolding code_of parts_of
code_exact w t d x small = (coded_run w).out ∙ ap (map cut_part) (parts_exact w t d x) ∙ code_small t (go (dec_lt M (longest t)))
  where
    go : Dec (M < longest t) → longest t ≤ M
    go (yes h) = let l = longest_in M t h in absurd (small (t, d, l.0, x, l.1, l.2))
    go (no h) = omega (arith, h)

-- words and parts are as many
pub as_many : (w : List ℕ) → length (code_of w) ≡ length (parts_of w)
unfolding code_of parts_of
as_many w = sym (length-map (code_of w) (part_of w)) ∙ ap length (coded_run w).out ∙ length-map (parts_of w) cut_part

few_words : (w : List ℕ) (t : Tree) (d : ℕ) → Sum w t d → (Breaks12 w → ⊥) → length (code_of w) ≤ 32
few_words w t d x h = go (dec_lt 32 (length (code t)))
  where
    go : Dec (32 < length (code t)) → length (code_of w) ≤ 32
    go (yes k) = absurd (h (t, d, x, inl k))
    go (no k) = let p = ap length (parts_exact w t d x) in let q = as_many w in omega (arith, k)

pub accepted_code : AcceptedCode
accepted_code w e =
    let none = fine_of w e in
    let g = derived_of w (go (accepted w) refl none.written) in
    let t : formula_tree w ≡ g.0 = tree_of_lem w g.0 g.1 g.2 in
    (code_exact w g.0 g.1 g.2 none.near ∙ ap code (sym t), few_words w g.0 g.1 g.2 none.few)
  where
    go : (z : Bool) → accepted w ≡ z → (Breaks11 w → ⊥) → accepted w ≡ true
    go true z h = z
    go false z h = absurd (h (λ t d x. never (sym z ∙ accepted_of w t d x)))
