-- A text read from its first byte on, over plain values: the mark's fault is the formula's, and the words put out are its code words.
use Prim.Native.Nat.{ℕ, ◌+◌, ◌*◌, ◌≤◌, ◌<◌, min}
use native.Mathlib.Omega.{arith}
use native.Mathlib.Decide.{dec_lt}
use native.Mathlib.Nat.{zero-add}
use mathlib.Core.Path.{◌≡◌, refl, sym, ap, ◌∙◌}
use mathlib.Core.Bool.{Bool, true, false, cond, not, ◌&&◌, ◌||◌}
use mathlib.Core.List.{List, [], ◌∷◌, ◌++◌}
use lib.Dec.{ltb, eqb}
use lib.ListN.{length, take, drop, length-map, length-append, length-drop, length-take}
use lib.Seq.{take_all, take-append_seam, sets}
use borrow.Author.Tests.{eq-eqb, ne_eqb, lt-ltb, le-ltb}
use Rattle.slices.specs.Slices.{put_at}
use Rattle.signals.specs.Moment.{M}
use Rattle.signals.specs.Answers.{written_of}
use Rattle.signals.specs.declared.Written.TheVariants as written
use Rattle.grammar.specs.Reader.{State, start, read_text, next, bad, stepped, prefix_kind, starts, shared, block_kind, block_at}
use Rattle.grammar.specs.Reader.{reach, astray, leaf_at, sum_at}
use Rattle.names.specs.Names.{letter}
use Rattle.grammar.specs.declared.Stop.{Stop}
use Rattle.texts.specs.Lengths.{capped}
use Rattle.grammar.specs.Formula.{spelled, coded, accepted, parts_of, depth_of, longest_of, formula_fault, stop_of, stop_place}
use Rattle.grammar.specs.PartWords.{part_of}
use Rattle.grammar.specs.Formula.{code_of, code_after}
use Rattle.marks.specs.declared.Mark.{Mark}
use Rattle.marks.specs.Marks.{mark_fault, lent}
use Rattle.formulas.specs.Calls.{CallOfRead, CallOfJudge}
use Rattle.formulas.specs.Readers.{Shows, Ready, SumRead, Begun}
use Rattle.grammar.proofs.Coding.{coded_run, cut_part}
use Rattle.marks.proofs.Marking.{lent_most}
use Rattle.slices.proofs.Placing.{put_fits}

abbrev pub first : Mark
first = record { ok = true; at = 0; parts = 0; deepest = 0; longest = 0 }

ready_first : (text old : List ℕ) → length text ≤ 1024 → length old ≡ 32 → Ready text old first 0
ready_first text old h r = record { short = h; room = r; within = omega arith; fewer = omega arith; opened = omega arith }

-- a text that was put on a blank page is the page's front
pub laid : (text blank page : List ℕ) → page ≡ put_at blank 0 text → length blank ≡ 1024 → length text ≤ 1024 →
    (length page ≡ 1024) × (lent page (length text) ≡ text)
unfolding lent
laid text blank page e b h =
    let q : min (length text) 1024 ≡ length text = omega arith in
    let p : page ≡ text ++ drop (length text) blank = rw zero-add at (e ∙ put_fits blank 0 text (omega arith)) in (
      ap length p ∙ length-append text (drop (length text) blank) ∙ omega (arith, length-drop (length text) blank),
      rw (q, p) (take-append_seam text (drop (length text) blank)),
    )

-- at the first byte of a page
pub begun : (page : List ℕ) (bytes : ℕ) {words : List ℕ} → length words ≡ 32 → Begun page bytes words first 0
begun page bytes {words} w = ready_first (lent page bytes) words (omega (arith, lent_most page bytes)) w

pub lent_all : (page : List ℕ) (bytes : ℕ) → length page ≡ 1024 → bytes ≤ 1024 → length (lent page bytes) ≡ bytes
unfolding lent
lent_all page bytes p h = length-take (min bytes 1024) page ∙ omega arith

capped_over : (n : ℕ) → ltb M (capped n) ≡ ltb M n
unfolding capped
capped_over n = go (dec_lt M n)
  where
    go : Dec (M < n) → ltb M (capped n) ≡ ltb M n
    go (yes h) = lt-ltb M (capped n) (omega arith) ∙ sym (lt-ltb M n h)
    go (no h) = le-ltb M (capped n) (omega (arith, h)) ∙ sym (le-ltb M n (omega (arith, h)))

either : (a b : Bool) (x y : ℕ) → cond (a || b) x y ≡ cond a x (cond b x y)
either true b x y = refl
either false b x y = refl

-- the tests of a mark in the order of the faults
ordered : (ok a : Bool) (at len : ℕ) (rest : ℕ) → at ≤ len → cond (not (ok && eqb at len)) 11 rest ≡ cond ok (cond (ltb at len) 11 rest) 11
ordered false a at len rest h = refl
ordered true a at len rest h = go (dec_lt at len)
  where
    go : Dec (at < len) → cond (not (eqb at len)) 11 rest ≡ cond (ltb at len) 11 rest
    go (yes k) = rw (ne_eqb at len (omega arith), lt-ltb at len k) refl
    go (no k) = rw (eq-eqb at len (omega (arith, k)), le-ltb at len (omega (arith, k))) refl

pub empty_is : (text : List ℕ) → length text ≡ 0 → formula_fault text ≡ 10
unfolding formula_fault
empty_is text e = rw (eq-eqb (length text) 0 e) refl

pub long_is : (text : List ℕ) → (length text ≡ 0 → ⊥) → 1024 < length text → formula_fault text ≡ 10
unfolding formula_fault
long_is text e h = rw (ne_eqb (length text) 0 e, lt-ltb 1024 (length text) h) refl

-- reading stops at once in a text of no bytes, and one of over 1,024 is not read
pub empty_stops : (text : List ℕ) → length text ≡ 0 → 0 ≡ stop_place text
unfolding stop_place stop_of read_text sum_at leaf_at astray reach stepped bad next prefix_kind starts block_kind block_at letter shared
empty_stops [] e = refl
empty_stops (b ∷ text) e = absurd (omega arith)

pub long_stops : (text : List ℕ) → 1024 < length text → 0 ≡ stop_place text
unfolding stop_place
long_stops text h = rw (lt-ltb 1024 (length text) h) refl

-- what a call answers and leaves, by the fault
pub refused_is : (text code : List ℕ) (f place : ℕ) → formula_fault text ≡ f → (f ≡ 0 → ⊥) → place ≡ stop_place text →
    CallOfJudge text code (record { fault = f; place = place; parts = 0 }) code
unfolding code_after
refused_is text code f place e h p = rw (e, ne_eqb f 0 h) (refl, p, refl, refl)

pub written_is : (text code after : List ℕ) (place n : ℕ) → formula_fault text ≡ 0 → place ≡ stop_place text → n ≡ length (code_of text) →
    after ≡ sets code 0 (code_of text) → CallOfJudge text code (record { fault = 0; place = place; parts = n }) after
unfolding code_after
written_is text code after place n e p c a = rw e (refl, p, c, a)

-- what reading answers, by what judging does
pub count_is : (text code : List ℕ) (r : Stop) (after : List ℕ) → CallOfJudge text code r after → r.fault ≡ 0 →
    CallOfRead text code (written.Count r.parts) after
unfolding written_of
count_is text code r after j e =
    let q : formula_fault text ≡ 0 = sym j.0 ∙ e in
    let n : r.parts ≡ length (code_of text) = rw q at j.2 in
    (rw q (ap written.Count n), j.3)

pub fault_told : (text code : List ℕ) (r : Stop) (after : List ℕ) → CallOfJudge text code r after → (r.fault ≡ 0 → ⊥) →
    CallOfRead text code (written.Refused r.fault) after
unfolding written_of
fault_told text code r after j h = (rw (← j.0, ne_eqb r.fault 0 h) refl, j.3)

-- a text without a fault has few parts
pub few_words : (m : Mark) (bytes : ℕ) → mark_fault m bytes ≡ 0 → m.parts ≤ 32
unfolding mark_fault
few_words m bytes e = go m.ok refl (dec_lt m.at bytes) (dec_lt M m.longest) (dec_lt 32 m.parts)
  where
    go : (z : Bool) → m.ok ≡ z → Dec (m.at < bytes) → Dec (M < m.longest) → Dec (32 < m.parts) → m.parts ≤ 32
    go z k a l (no h) = omega (arith, h)
    go false k a l (yes h) = let q : ◌≡◌ {A = ℕ} 11 0 = rw k at e in absurd (omega arith)
    go true k (yes a) l (yes h) = let q : ◌≡◌ {A = ℕ} 11 0 = rw (k, lt-ltb m.at bytes a) at e in absurd (omega arith)
    go true k (no a) (yes l) (yes h) = let q : ◌≡◌ {A = ℕ} 8 0 =
        rw (k, le-ltb m.at bytes (omega (arith, a)), lt-ltb M m.longest l) at e in absurd (omega arith)
    go true k (no a) (no l) (yes h) =
        let q : ◌≡◌ {A = ℕ} 12 0 =
        rw (k, le-ltb m.at bytes (omega (arith, a)), le-ltb M m.longest (omega (arith, l)), lt-ltb 32 m.parts h) at e in
        absurd (omega arith)

module _ (text old new : List ℕ) (m : Mark) (d : SumRead text 0 first old new m) where
  shows : Shows m new (read_text coded text)
  unfolding read_text
  shows = d.same (5 * length text + 4) (omega arith) start (record { view = refl; count = refl; words = refl })

  pub words_length : length (code_of text) ≡ m.parts
  unfolding code_of
  words_length = shows.count

  -- of at most 32 parts all words are there
  pub words_are : m.parts ≤ 32 → take m.parts new ≡ code_of text
  unfolding code_of
  words_are h = sym shows.words ∙ take_all 32 (code_of text) (omega (arith, words_length))

  same_ok : (read_text (spelled text) text).ok ≡ m.ok
  same_ok = sym (coded_run text).ok ∙ ap (λ (s : State ℕ). s.ok) shows.view

  same_at : (read_text (spelled text) text).at ≡ m.at
  same_at = sym (coded_run text).at ∙ ap (λ (s : State ℕ). s.at) shows.view

  same_depth : depth_of text ≡ m.deepest
  unfolding depth_of
  same_depth = sym (coded_run text).deepest ∙ ap (λ (s : State ℕ). s.deepest) shows.view

  same_longest : ltb M (longest_of text) ≡ ltb M m.longest
  unfolding longest_of
  same_longest =
      sym (capped_over (longest_of text)) ∙ ap (ltb M) (sym (coded_run text).longest ∙ ap (λ (s : State ℕ). s.longest) shows.view)

  same_count : length (parts_of text) ≡ m.parts
  unfolding parts_of code_of
  same_count =
      sym (length-map (parts_of text) cut_part) ∙ ap length (sym (coded_run text).out) ∙ length-map (code_of text) (part_of text)
      ∙ words_length

  pub place_is : length text ≤ 1024 → m.at ≡ stop_place text
  unfolding stop_place stop_of
  place_is short = rw (le-ltb 1024 (length text) short) (sym same_at)

  pub fault_is : (length text ≡ 0 → ⊥) → length text ≤ 1024 → formula_fault text ≡ mark_fault m (length text)
  unfolding formula_fault accepted mark_fault
  fault_is some short =
      rw (
        ne_eqb (length text) 0 some,
        le-ltb 1024 (length text) short,
        same_ok,
        same_at,
        same_longest,
        same_count,
        same_depth,
        either (ltb 32 m.parts) (ltb 16 m.deepest) 12 0,
      )
      (ordered m.ok true m.at (length text)
      (cond (ltb M m.longest) 8 (cond (ltb 32 m.parts) 12 (cond (ltb 16 m.deepest) 12 0))) d.within)
