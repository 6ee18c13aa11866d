-- The next word of the list that a source names is the word at its place of the memory that it stands in.
use Prim.Native.Nat.{ℕ, zero, suc, ◌+◌, ◌*◌, ◌-◌, ◌/◌, ◌%◌, ◌≤◌, ◌<◌, min}
use native.Mathlib.Omega.{arith}
use mathlib.Core.Path.{◌≡◌, refl, sym, ◌∙◌, ap}
use mathlib.Core.Bool.{Bool, true, false, cond}
use mathlib.Core.List.{List}
use lib.Dec.{ltb, eqb}
use lib.ListN.{length, take, drop, get_or, length-take, length-drop}
use lib.Seq.{get_or-take, get_or-drop, drop-drop}
use borrow.Author.Tests.{lt-ltb, le-ltb, ltb-true, ltb-false, eq-eqb, ne_eqb}
use Rattle.slices.specs.Bytes.{low32, words_in}
use Rattle.slices.proofs.Numbers.{low32_halves, low16_at}
use Rattle.signals.specs.Words.{value_at, value_after}
use Rattle.reading.specs.Reading.{held_on}
use Rattle.reading.specs.declared.Step.{Step}
use Rattle.sources.specs.Sources.{no_word, next_word, sheet_word, list_on_sheet, list_from, list_at}
use Rattle.sources.specs.Lending.{list_in}
use Rattle.sources.specs.declared.Lent.{Lent}
use Rattle.sources.specs.declared.Source.{Source}
use Rattle.sources.specs.declared.Memory.{Memory}
use Rattle.sources.specs.declared.Memory.TheVariants.{Sheet, Work, Left, Right}

pub word_left : (l : List ℕ) (p : ℕ) → p < length l → next_word l p ≡ get_or l p 0
unfolding next_word
word_left l p h = rw (lt-ltb p (length l) h)

pub no_word_left : (l : List ℕ) (p : ℕ) → length l ≤ p → next_word l p ≡ no_word
unfolding next_word
no_word_left l p h = rw (le-ltb p (length l) h)

-- the words of a sheet
pub length_words : (n : ℕ) (bytes : List ℕ) → length (words_in n bytes) ≡ n
unfolding words_in
length_words zero bytes = refl
length_words (suc n) bytes = ap suc (length_words n (drop 4 bytes))

pub word_in_bytes : (n i : ℕ) (bytes : List ℕ) → i < n → get_or (words_in n bytes) i 0 ≡ low32 (drop (4 * i) bytes)
unfolding words_in
word_in_bytes zero i bytes h = absurd (omega arith)
word_in_bytes (suc n) zero bytes h = refl
word_in_bytes (suc n) (suc i) bytes h =
    let e : 4 + 4 * i ≡ 4 * suc i = omega arith in
    word_in_bytes n i (drop 4 bytes) (omega arith) ∙ ap low32 (drop-drop (4 * i) 4 bytes ∙ ap (λ (k : ℕ). drop k bytes) e)

pub bytes_whole : (sheet : List ℕ) (at : ℕ) → at + 4 ≤ length sheet
    → get_or sheet at 0 + get_or sheet (at + 1) 0 * 256 + get_or sheet (at + 2) 0 * 65536 + get_or sheet (at + 3) 0 * 16777216
    ≡ sheet_word sheet at
unfolding sheet_word
bytes_whole sheet at h =
    let e : at + 2 + 1 ≡ at + 3 = omega arith in
    rw (le-ltb (length sheet) (at + 4) h, low32_halves sheet at, low16_at sheet at, low16_at sheet (at + 2), e) (omega arith)

pub length_on_sheet : (sheet : List ℕ) (at count : ℕ) → length (list_on_sheet sheet at count) ≡ min count ((length sheet - at) / 4)
unfolding list_on_sheet
length_on_sheet sheet at count = length_words (min count ((length sheet - at) / 4)) (drop at sheet)

-- the list that a source names, by where it stands
module _ (at count passed : ℕ) where
  sheet_next : (sheet : List ℕ) → passed < count → sheet_word sheet (at + 4 * passed) ≡ next_word (list_on_sheet sheet at count) passed
  unfolding sheet_word list_on_sheet
  sheet_next sheet h = go (ltb (length sheet) (at + 4 * passed + 4)) refl
    where
      n : ℕ
      n = min count ((length sheet - at) / 4)

      go : (t : Bool) → ltb (length sheet) (at + 4 * passed + 4) ≡ t
          → cond t no_word (low32 (drop (at + 4 * passed) sheet)) ≡ next_word (words_in n (drop at sheet)) passed
      go true e =
          let k : n ≤ passed = (let q = ltb-true (length sheet) (at + 4 * passed + 4) e in omega arith) in
          sym (no_word_left (words_in n (drop at sheet)) passed (rw (length_words n (drop at sheet)) k))
      go false e =
          let k : passed < n = (let q = ltb-false (length sheet) (at + 4 * passed + 4) e in omega arith) in
          sym (word_left (words_in n (drop at sheet)) passed (rw (length_words n (drop at sheet)) k)
          ∙ word_in_bytes n passed (drop at sheet) k ∙ ap low32 (drop-drop (4 * passed) at sheet))

  part_next : (l : List ℕ) → passed < count → next_word l (at + passed) ≡ next_word (take count (drop at l)) passed
  part_next l h = go (ltb (at + passed) (length l)) refl
    where
      size : length (take count (drop at l)) ≡ min count (length l - at)
      size = length-take count (drop at l) ∙ ap (λ (k : ℕ). min count k) (length-drop at l)

      go : (t : Bool) → ltb (at + passed) (length l) ≡ t → next_word l (at + passed) ≡ next_word (take count (drop at l)) passed
      go true e =
          let q = ltb-true (at + passed) (length l) e in
          word_left l (at + passed) q
          ∙ sym (word_left (take count (drop at l)) passed (rw size (omega arith)) ∙ get_or-take count (drop at l) passed 0 h
          ∙ get_or-drop at l passed 0)
      go false e =
          let q = ltb-false (at + passed) (length l) e in
          no_word_left l (at + passed) q ∙ sym (no_word_left (take count (drop at l)) passed (rw size (omega arith)))

pub at_most : (sheet left right work : List ℕ) (s : Source) → length (list_at sheet left right work s) ≤ s.«count»
at_most sheet left right work s = go s.memory
  where
    part : (l : List ℕ) → length (take s.«count» (drop s.at l)) ≤ s.«count»
    part l = rw (length-take s.«count» (drop s.at l)) (omega arith)

    go : (m : Memory) → length (list_from m sheet left right work s.at s.«count») ≤ s.«count»
    go Sheet = rw (length_on_sheet sheet s.at s.«count») (omega arith)
    go Work = part work
    go Left = part left
    go Right = part right

-- as the code reads it, beside what is lent
module _ (lent : Lent) (work : List ℕ) (list : Source) (passed : ℕ) where
  pub all_passed : list.«count» ≤ passed → no_word ≡ next_word (list_in lent work list) passed
  all_passed h =
      sym (no_word_left (list_in lent work list) passed
      (omega (arith, at_most lent.sheet.now lent.left.now lent.right.now work list)))

  module _ (h : passed < list.«count») (x : ℕ) where
    pub next_on_sheet : list.memory ≡ Sheet → x ≡ sheet_word lent.sheet.now (list.at + 4 * passed)
        → x ≡ next_word (list_in lent work list) passed
    next_on_sheet e q = rw e (q ∙ sheet_next list.at list.«count» passed lent.sheet.now h)

    pub next_in_work : list.memory ≡ Work → x ≡ next_word work (list.at + passed) → x ≡ next_word (list_in lent work list) passed
    next_in_work e q = rw e (q ∙ part_next list.at list.«count» passed work h)

    pub next_in_left : list.memory ≡ Left → x ≡ next_word lent.left.now (list.at + passed)
        → x ≡ next_word (list_in lent work list) passed
    next_in_left e q = rw e (q ∙ part_next list.at list.«count» passed lent.left.now h)

    pub next_in_right : list.memory ≡ Right → x ≡ next_word lent.right.now (list.at + passed)
        → x ≡ next_word (list_in lent work list) passed
    next_in_right e q = rw e (q ∙ part_next list.at list.«count» passed lent.right.now h)

-- passing a date: the tests that the code makes
-- Past a date from the next word and the value held: a word of that date is passed.
unfoldable pub pass_on : ℕ → Bool → ℕ → ℕ → Step
pass_on word held passed date =
    cond (eqb (word / 4) date)
    (record { before = held; at = value_at word; after = value_after word; passed = passed % 4294967296 + 1 })
    (held_on held passed)

module _ (word : ℕ) (held : Bool) (passed date : ℕ) where
  pub pass_word : word / 4 ≡ date
      → ◌≡◌ {A = Step} (record { before = held; at = value_at word; after = value_after word; passed = passed % 4294967296 + 1 })
      (pass_on word held passed date)
  unfolding pass_on
  pass_word e = rw (eq-eqb (word / 4) date e)

  pub pass_none : (word / 4 ≡ date → ⊥) → held_on held passed ≡ pass_on word held passed date
  unfolding pass_on
  pass_none n = rw (ne_eqb (word / 4) date n)
