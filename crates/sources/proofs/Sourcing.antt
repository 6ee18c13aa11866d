-- What a loop over sources stands on: the next word against the reader's definitions, and the list that a source names while the slot of
-- the answer changes.
use Prim.Native.Nat.{ℕ, zero, suc, ◌+◌, ◌-◌, ◌/◌, ◌≤◌, ◌<◌, min}
use native.Mathlib.Omega.{arith}
use native.Mathlib.Nat.{mod-eq_of_lt}
use mathlib.Core.Path.{◌≡◌, refl, sym, ◌∙◌, ap}
use mathlib.Core.Bool.{Bool, true, false, cond, ◌&&◌, ◌||◌}
use mathlib.Core.List.{List, [], ◌∷◌, ◌++◌, append_assoc}
use lib.Dec.{leb, ltb, eqb}
use lib.ListN.{length, take, drop, get_or, length-take, length-drop, length-append, take-append-drop, get_or-eq_default}
use lib.Seq.{get_or-take, get_or-drop, drop-drop, length-take-le, drop_at, take_at, take-append-le, drop-append-le}
use borrow.Author.Tests.{lt-ltb, ltb-true, ltb-false, leb-true, ne_eqb}
use Rattle.slices.specs.Bytes.{low32, words_in, Bytes, Words}
use Rattle.signals.specs.Words.{date_of, value_at, value_after}
use Rattle.signals.specs.Passing.{held_value, is_next, at_date, after_date, passed_date}
use Rattle.reading.specs.Reading.{NEVER, next_date, held_on, step_past}
use Rattle.sources.specs.Sources.{no_word, next_word, list_on_sheet, list_from, list_at, apart_in, apart_from, slot_in, with_slot}
use Rattle.sources.specs.declared.Memory.{Memory}
use Rattle.sources.specs.declared.Memory.TheVariants.{Sheet, Work, Left, Right}
use Rattle.sources.specs.declared.Source.{Source}
use Rattle.sources.proofs.SourceWords.{pass_on, word_left, at_most}

-- the date of the next word
pub next_word_date : (l : List ℕ) (i : ℕ) → next_word l i / 4 ≡ next_date l i
unfolding next_word next_date date_of
next_word_date l i = go (ltb i (length l))
  where
    go : (t : Bool) → cond t (get_or l i 0) no_word / 4 ≡ cond t (get_or l i 0 / 4) NEVER
    go true = refl
    go false = refl

-- where a word is left, it is below NEVER
pub date_of_left : (l : List ℕ) (i : ℕ) → Words l → i < length l → next_word l i / 4 < NEVER
date_of_left l i w h = rw (word_left l i h) (omega (arith, w i))

-- passing a date by the next word is the reader's step
pub pass_is_step : (l : List ℕ) (i d : ℕ) → d < NEVER → i < 4294967296 → pass_on (next_word l i) (held_value l i) i d ≡ step_past l i d
unfolding pass_on next_word at_date after_date passed_date is_next date_of
pass_is_step l i d small few = rw (mod-eq_of_lt few) (go (ltb i (length l)))
  where
    never : eqb NEVER d ≡ false
    never = ne_eqb NEVER d (λ e. absurd (omega arith))

    past : (t : Bool)
        → cond t
        (record { before = held_value l i; at = value_at (get_or l i 0); after = value_after (get_or l i 0); passed = i + 1 })
        (held_on (held_value l i) i)
        ≡ (record {
          before = held_value l i;
          at = cond t (value_at (get_or l i 0)) (held_value l i);
          after = cond t (value_after (get_or l i 0)) (held_value l i);
          passed = cond t (i + 1) i;
        })
    past true = refl
    past false = refl

    go : (t : Bool)
        → cond (eqb (cond t (get_or l i 0) no_word / 4) d)
        (record {
          before = held_value l i;
          at = value_at (cond t (get_or l i 0) no_word);
          after = value_after (cond t (get_or l i 0) no_word);
          passed = i + 1;
        })
        (held_on (held_value l i) i)
        ≡ (record {
          before = held_value l i;
          at = cond (t && eqb (get_or l i 0 / 4) d) (value_at (get_or l i 0)) (held_value l i);
          after = cond (t && eqb (get_or l i 0 / 4) d) (value_after (get_or l i 0)) (held_value l i);
          passed = cond (t && eqb (get_or l i 0 / 4) d) (i + 1) i;
        })
    go true = past (eqb (get_or l i 0 / 4) d)
    go false = rw never

-- the value held after a step is the step's value after the date
pub held_after : (l : List ℕ) (i d : ℕ) → held_value l (passed_date l i d) ≡ after_date l i d
unfolding passed_date after_date held_value
held_after l i d = go (is_next l i d)
  where
    go : (t : Bool) → value_after (get_or l (cond t (i + 1) i - 1) 0) ≡ cond t (value_after (get_or l i 0))
        (value_after (get_or l (i - 1) 0))
    go true = let e : i + 1 - 1 ≡ i = omega arith in rw e
    go false = refl

-- the value in gap 0 is the first word's
pub first_held : (l : List ℕ) → value_after (next_word l 0) ≡ held_value l 1
unfolding next_word held_value value_after
first_held [] = refl
first_held (w ∷ ws) = rw (lt-ltb 0 (suc (length ws)) (omega arith))

-- a source names at most its count of words
pub list_short : (sheet left right work : List ℕ) (s : Source) → length (list_at sheet left right work s) ≤ s.count
list_short sheet left right work s = at_most sheet left right work s

-- the words of a part are those of the whole, or 0
words_part : (l : List ℕ) (at count : ℕ) → Words l → Words (take count (drop at l))
words_part l at count w i = go (ltb i count) refl
  where
    go : (t : Bool) → ltb i count ≡ t → get_or (take count (drop at l)) i 0 < 4294967296
    go true e = rw (get_or-take count (drop at l) i 0 (ltb-true i count e), get_or-drop at l i 0) (w (at + i))
    go false e =
        rw (get_or-eq_default {A = ℕ} (take count (drop at l)) 0 {n = i}
        (rw (length-take count (drop at l)) (let q = ltb-false i count e in omega arith))) (omega arith)

words_below : (n : ℕ) (bytes : List ℕ) → Bytes bytes → Words (words_in n bytes)
unfolding words_in low32
words_below zero bytes b i = omega arith
words_below (suc n) bytes b zero = omega (arith, b 0, b 1, b 2, b 3)
words_below (suc n) bytes b (suc i) = words_below n (drop 4 bytes) (λ k. rw (get_or-drop 4 bytes k 0) (b (4 + k))) i

pub words_at : (sheet left right work : List ℕ) (s : Source) → Bytes sheet → Words left → Words right → Words work
    → Words (list_at sheet left right work s)
unfolding list_on_sheet
words_at sheet left right work s b l r w = go s.memory
  where
    go : (m : Memory) → Words (list_from m sheet left right work s.at s.count)
    go Sheet =
        words_below (min s.count ((length sheet - s.at) / 4)) (drop s.at sheet)
        (λ k. rw (get_or-drop s.at sheet k 0) (b (s.at + k)))
    go Work = words_part work s.at s.count w
    go Left = words_part left s.at s.count l
    go Right = words_part right s.at s.count r

-- a part of the front of a list
front_part : (p q : List ℕ) (from count : ℕ) → from + count ≤ length p → take count (drop from (p ++ q)) ≡ take count (drop from p)
front_part p q from count h =
    ap (λ (l : List ℕ). take count l) (drop-append-le from p q (omega arith))
    ∙ take-append-le count (drop from p) q (rw (length-drop from p) (omega arith))

-- The work area with other words in a slot of it.
module _ (work : List ℕ) (at room : ℕ) (fits : at + room ≤ length work) where
  front : length (take at work) ≡ at
  front = length-take-le at work (omega arith)

  -- the slot as it is
  pub slot_kept : with_slot work at room (slot_in work at room) ≡ work
  slot_kept =
      ap (λ (l : List ℕ). take at work ++ (take room (drop at work) ++ l)) (sym (drop-drop room at work))
      ∙ ap (λ (l : List ℕ). take at work ++ l) (take-append-drop room (drop at work))
      ∙ take-append-drop at work

  pub slot_long : length (slot_in work at room) ≡ room
  slot_long = length-take-le room (drop at work) (rw (length-drop at work) (omega arith))

  -- a part lent from `at` to `at + room` that comes back with other words
  pub part_back : (slot : List ℕ) (k : ℕ) → k ≡ room → take at work ++ (slot ++ drop k (drop at work)) ≡ with_slot work at room slot
  part_back slot k e = ap (λ (l : List ℕ). take at work ++ (slot ++ l)) (rw e (drop-drop room at work))

  module _ (slot : List ℕ) (full : length slot ≡ room) where
    past_slot : drop (at + room) (with_slot work at room slot) ≡ drop (at + room) work
    past_slot =
        ap (λ (l : List ℕ). drop (at + room) l) (sym (append_assoc (take at work) slot (drop (at + room) work)))
        ∙ drop_at (take at work ++ slot) (drop (at + room) work) (at + room) (rw (length-append (take at work) slot, front, full))

    -- it is as long as before, and the slot holds those words
    pub with_slot_long : length (with_slot work at room slot) ≡ length work
    with_slot_long =
        length-append (take at work) (slot ++ drop (at + room) work)
        ∙ rw (length-append slot (drop (at + room) work), front, full, length-drop (at + room) work) (omega arith)

    pub slot_back : slot_in (with_slot work at room slot) at room ≡ slot
    slot_back =
        ap (λ (l : List ℕ). take room l) (drop_at (take at work) (slot ++ drop (at + room) work) at front)
        ∙ take_at slot (drop (at + room) work) room full

    -- other words once more
    pub slot_again : (next : List ℕ) → with_slot (with_slot work at room slot) at room next ≡ with_slot work at room next
    slot_again next =
        ap (λ (l : List ℕ). l ++ (next ++ drop (at + room) (with_slot work at room slot)))
        (take_at (take at work) (slot ++ drop (at + room) work) at front)
        ∙ ap (λ (l : List ℕ). take at work ++ (next ++ l)) past_slot

    -- a list apart from the slot is as it was
    part_before : (from count : ℕ) → from + count ≤ at
        → take count (drop from (with_slot work at room slot)) ≡ take count (drop from work)
    part_before from count h =
        let k : from + count ≤ length (take at work) = rw front h in
        front_part (take at work) (slot ++ drop (at + room) work) from count k
        ∙ sym (front_part (take at work) (drop at work) from count k)
        ∙ ap (λ (l : List ℕ). take count (drop from l)) (take-append-drop at work)

    pub part_after : (from : ℕ) → at + room ≤ from → drop from (with_slot work at room slot) ≡ drop from work
    part_after from h =
        let e : at + room + (from - (at + room)) ≡ from = omega arith in
        ap (λ (k : ℕ). drop k (with_slot work at room slot)) (sym e)
        ∙ sym (drop-drop (from - (at + room)) (at + room) (with_slot work at room slot))
        ∙ ap (λ (l : List ℕ). drop (from - (at + room)) l) past_slot
        ∙ drop-drop (from - (at + room)) (at + room) work
        ∙ ap (λ (k : ℕ). drop k work) e

    part_apart : (from count : ℕ) → (leb (from + count) at || leb (at + room) from) ≡ true
        → take count (drop from (with_slot work at room slot)) ≡ take count (drop from work)
    part_apart from count e = go (leb (from + count) at) refl
      where
        go : (t : Bool) → leb (from + count) at ≡ t → take count (drop from (with_slot work at room slot)) ≡ take count (drop from work)
        go true q = part_before from count (leb-true (from + count) at q)
        go false q = ap (λ (l : List ℕ). take count l) (part_after from (leb-true (at + room) from (rw q at e)))

    pub apart_kept : (sheet left right : List ℕ) (s : Source) → apart_from s at room ≡ true
        → list_at sheet left right (with_slot work at room slot) s ≡ list_at sheet left right work s
    apart_kept sheet left right s = go s.memory
      where
        go : (m : Memory) → apart_in m s.at s.count at room ≡ true
            → list_from m sheet left right (with_slot work at room slot) s.at s.count
            ≡ list_from m sheet left right work s.at s.count
        go Sheet e = refl
        go Work e = part_apart s.at s.count e
        go Left e = refl
        go Right e = refl
