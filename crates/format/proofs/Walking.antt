-- One turn of a loop over words or signals, and what is known of the signals passed.
use Prim.Native.Nat.{ℕ, zero, suc, ◌+◌, ◌-◌, ◌*◌, ◌≤◌, ◌<◌, ◌/◌, ◌%◌}
use native.Mathlib.Omega.{arith}
use mathlib.Core.Path.{◌≡◌, refl, sym, ap, ◌∙◌}
use mathlib.Core.Bool.{Bool, true, false}
use mathlib.Core.List.{List}
use lib.Dec.{eqb}
use lib.ListN.{length, take, drop, length-drop}
use lib.Seq.{drop-drop}
use borrow.Author.Tests.{lt-leb, le-leb, lt-ltb, le-ltb}
use Rattle.signals.specs.Words.{date_of, value_after, head_value, changes_nothing}
use Rattle.format.specs.Names.{same, unpadded}
use Rattle.slices.specs.Bytes.{low16, low32}
use Rattle.format.specs.Reading.{name_at, word_count, signal_size, later_words_fault, sheet_words_fault}
use Rattle.format.specs.Calls.{place_from}
use Rattle.format.specs.Walk.{Whole}
use Rattle.format.specs.Calls.{whole_signals, place_among}
use Rattle.format.specs.declared.Place.{Place}
use Rattle.format.specs.declared.Place.TheVariants.{At, Refused}

pub sub_step : (n i : ℕ) → i < n → n - i ≡ suc (n - (i + 1))
sub_step n i h = omega arith

pub short : (s : List ℕ) (at k : ℕ) → length s - at < k → length (drop at s) < k
short s at k h = rw length-drop h

pub long : (s : List ℕ) (at k : ℕ) → k ≤ length s - at → k ≤ length (drop at s)
long s at k h = rw length-drop h

-- the name field at a place
pub field_is : (s : List ℕ) (at : ℕ) → take (at + 8 - at) (drop at s) ≡ take 8 (drop at s)
field_is s at = let e : at + 8 - at ≡ 8 = omega arith in rw e

-- one of the words after the first, w, at a place
module _ (last : ℕ) (before : Bool) (n i : ℕ) (s : List ℕ) (at : ℕ) (h : i < n) where
  pub later_cut : length s - at < 4 → later_words_fault last before (n - i) (drop at s) ≡ 15
  unfolding later_words_fault
  later_cut p = rw (sub_step n i h, lt-ltb _ _ (short s at 4 p))

  module _ (w : ℕ) (e : w ≡ low32 (drop at s)) (p : 4 ≤ length s - at) where
    pub later_date : w / 4 ≤ last → later_words_fault last before (n - i) (drop at s) ≡ 17
    unfolding later_words_fault date_of
    later_date q = rw (sub_step n i h, le-ltb _ _ (long s at 4 p), ← e, le-leb _ _ q)

    pub later_same : last < w / 4 → changes_nothing before w ≡ true → later_words_fault last before (n - i) (drop at s) ≡ 17
    unfolding later_words_fault date_of
    later_same q r = rw (sub_step n i h, le-ltb _ _ (long s at 4 p), ← e, lt-leb _ _ q, r)

    pub later_next : last < w / 4 → changes_nothing before w ≡ false
        → later_words_fault (w / 4) (eqb (w % 2) 1) (n - (i + 1)) (drop (at + 4) s) ≡ later_words_fault last before (n - i) (drop at s)
    unfolding later_words_fault date_of value_after
    later_next q r = sym (rw (sub_step n i h, le-ltb _ _ (long s at 4 p), ← e, lt-leb _ _ q, r, drop-drop))

pub later_end : (last : ℕ) (before : Bool) (n i : ℕ) (rest : List ℕ) → n ≤ i → later_words_fault last before (n - i) rest ≡ 0
unfolding later_words_fault
later_end last before n i rest h = let e : n - i ≡ 0 = omega arith in rw e

-- the first word
module _ (n : ℕ) (s : List ℕ) (at : ℕ) where
  pub words_cut : length s - at < 4 → sheet_words_fault n (drop at s) ≡ 15
  unfolding sheet_words_fault
  words_cut p = rw (lt-ltb _ _ (short s at 4 p))

  module _ (w : ℕ) (e : w ≡ low32 (drop at s)) (p : 4 ≤ length s - at) where
    pub words_high : 1 < w → sheet_words_fault n (drop at s) ≡ 17
    unfolding sheet_words_fault
    words_high q = rw (le-ltb _ _ (long s at 4 p), ← e, lt-ltb _ _ q)

    pub words_next : w ≤ 1 → later_words_fault 0 (eqb w 1) (n - 1) (drop (at + 4) s) ≡ sheet_words_fault n (drop at s)
    unfolding sheet_words_fault head_value
    words_next q = sym (rw (le-ltb _ _ (long s at 4 p), ← e, le-ltb _ _ q, drop-drop))

-- the word count and the size of a signal
pub count_at : (s : List ℕ) (at r : ℕ) → r ≡ low16 (drop (at + 8) s) → r ≡ word_count (drop at s)
unfolding word_count
count_at s at r h = h ∙ ap low16 (sym (drop-drop 8 at s))

pub size_at : (rest : List ℕ) (r : ℕ) → r ≡ low16 (drop 8 rest) → 10 + 4 * r ≡ signal_size rest
unfolding signal_size word_count
size_at rest r h = ap (λ (k : ℕ). 10 + 4 * k) h

pub size_least : (rest : List ℕ) → 10 ≤ signal_size rest
unfolding signal_size
size_least rest = omega arith

words_size : (rest : List ℕ) → 4 * word_count rest ≡ signal_size rest - 10
unfolding signal_size
words_size rest = omega arith

-- the signals that are whole: all where all are, none where the first is cut, else one before the others
pub wholes_all : (n : ℕ) (rest : List ℕ) → Whole n rest → whole_signals n rest ≡ n
unfolding whole_signals
wholes_all zero rest w = refl
wholes_all (suc n) rest w = rw (le-ltb _ _ w.0, wholes_all n (drop (signal_size rest) rest) w.1)

wholes_none : (n : ℕ) (rest : List ℕ) → length rest < signal_size rest → whole_signals n rest ≡ 0
unfolding whole_signals
wholes_none zero rest p = refl
wholes_none (suc n) rest p = rw (lt-ltb _ _ p)

wholes_one : (n i : ℕ) (rest : List ℕ) → i < n → signal_size rest ≤ length rest
    → whole_signals (n - i) rest ≡ suc (whole_signals (n - (i + 1)) (drop (signal_size rest) rest))
unfolding whole_signals
wholes_one n i rest h p = rw (sub_step n i h, le-ltb _ _ p)

-- no signal is left to look at, or the next is cut
pub place_end : (name : List ℕ) (at n i : ℕ) (rest : List ℕ) → n ≤ i → place_among name at (n - i) rest ≡ Refused 13
unfolding place_from whole_signals
place_end name at n i rest h = let e : n - i ≡ 0 = omega arith in rw e

pub place_cut : (name : List ℕ) (at n : ℕ) (rest : List ℕ) → length rest < signal_size rest → place_among name at n rest ≡ Refused 13
unfolding place_from
place_cut name at n rest p = rw (wholes_none n rest p)

-- the sheet ends before its first signal
pub place_short : (name sheet : List ℕ) (n : ℕ) → length sheet < 7 → place_among name 7 n (drop 7 sheet) ≡ Refused 13
place_short name sheet n p = place_cut name 7 n (drop 7 sheet) (omega (arith, length-drop 7 sheet, size_least (drop 7 sheet)))

-- a signal of this size stands whole at a place, and a turn has read its name
module _ (name sheet : List ℕ) (at n i : ℕ) (whole : Place) (h : i < n) (size : ℕ) (s : size ≡ signal_size (drop at sheet))
    (p : size ≤ length sheet - at) (held : List ℕ) (alike : Bool) (e : held ≡ unpadded (take (at + 8 - at) (drop at sheet)))
    (a : alike ≡ same held name) (inv : place_among name at (n - i) (drop at sheet) ≡ whole) where
  held_is : same (name_at (drop at sheet)) name ≡ alike
  unfolding name_at
  held_is = sym (a ∙ rw (e, field_is sheet at))

  one : whole_signals (n - i) (drop at sheet) ≡ suc (whole_signals (n - (i + 1)) (drop (signal_size (drop at sheet)) (drop at sheet)))
  one = wholes_one n i (drop at sheet) h (omega (arith, length-drop at sheet, s))

  pub found : alike ≡ true → At (at + 10) (size - 10) ≡ whole
  unfolding place_from
  found t = rw (s, ← words_size (drop at sheet)) (sym (rw (one, held_is, t) refl) ∙ inv)

  pub not_here : alike ≡ false → place_among name (at + size) (n - (i + 1)) (drop (at + size) sheet) ≡ whole
  unfolding place_from
  not_here t = rw (s, ← drop-drop) (sym (rw (one, held_is, t) refl) ∙ inv)
