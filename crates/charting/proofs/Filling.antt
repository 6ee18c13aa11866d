-- Filling the column: what the loop keeps while one reader goes along with the moments, one turn of it, and its end.
use Prim.Native.Nat.{ℕ, suc, ◌+◌, ◌-◌, ◌/◌, ◌≤◌, ◌<◌}
use native.Mathlib.Omega.{arith}
use mathlib.Core.Path.{◌≡◌, refl, sym, ◌∙◌, ap, subst}
use mathlib.Core.Bool.{Bool, true, false, cond}
use mathlib.Core.List.{List, ◌++◌}
use lib.Dec.{eqb}
use lib.ListN.{length, get_or, take, drop, set, length-set, length-map}
use lib.Seq.{take_all}
use borrow.Author.Tests.{ne_eqb}
use Rattle.signals.specs.Signal.{num}
use Rattle.signals.specs.Moment.{gap, instant}
use Rattle.signals.specs.Words.{list_fault, signal_of}
use Rattle.reading.specs.Dated.{dated_by}
use Rattle.reading.specs.Reading.{step_past}
use Rattle.reading.specs.Along.{along_to, Sought}
use Rattle.reading.specs.declared.Step.{Step}
use Rattle.reading.proofs.AlongWords.{first_dated, sought_from}
use Rattle.building.proofs.Delivering.{copy_next}
use Rattle.columns.specs.Numbers.{is_gap_number, date_in, moment_of}
use Rattle.columns.specs.Columns.{not_rising, column_word, column_words, words_passed}
use Rattle.columns.proofs.CallGives.{each_word}
use Rattle.charting.proofs.Judging.{risen}

-- how many words the first i moments pass
abbrev passed_to : List ℕ → List ℕ → ℕ → ℕ
passed_to l ms i = cond (eqb i 0) 0 (dated_by (date_in (get_or ms (i - 1) 0)) l)

-- after i moments: the reader is behind an earlier date than that of the next moment, or the same
pub record Filling (l ms old : List ℕ) (behind passed i : ℕ) (out : List ℕ) : Type 0 where
  pub date : ℕ
  pub there : behind ≡ dated_by (date - 1) l
  pub next : i < length ms → date ≤ date_in (get_or ms i 0)
  pub within : i ≤ length ms
  pub counted : passed ≡ passed_to l ms i
  pub long : length out ≡ length old
  pub written : out ≡ take i (column_words l ms) ++ drop i old

module _ (l ms old : List ℕ) (z : list_fault l ≡ 0) (rising : not_rising ms ≡ false) (room : length ms ≤ length old) where
  pub filling_start : Filling l ms old 1 0 0 old
  filling_start =
      record {
        date = 0;
        there = first_dated l z;
        next = λ h. omega arith;
        within = omega arith;
        counted = refl;
        long = refl;
        written = refl;
      }

  -- the value found is the moment's
  word_is : (m : ℕ) (step : Step) → Sought l (date_in m) step → num (cond (is_gap_number m) step.after step.at) ≡ column_word l m
  unfolding column_word moment_of
  word_is m step s = go (is_gap_number m)
    where
      go : (b : Bool) → num (cond b step.after step.at) ≡ num (signal_of l (cond b (gap (date_in m)) (instant (date_in m))))
      go true = ap num s.2
      go false = ap num s.1

  module _ (behind passed i : ℕ) (out : List ℕ) (f : Filling l ms old behind passed i out) (h : i < length ms) where
    -- a turn: along to the moment's date, past it, and its word written
    pub filling_next : (on : ℕ) (step : Step) (word : ℕ) → on ≡ along_to l behind (get_or ms i 0 / 2)
        → step ≡ step_past l on (get_or ms i 0 / 2) → word ≡ num (cond (is_gap_number (get_or ms i 0)) step.after step.at)
        → Filling l ms old on step.passed (i + 1) (set out i word)
    unfolding date_in column_words
    filling_next on step word along past is =
        let found = sought_from l z f.date (get_or ms i 0 / 2) behind on step (f.next h) f.there along past in
        let last : i + 1 - 1 ≡ i = omega arith in
        let more : i + 1 ≡ suc i = omega arith in
        let long : length (column_words l ms) ≡ length ms = length-map ms (column_word l) in
        let at : word ≡ get_or (column_words l ms) i 0 = is ∙ word_is (get_or ms i 0) step found.1 ∙ sym
        (each_word (column_word l) ms i h) in
        record {
          date = get_or ms i 0 / 2;
          there = found.0;
          next = λ g. subst (λ (j : ℕ). get_or ms i 0 / 2 ≤ get_or ms j 0 / 2) (sym more)
              (omega (arith, risen ms rising i (omega (arith, g))));
          within = omega arith;
          counted = rw (ne_eqb (i + 1) 0 (λ e. omega (arith, e)), last) found.1.0;
          long = length-set out i word ∙ f.long;
          written = ap (set out i) at
              ∙ copy_next (column_words l ms) old out i f.written (omega (arith, long, h)) (omega (arith, h, room));
        }

  -- at the end the last moment is that of the whole column
  pub filling_end : (behind passed i : ℕ) (out : List ℕ) → Filling l ms old behind passed i out → length ms ≤ i
      → (passed ≡ words_passed l ms) × (out ≡ column_words l ms ++ drop (length ms) old)
  unfolding words_passed column_words
  filling_end behind passed i out f le =
      let all : i ≡ length ms = omega (arith, f.within) in
      let whole : take (length ms) (column_words l ms) ≡ column_words l ms =
      take_all (length ms) (column_words l ms) (rw (length-map ms (column_word l)) (omega arith)) in (
        f.counted ∙ ap (passed_to l ms) all,
        f.written ∙ ap (λ (j : ℕ). take j (column_words l ms) ++ drop j old) all
            ∙ ap (λ (ws : List ℕ). ws ++ drop (length ms) old) whole,
      )
