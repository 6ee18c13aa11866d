-- The delay of an accepted list, built word by word, is the exact answer: each word is one date of the delay, or two where a change comes
-- before it.
use Prim.Native.Nat.{ℕ, zero, suc, ◌+◌, ◌-◌, ◌≤◌, ◌<◌}
use native.Mathlib.Omega.{arith}
use native.Mathlib.Numerals.{add-one}
use mathlib.Core.Path.{◌≡◌, refl, sym, ◌∙◌, ap}
use mathlib.Core.Bool.{Bool, true, false, cond, ◌&&◌}
use mathlib.Core.List.{List}
use lib.Dec.{ltb, eqb}
use lib.ListN.{length, drop, get_or, drop_of_length-le}
use lib.Seq.{drop-cons}
use borrow.Author.Tests.{ltb-true, eq-eqb, ne_eqb, lt-ltb}
use Rattle.slices.specs.Bytes.{Words}
use Rattle.signals.specs.Moment.{M, gap}
use Rattle.signals.specs.Signal.{Signal}
use Rattle.signals.specs.Words.{most_words, list_fault, date_of, value_at, value_after, last_date, signal_of}
use Rattle.signals.specs.Passing.{held_value, is_next, at_date, after_date, passed_date}
use Rattle.signals.specs.Quantified.{Up}
use Rattle.signals.proofs.Truth.{true_false, and_left, and_right}
use Rattle.signals.proofs.Normal.{accepted_start}
use Rattle.signals.proofs.WordFacts.{date_le}
use Rattle.signals.specs.Answers.{written_of, output_of}
use Rattle.signals.specs.declared.Written.{Written}
use Rattle.operations.specs.Calls.{exact_of_delay, answer_fault}
use Rattle.operations.proofs.NeverMet.{last_32}
use Rattle.reading.specs.Reading.{NEVER, next_date, held_on, step_past}
use Rattle.building.specs.Building.{emitted, emitted_in, Delivers}
use Rattle.building.proofs.Delivering.{delivered}
use Rattle.building.proofs.Built.{Built}
use Rattle.building.specs.declared.Made.{Made}
use Rattle.timing.specs.Delay.{timer, timer_next, reached, risen, on_level, level_of, delayed, delay_of}
use Rattle.timing.specs.declared.Timer.{Timer}
use Rattle.timing.proofs.DelayCases.{next_up, next_waiting}
use Rattle.timing.proofs.DelayTiming.{TimedBy, Timed}
use Rattle.delaying.specs.Turns.{State, state_of, settled, followed, past_word, past_words, first_state, last_state}
use Rattle.delaying.specs.Turns.{Ends}
use Rattle.delaying.proofs.DelayUpcoming.{upcoming_date, next_in, next_end}
use Rattle.delaying.proofs.DelayLoop.{Delaying, gap_value, delaying_begin, delaying_turn, delaying_done}

-- The pending change of a delay whose input stays at the level: it comes at its instant, or after it.
module _ (s : Timer) (d : ℕ) (low : s.level ≡ false) (waits : s.waiting ≡ true) where
  abbrev due : ℕ
  due = s.due.0

  at_due : timer_next s d due true true ≡ cond s.at (timer true false due true) s
  unfolding risen reached
  at_due = next_waiting s d due true true refl low waits ∙ rw (eq-eqb due due refl)

  comes_at : (timer_next s d due true true).level ≡ s.at
  comes_at = ap (λ x. x.level) at_due ∙ go s.at
    where
      go : (t : Bool) → (cond t (timer true false due true) s).level ≡ t
      go true = refl
      go false = low

  comes_after : timer_next (timer_next s d due true true) d due false true ≡ timer true false due s.at
  unfolding risen reached
  comes_after = ap (λ (x : Timer). timer_next x d due false true) at_due ∙ go s.at
    where
      go : (t : Bool) → timer_next (cond t (timer true false due true) s) d due false true ≡ timer true false due t
      go true = next_up (timer true false due true) d due false true refl refl
      go false = next_waiting s d due false true refl low waits ∙ rw (eq-eqb due due refl)

-- a delay that waits has not its level yet, and its input has
timed_waits : (g E : Signal) (n m : ℕ) (s : Timer) → Timed g E n s m → s.waiting ≡ true → (s.level ≡ false) × Up (g m)
timed_waits g E n m s h w = go s.level s.waiting h w
  where
    go : (a b : Bool) → TimedBy g E n a b s.at s.due.0 m → b ≡ true → (a ≡ false) × Up (g m)
    go true true t e = absurd t
    go false true t e = (refl, t.0)
    go true false t e = true_false (sym e)
    go false false t e = true_false (sym e)

on_true : (level : Bool) → level ≡ on_level level true
on_true true = refl
on_true false = refl

-- a date before the next word's, and the next word's
not_next : (l : List ℕ) (p e : ℕ) → e < next_date l p → is_next l p e ≡ false
unfolding is_next next_date
not_next l p e = go (ltb p (length l))
  where
    go : (t : Bool) → e < cond t (date_of (get_or l p 0)) NEVER → (t && eqb (date_of (get_or l p 0)) e) ≡ false
    go true h = ne_eqb (date_of (get_or l p 0)) e (λ q. absurd (omega arith))
    go false h = refl

before_word : (l : List ℕ) (p e : ℕ) → e < next_date l p → step_past l p e ≡ held_on (held_value l p) p
unfolding at_date after_date passed_date
before_word l p e h = rw (not_next l p e h)

at_word : (l : List ℕ) (p : ℕ) → p < length l → step_past l p (date_of (get_or l p 0))
    ≡ (record { before = held_value l p; at = value_at (get_or l p 0); after = value_after (get_or l p 0); passed = p + 1 })
unfolding at_date after_date passed_date is_next
at_word l p h = rw (lt-ltb p (length l) h, eq-eqb (date_of (get_or l p 0)) (date_of (get_or l p 0)) refl)

module _ (level : Bool) (d : ℕ) (l old : List ℕ) where
  -- past so many words, before a date
  abbrev DelayingTo : State → ℕ → ℕ → Type 0
  DelayingTo s p date = Delaying level d l old s.slot p s.timer s.made date

  abbrev DelayingOn : State → ℕ → Type 0
  DelayingOn s p = DelayingTo s p (upcoming_date (next_date l p) s.timer)

  abbrev exact : List ℕ
  exact = exact_of_delay (delay_of level d) d l

  -- the pending change comes
  module _ (s : State) (p : ℕ) (w : s.timer.waiting ≡ true) (h : s.timer.due.0 < next_date l p) (i : DelayingTo s p s.timer.due.0)
      (small : next_date l p ≤ NEVER)
    where
      waits : (s.timer.level ≡ false) × Up (level_of level (signal_of l) (gap i.k))
      waits =
          timed_waits (level_of level (signal_of l)) (delayed level d (level_of level (signal_of l))) (last_date l + d) (gap i.k) s.timer
          i.timed w

      on : true ≡ on_level level (held_value l p)
      on = sym waits.1 ∙ gap_value level l p i.k i.at

      come : DelayingTo
          (state_of (timer true false s.timer.due.0 s.timer.at)
          (emitted s.made s.timer.due.0 (on_level level s.timer.at) level)
          (emitted_in s.slot s.made s.timer.due.0 (on_level level s.timer.at) level)) p (next_date l p)
      unfolding upcoming_date
      come =
          (delaying_turn level d l old s.slot p s.timer s.made s.timer.due.0 i (omega arith) (held_on (held_value l p) p)
          (sym (before_word l p s.timer.due.0 h)) true on _ refl true on _ (sym (comes_after s.timer d waits.0 w)) _
          (ap (on_level level) (sym (comes_at s.timer d waits.0 w))) _ (on_true level) _ refl _ refl _ refl).0

  settles : (s : State) (p : ℕ) → DelayingOn s p → next_date l p ≤ NEVER → DelayingTo (settled level (next_date l p) s) p (next_date l p)
  unfolding settled upcoming_date
  settles s p i small = go (s.timer.waiting && ltb s.timer.due.0 (next_date l p)) refl i
    where
      go : (t : Bool) → (s.timer.waiting && ltb s.timer.due.0 (next_date l p)) ≡ t
          → DelayingTo s p (cond t s.timer.due.0 (next_date l p))
          → DelayingTo
          (cond t (state_of (timer true false s.timer.due.0 s.timer.at)
          (emitted s.made s.timer.due.0 (on_level level s.timer.at) level)
          (emitted_in s.slot s.made s.timer.due.0 (on_level level s.timer.at) level)) s) p (next_date l p)
      go true e j =
          come s p (and_left s.timer.waiting (ltb s.timer.due.0 (next_date l p)) e)
          (ltb-true s.timer.due.0 (next_date l p) (and_right s.timer.waiting (ltb s.timer.due.0 (next_date l p)) e)) j small
      go false e j = j

  -- a word is passed
  passes : (s : State) (p : ℕ) → p < length l → Words l → DelayingOn s p → DelayingOn (past_word level d s (get_or l p 0)) (p + 1)
  unfolding past_word followed
  passes s p h small i =
      let e = next_in l p h in
      let date : date_of (get_or l p 0) < NEVER = below in
      let j : DelayingTo (settled level (date_of (get_or l p 0)) s) p (date_of (get_or l p 0)) = rw e at
      (settles s p i (rw e (omega arith))) in
      (delaying_turn level d l old _ p _ _ (date_of (get_or l p 0)) j date _ (sym (at_word l p h)) _ refl _ refl _ refl _ refl _ refl _
      refl _
      refl _ refl _ refl).0
    where
      below : date_of (get_or l p 0) < NEVER
      below = omega (arith, date_le (get_or l p 0) (small p))

  runs : Words l → (n p : ℕ) → p + n ≡ length l → (s : State) → DelayingOn s p
      → Built exact old (past_words level d (drop p l) s).slot (past_words level d (drop p l) s).made
  unfolding past_words
  runs small zero p e s i =
      let h : length l ≤ p = omega arith in
      let j : DelayingTo (settled level NEVER s) p NEVER = rw (next_end l p h) at (settles s p i (rw (next_end l p h) (omega arith))) in
      rw (drop_of_length-le l {i = p} h) (delaying_done level d l old _ p _ _ NEVER j (omega arith))
  runs small (suc n) p e s i =
      let h : p < length l = omega arith in
      rw (drop-cons l p 0 h)
      (rw add-one at (runs small n (p + 1) (omega arith) (past_word level d s (get_or l p 0)) (passes s p h small i)))

  pub delayed_exact : list_fault l ≡ 0 → d ≤ M → Words l
      → Built exact old (last_state level d l old).slot (last_state level d l old).made
  unfolding last_state first_state
  delayed_exact accepted short small =
      runs small (length l - 1) 1 (omega (arith, (accepted_start l accepted).within)) _
      (delaying_begin level d l old accepted short (last_32 l (λ i h. small i)) _ refl _ refl _ refl _ refl _ refl _ refl)

-- what is delivered of it is what the call gives, where the slot holds an answer that is not too long
pub delay_answers : (level : Bool) (d : ℕ) (l : List ℕ) → list_fault l ≡ 0 → d ≤ M → Words l
    → (old : List ℕ) (made : Made) (slot : List ℕ) → Ends (last_state level d l old) made slot
    → (made.count ≤ most_words → made.count ≤ length old) → length slot ≡ length old → (out : List ℕ) (answer : Written) (after : List ℕ)
    → Delivers made slot out answer after
    → let exact = exact_of_delay (delay_of level d) d l in
    (answer ≡ written_of (answer_fault exact (length out)) exact) × (after ≡ output_of (answer_fault exact (length out)) exact out)
delay_answers level d l accepted short small old made slot (m, t) holds full out answer after =
    let built : Built (exact_of_delay (delay_of level d) d l) old slot made = rw (m, t)
    (delayed_exact level d l old accepted short small) in
    delivered (exact_of_delay (delay_of level d) d l) old slot made built
    (λ h. omega (arith, built.count_is, holds (omega (arith, built.count_is)))) full out answer after
