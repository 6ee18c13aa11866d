-- The pulses of an accepted list, built word by word, are the exact answer.
use Prim.Native.Nat.{ℕ, zero, suc, ◌+◌, ◌-◌, ◌≤◌, ◌<◌}
use native.Mathlib.Omega.{arith}
use native.Mathlib.Numerals.{add-one}
use native.Mathlib.Decide.{dec_le, dec_lt}
use mathlib.Core.Path.{◌≡◌, refl, sym, ◌∙◌, ap, subst}
use mathlib.Core.Bool.{Bool, true, false, not, cond, ◌&&◌}
use mathlib.Core.List.{List}
use lib.Dec.{leb, ltb}
use lib.ListN.{length, drop, get_or, drop_of_length-le}
use lib.Seq.{drop-cons}
use borrow.Author.Tests.{le-ltb, ltb-true, ltb-false, leb-true}
use Rattle.slices.specs.Bytes.{Words}
use Rattle.signals.specs.Moment.{M, gap, instant, tick}
use Rattle.signals.specs.Signal.{Signal, TP}
use Rattle.signals.specs.Words.{list_fault, date_of, value_at, value_after, last_date, signal_of}
use Rattle.signals.specs.Passing.{held_value}
use Rattle.signals.specs.PulseSteps.{ticks_left}
use Rattle.signals.proofs.Truth.{and_right}
use Rattle.signals.proofs.Scan.{Held}
use Rattle.signals.proofs.Operand.{At, at_take, at_end_lem, held_next}
use Rattle.signals.proofs.Normal.{accepted_start, next_within}
use Rattle.operations.specs.Calls.{exact_of_delay}
use Rattle.operations.proofs.NeverMet.{last_32}
use Rattle.building.specs.Building.{idle, emitted, emitted_in}
use Rattle.building.proofs.Built.{Built}
use Rattle.building.proofs.Scanning.{Scanning, scanning_begin, scanning_emit, scanning_done}
use Rattle.signals.specs.Answers.{sum_of}
use Rattle.timing.specs.Delay.{date_in}
use Rattle.timing.proofs.DelayTiming.{sum_exact}
use Rattle.lent_slots.specs.Lent.{Ended, through}
use Rattle.pulsing.specs.Turns.{Pulse, State, put_from, closed, starts_at, started_at, past_date, past_word, finish}
use Rattle.pulsing.specs.Turns.{first_state, pulse_engine}
use Rattle.pulsing.proofs.Ticks.{falls, at_word, up_before, down_from, shown_at_lem, shown_after}

-- the ticks of moments between two dates
tick_low : (q t : ℕ) → gap q ≤ t → q ≤ tick t
unfolding tick
tick_low q t l = omega arith

tick_high : (n t : ℕ) → t < instant n → tick t < n
unfolding tick
tick_high n t l = omega arith

-- what changes nothing is not put in
put_idle : (e : Ended) (date : ℕ) → e.made.value ≡ false → put_from e date false ≡ e
unfolding emitted emitted_in idle
put_idle e date v = rw v

module _ (d : ℕ) (l old : List ℕ) (accepted : list_fault l ≡ 0) (short : d ≤ M) (small : Words l) where
  abbrev f : Signal
  f = signal_of l

  abbrev horizon : ℕ
  horizon = last_date l + d

  early : last_date l ≤ M
  early = last_32 l (λ i h. small i)

  -- the answer up to date q is in the slot
  abbrev Scanned : ℕ → Ended → Type 0
  Scanned q e = Scanning (TP d f) horizon q old e.slot e.made

  -- from date q to before date n the last pulse runs up to its end
  abbrev Runs : ℕ → ℕ → ℕ → Type 0
  Runs due q n = (j : ℕ) → q ≤ j → j < n → ticks_left d f j ≡ due - j

  -- the answer up to some date before n is in the slot, and from there to n nothing changes
  record Stands (e : Ended) (n : ℕ) : Type 0 where
    since : ℕ
    before : since < n
    scanned : Scanned since e
    still : (t : ℕ) → gap since ≤ t → t < instant n → TP d f t ≡ TP d f (gap since)

  -- the end of the last pulse is put in
  down : (e : Ended) (due q n : ℕ) → Scanned q e → Runs due q n → q < n → due < n → due ≤ horizon → Stands (put_from e due false) n
  down e due q n s runs l u m = go (dec_lt q due)
    where
      value : (t : ℕ) → gap q ≤ t → t < instant n → due ≤ tick t → TP d f t ≡ false
      value t a b c = down_from d f due t (runs (tick t) (tick_low q t a) (tick_high n t b)) c

      go : Dec (q < due) → Stands (put_from e due false) n
      go (yes o) =
          record {
            since = due;
            before = u;
            scanned = scanning_emit (TP d f) horizon old q due true false false e.slot e.made s held m (omega (arith, early));
            still = λ t a b. value t (omega arith) b (tick_low due t a) ∙ sym held.after;
          }
        where
          held : Held (TP d f) q due true false false
          held =
              record {
                later = o;
                still = λ t a b. up_before d f due t (runs (tick t) (tick_low q t a) (tick_high n t (omega arith))) (tick_high due t b);
                at = shown_at_lem d f due (due - due) (runs due (omega arith) u) (omega arith) ∙ le-ltb 0 (due - due) (omega arith);
                after = shown_after d f due (due - due) (runs due (omega arith) u) ∙ le-ltb 0 (due - due) (omega arith);
              }
      go (no o) =
          let here : TP d f (gap q) ≡ false = value (gap q) (omega arith) (omega arith) (omega (arith, tick_low q (gap q) (omega arith))) in
          record {
            since = q;
            before = l;
            scanned = subst (λ (x : Ended). Scanned q x) (sym (put_idle e due (sym s.value_is ∙ here))) s;
            still = λ t a b. value t a b (omega (arith, tick_low q t a)) ∙ sym here;
          }

  -- where it comes before date n
  close : (e : Ended) (due q n : ℕ) → Scanned q e → Runs due q n → q < n → due ≤ n → due ≤ horizon → Stands (closed due n e) n
  unfolding closed
  close e due q n s runs l u m = go (ltb due n) refl
    where
      go : (t : Bool) → ltb due n ≡ t → Stands (cond t (put_from e due false) e) n
      go true p = down e due q n s runs l (ltb-true due n p) m
      go false p =
          let end : due ≡ n = omega (arith, ltb-false due n p) in
          let up : (t : ℕ) → gap q ≤ t → t < instant n → TP d f t ≡ true =
          λ t a b. up_before d f due t (runs (tick t) (tick_low q t a) (tick_high n t b)) (omega (arith, tick_high n t b)) in
          record { since = q; before = l; scanned = s; still = λ t a b. up t a b ∙ sym (up (gap q) (omega arith) (omega arith)) }

  -- a pulse starts at date n
  start : (e : Ended) (due q n : ℕ) → Scanned q e → Runs due q n → q < n → due ≤ n → due ≤ horizon → n ≤ horizon → ticks_left d f n ≡ d
      → Scanned n (started_at d due n e)
  unfolding started_at
  start e due q n s runs l u m h new =
      let c : Stands (closed due n e) n = close e due q n s runs l u m in
      scanning_emit (TP d f) horizon old c.since n (TP d f (gap c.since)) (ltb 0 d) (ltb 0 d) _ _ c.scanned
      (record {
        later = c.before;
        still = c.still;
        at = shown_at_lem d f n d new (omega arith);
        after = shown_after d f n d new;
      })
      h (omega (arith, early))

  -- past so many words: k is the date of the last, q that up to which the answer is in the slot
  record Pulsing (s : State) (p : ℕ) : Type 0 where
    k : ℕ
    q : ℕ
    at : At f l p k
    holds : s.held ≡ held_value l p
    within : k ≤ last_date l
    before : q ≤ k
    scanned : Scanned q s.pulse.built
    runs : (j : ℕ) → q ≤ j → j ≤ k → ticks_left d f j ≡ s.pulse.due - j
    ends : s.pulse.due ≤ horizon

  first : Pulsing (first_state l old) 1
  unfolding first_state ticks_left
  first =
      record {
        k = 0;
        q = 0;
        at = accepted_start l accepted;
        holds = refl;
        within = omega arith;
        before = omega arith;
        scanned = scanning_begin (TP d f) horizon old false (sym (shown_after d f 0 0 refl));
        runs = λ j a b. let z : j ≡ 0 = omega arith in rw z;
        ends = omega arith;
      }

  -- a word is passed
  passes : (s : State) (p : ℕ) → p < length l → Pulsing s p → Pulsing (past_word d s (get_or l p 0)) (p + 1)
  unfolding past_word past_date starts_at
  passes s p h i = go (starts_at s.held (value_at w) s.pulse.due (date_of w)) refl
    where
      w : ℕ
      w = get_or l p 0

      step : Held f i.k (date_of w) (held_value l p) (value_at w) (value_after w) × At f l (p + 1) (date_of w)
      step = at_take f l p i.k i.at h

      last : date_of w ≤ last_date l
      last = next_within f l p i.k i.at h

      later : i.k < date_of w
      later = step.0.later

      -- up to the word, and at it
      on : Runs s.pulse.due i.q (date_of w)
      on j a b = between (dec_le j i.k)
        where
          between : Dec (j ≤ i.k) → ticks_left d f j ≡ s.pulse.due - j
          between (yes m) = i.runs j a m
          between (no m) =
              falls d f i.k s.pulse.due (date_of w) (held_value l p) step.0.still (i.runs i.k i.before (omega arith)) j
              (omega arith) b

      here : ticks_left d f (date_of w) ≡ cond (starts_at s.held (value_at w) s.pulse.due (date_of w)) d (s.pulse.due - date_of w)
      here =
          at_word d f i.k s.pulse.due (date_of w) (held_value l p) (value_at w) (value_after w) step.0
          (i.runs i.k i.before (omega arith))
          ∙ ap (λ (v : Bool). cond ((value_at w && not v) && leb s.pulse.due (date_of w)) d (s.pulse.due - date_of w)) (sym i.holds)

      end : date_in (sum_of (date_of w) d) ≡ date_of w + d
      end = sum_exact (date_of w) d (omega (arith, last, early)) short

      after : Pulse → State
      after pulse = record { held = value_after w; pulse = pulse }

      go : (t : Bool) → starts_at s.held (value_at w) s.pulse.due (date_of w) ≡ t → Pulsing
          (after
          (cond t
          (record { due = date_in (sum_of (date_of w) d); built = started_at d s.pulse.due (date_of w) s.pulse.built })
          s.pulse)) (p + 1)
      go true e =
          let new : ticks_left d f (date_of w) ≡ d = here ∙ rw e in
          let over : s.pulse.due ≤ date_of w =
          leb-true s.pulse.due (date_of w) (and_right (value_at w && not s.held) (leb s.pulse.due (date_of w)) e) in
          record {
            k = date_of w;
            q = date_of w;
            at = step.1;
            holds = sym (held_next l p);
            within = last;
            before = omega arith;
            scanned =
                start s.pulse.built s.pulse.due i.q (date_of w) i.scanned on (omega (arith, i.before, later)) over i.ends
                (omega (arith, last)) new;
            runs = λ j a b.
                let z : j ≡ date_of w = omega arith in
                let left : d ≡ date_of w + d - date_of w = omega arith in
                rw (z, end) (new ∙ left);
            ends = rw end (omega (arith, last));
          }
      go false e =
          record {
            k = date_of w;
            q = i.q;
            at = step.1;
            holds = sym (held_next l p);
            within = last;
            before = omega (arith, i.before, later);
            scanned = i.scanned;
            runs = λ j a b. up_to j a (dec_lt j (date_of w)) b;
            ends = i.ends;
          }
        where
          up_to : (j : ℕ) → i.q ≤ j → Dec (j < date_of w) → j ≤ date_of w → ticks_left d f j ≡ s.pulse.due - j
          up_to j a (yes m) b = on j a m
          up_to j a (no m) b = let z : j ≡ date_of w = omega arith in rw z (here ∙ rw e)

  -- no word is left: the last pulse ends
  done : (s : State) (p : ℕ) → length l ≤ p → Pulsing s p
      → Built (exact_of_delay (TP d) d l) old (finish s).slot (finish s).made
  unfolding exact_of_delay
  done s p h i =
      scanning_done (TP d f) horizon old c.since (finish s).slot (finish s).made c.scanned (λ t l. stays t l (dec_lt t (instant n)))
    where
      ever : (n j : ℕ) → i.q ≤ j → j < n → ticks_left d f j ≡ s.pulse.due - j
      ever n j a b = between (dec_le j i.k)
        where
          between : Dec (j ≤ i.k) → ticks_left d f j ≡ s.pulse.due - j
          between (yes m) = i.runs j a m
          between (no m) =
              falls d f i.k s.pulse.due n (held_value l p) (λ t g o. at_end_lem f l p i.k i.at h t g)
              (i.runs i.k i.before (omega arith)) j (omega arith) b

      -- a date after both
      n : ℕ
      n = suc (i.q + s.pulse.due)

      c : Stands (finish s) n
      c = down s.pulse.built s.pulse.due i.q n i.scanned (ever n) (omega arith) (omega arith) i.ends

      low : (t : ℕ) → gap (i.q + s.pulse.due) ≤ t → TP d f t ≡ false
      low t g =
          let on = tick_low (i.q + s.pulse.due) t g in
          down_from d f s.pulse.due t (ever (suc (tick t)) (tick t) (omega arith) (omega arith)) (omega arith)

      stays : (t : ℕ) → gap c.since ≤ t → Dec (t < instant n) → TP d f t ≡ TP d f (gap c.since)
      stays t g (yes b) = c.still t g b
      stays t g (no b) =
          low t (omega arith)
          ∙ sym (low (gap (i.q + s.pulse.due)) (omega arith))
          ∙ c.still (gap (i.q + s.pulse.due)) (omega (arith, c.before)) (omega arith)

  runs_out : (n p : ℕ) → p + n ≡ length l → (s : State) → Pulsing s p
      → Built (exact_of_delay (TP d) d l) old (finish (through (past_word d) (drop p l) s)).slot
      (finish (through (past_word d) (drop p l) s)).made
  unfolding through
  runs_out zero p e s i =
      let h : length l ≤ p = omega arith in
      rw (drop_of_length-le l {i = p} h) (done s p h i)
  runs_out (suc n) p e s i =
      let h : p < length l = omega arith in
      rw (drop-cons l p 0 h)
      (rw add-one at (runs_out n (p + 1) (omega arith) (past_word d s (get_or l p 0)) (passes s p h i)))

  pub pulsed_exact : Built (exact_of_delay (TP d) d l) old (pulse_engine d l old).slot (pulse_engine d l old).made
  unfolding pulse_engine
  pulsed_exact = runs_out (length l - 1) 1 (omega (arith, (accepted_start l accepted).within)) (first_state l old) first
