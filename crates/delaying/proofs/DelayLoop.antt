-- The delay of an accepted list: what the loop keeps, its beginning, a turn and its end.
use Prim.Native.Nat.{ℕ, ◌+◌, ◌≤◌, ◌<◌}
use native.Mathlib.Omega.{arith}
use mathlib.Core.Path.{◌≡◌, refl, sym, ◌∙◌, ap, subst}
use mathlib.Core.Bool.{Bool, true, false}
use mathlib.Core.List.{List}
use lib.ListN.{length, drop, set}
use Rattle.signals.specs.Moment.{M, gap}
use Rattle.signals.specs.Signal.{Signal, num}
use Rattle.signals.specs.Words.{signal_of, last_date, list_fault}
use Rattle.signals.specs.Passing.{held_value, at_date, after_date}
use Rattle.signals.specs.Settled.{SettledFrom}
use Rattle.signals.specs.Quantified.{Down}
use Rattle.signals.proofs.Truth.{not_both_lem}
use Rattle.signals.proofs.Scan.{Held}
use Rattle.signals.proofs.Operand.{At, Passed, at_pass, at_end_lem, value_held}
use Rattle.signals.proofs.Normal.{accepted_start, accepted_settled}
use Rattle.reading.specs.Reading.{NEVER, next_date, step_past}
use Rattle.reading.specs.declared.Step.{Step}
use Rattle.operations.specs.Calls.{exact_of_delay}
use Rattle.building.specs.Building.{emitted, emitted_in, begun}
use Rattle.building.proofs.Built.{Built}
use Rattle.timing.specs.Delay.{timer_next, first_timer, on_level, level_of, delayed, delay_of}
use Rattle.building.specs.declared.Made.{Made}
use Rattle.timing.specs.declared.Timer.{Timer}
use Rattle.building.proofs.Scanning.{Scanning, scanning_begin, scanning_emit, scanning_done}
use Rattle.timing.proofs.DelaySignals.{delayed_down}
use Rattle.timing.proofs.DelayTiming.{Timed, timed_value, timed_still, timed_first}
use Rattle.delaying.proofs.DelayUpcoming.{Upcoming, upcoming_date, upcoming_is}
use Rattle.timing.proofs.DelayTurn.{timed_after, delay_held}

-- the answer up to date k is in the slot, k's word is passed, and the delay's state is that in gap k
pub record Delaying (level : Bool) (d : ℕ) (l old slot : List ℕ) (passed : ℕ) (s : Timer) (made : Made) (date : ℕ) : Type 0 where
  pub accepted : list_fault l ≡ 0
  pub short : d ≤ M
  pub early : last_date l ≤ M
  pub k : ℕ
  pub within : k ≤ last_date l + d
  pub scanning : Scanning (delay_of level d (signal_of l)) (last_date l + d) k old slot made
  pub at : At (signal_of l) l passed k
  pub timed : Timed (level_of level (signal_of l)) (delayed level d (level_of level (signal_of l))) (last_date l + d) s (gap k)
  pub date_is : date ≡ upcoming_date (next_date l passed) s

-- one level of a signal stands still with it; and back
held_on_lem : (level : Bool) (f : Signal) (k e : ℕ) (v a b : Bool) → Held f k e v a b
    → Held (level_of level f) k e (on_level level v) (on_level level a) (on_level level b)
unfolding level_of
held_on_lem level f k e v a b h =
    record {
      later = h.later;
      still = λ t l u. ap (on_level level) (h.still t l u);
      at = ap (on_level level) h.at;
      after = ap (on_level level) h.after;
    }

held_out : (level : Bool) (d : ℕ) (f : Signal) (k e : ℕ) (v a b : Bool) → Held (delayed level d (level_of level f)) k e v a b
    → Held (delay_of level d f) k e (on_level level v) (on_level level a) (on_level level b)
unfolding delay_of
held_out level d f k e v a b h =
    record {
      later = h.later;
      still = λ t l u. ap (on_level level) (h.still t l u);
      at = ap (on_level level) h.at;
      after = ap (on_level level) h.after;
    }

level_settled : (level : Bool) (l : List ℕ) → list_fault l ≡ 0 → SettledFrom (level_of level (signal_of l)) (last_date l)
unfolding level_of
level_settled level l h t g = ap (on_level level) (accepted_settled l h t g)

-- the value of a level's signal in the gap after the words passed, and in gap 0
pub gap_value : (level : Bool) (l : List ℕ) (p k : ℕ) → At (signal_of l) l p k
    → level_of level (signal_of l) (gap k) ≡ on_level level (held_value l p)
unfolding level_of
gap_value level l p k a =
    ap (on_level level)
    (a.ahead.says (gap k) (omega arith) ∙ value_held (held_value l p) k (drop p l) (gap k) a.ahead.rises (omega arith))

first_value : (level : Bool) (l : List ℕ) → list_fault l ≡ 0 → level_of level (signal_of l) 0 ≡ on_level level (held_value l 1)
first_value level l h = gap_value level l 1 0 (accepted_start l h)

module _ (level : Bool) (d : ℕ) (l old : List ℕ) where
  pub delaying_begin : list_fault l ≡ 0 → d ≤ M → last_date l ≤ M
      → (value : Bool) → value ≡ on_level level (held_value l 1) → (s : Timer) → s ≡ first_timer level d value
      → (shown : Bool) → shown ≡ on_level level s.level → (slot : List ℕ) → slot ≡ set old 0 (num shown) → (made : Made)
      → made ≡ begun shown
      → (date : ℕ) → date ≡ upcoming_date (next_date l 1) s → Delaying level d l old slot 1 s made date
  unfolding delay_of
  delaying_begin accepted short early value ve s se shown he slot le made me date de =
      record {
        accepted = accepted;
        short = short;
        early = early;
        k = 0;
        within = omega arith;
        scanning = rw (le, me) (scanning_begin (delay_of level d (signal_of l)) (last_date l + d) old shown shows);
        at = accepted_start l accepted;
        timed = timed;
        date_is = de;
      }
    where
      timed : Timed (level_of level (signal_of l)) (delayed level d (level_of level (signal_of l))) (last_date l + d) s 0
      timed =
          subst
          (λ (x : Timer). Timed (level_of level (signal_of l)) (delayed level d (level_of level (signal_of l))) (last_date l + d) x 0)
          (sym se)
          (timed_first level d (level_of level (signal_of l)) (last_date l + d) short (omega arith) value
          (first_value level l accepted ∙ sym ve))

      shows : shown ≡ delay_of level d (signal_of l) 0
      shows =
          he
          ∙ ap (on_level level)
          (sym (timed_value (level_of level (signal_of l)) (delayed level d (level_of level (signal_of l))) (last_date l + d)
          (delayed_down level d (level_of level (signal_of l))) s 0 timed))

  module _ (slot : List ℕ) (passed : ℕ) (s : Timer) (made : Made) (date : ℕ) (i : Delaying level d l old slot passed s made date)
    where
      pub next : Upcoming l passed s i.k (last_date l + d) date
      next =
          subst
          (λ (e : ℕ). Upcoming l passed s i.k (last_date l + d) e)
          (sym i.date_is)
          (upcoming_is
          (signal_of l)
          (level_of level (signal_of l))
          (delayed level d (level_of level (signal_of l)))
          l
          passed
          i.k
          (last_date l + d)
          s
          i.at
          i.timed
          i.within
          i.early
          (omega arith)
          (omega (arith, i.early, i.short)))

      -- no word is left and nothing is pending: the answer is whole
      pub delaying_done : NEVER ≤ date → Built (exact_of_delay (delay_of level d) d l) old slot made
      unfolding exact_of_delay delay_of level_of
      delaying_done h =
          scanning_done (delay_of level d (signal_of l)) (last_date l + d) old i.k slot made i.scanning still
        where
          none : (length l ≤ passed) × Down s.waiting
          none = next.none h

          stands : (t : ℕ) → gap i.k ≤ t → level_of level (signal_of l) t ≡ on_level level (held_value l passed)
          stands t le = ap (on_level level) (at_end_lem (signal_of l) l passed i.k i.at none.0 t le)

          timed : (t : ℕ) → gap i.k ≤ t
              → Timed (level_of level (signal_of l)) (delayed level d (level_of level (signal_of l))) (last_date l + d) s t
          timed t le =
              timed_still
              (level_of level (signal_of l))
              (delayed level d (level_of level (signal_of l)))
              (last_date l + d)
              s
              (gap i.k)
              t
              le
              (λ u a b. stands u a ∙ sym (stands (gap i.k) (omega arith)))
              (λ w. not_both_lem w none.1)
              i.timed

          value : (t : ℕ) → gap i.k ≤ t → delayed level d (level_of level (signal_of l)) t ≡ s.level
          value t le =
              timed_value (level_of level (signal_of l)) (delayed level d (level_of level (signal_of l))) (last_date l + d)
              (delayed_down level d (level_of level (signal_of l))) s t (timed t le)

          still : (t : ℕ) → gap i.k ≤ t → delay_of level d (signal_of l) t ≡ delay_of level d (signal_of l) (gap i.k)
          still t le = ap (on_level level) (value t le ∙ sym (value (gap i.k) (omega arith)))

      -- one turn: the date's word is passed, the delay follows, and what it shows is put into the slot
      pub delaying_turn : date < NEVER → (step : Step) → step ≡ step_past l passed date
          → (a : Bool) → a ≡ on_level level step.at → (s1 : Timer) → s1 ≡ timer_next s d date true a
          → (b : Bool) → b ≡ on_level level step.after → (s2 : Timer) → s2 ≡ timer_next s1 d date false b
          → (x : Bool) → x ≡ on_level level s1.level → (y : Bool) → y ≡ on_level level s2.level
          → (slot' : List ℕ) → slot' ≡ emitted_in slot made date x y → (made' : Made) → made' ≡ emitted made date x y
          → (date' : ℕ) → date' ≡ upcoming_date (next_date l step.passed) s2
          → (j : Delaying level d l old slot' step.passed s2 made' date') × (j.k ≡ date)
      delaying_turn h step e0 a e1 s1 e2 b e3 s2 e4 x e5 y e6 slot' e7 made' e8 date' e9 = (
        record {
          accepted = i.accepted;
          short = i.short;
          early = i.early;
          k = date;
          within = next.within h;
          scanning =
              rw (e7, e8, e5, e6)
              (scanning_emit (delay_of level d (signal_of l)) (last_date l + d) old i.k date (on_level level s.level)
              (on_level level s1.level) (on_level level s2.level) slot made i.scanning out (next.within h)
              (omega (arith, i.early, i.short)));
          at = rw e0 pass.on;
          timed = timed;
          date_is = e9;
        },
        refl,
      )
        where
          pass : Passed (signal_of l) l passed i.k date
          pass = at_pass (signal_of l) l passed i.k date i.at next.later next.by_word

          inward : Held (level_of level (signal_of l)) i.k date (on_level level (held_value l passed)) a b
          inward =
              rw
              (e1, e3, e0)
              (held_on_lem level (signal_of l) i.k date (held_value l passed) (at_date l passed date) (after_date l passed date) pass.held)

          timed : Timed (level_of level (signal_of l)) (delayed level d (level_of level (signal_of l))) (last_date l + d) s2 (gap date)
          timed =
              rw
              (e4, e2)
              (timed_after level d (level_of level (signal_of l)) (last_date l) (last_date l + d) i.short i.early (omega arith)
              (level_settled level l i.accepted) s i.k date (on_level level (held_value l passed)) a b inward next.by_due i.timed)

          out : Held (delay_of level d (signal_of l)) i.k date (on_level level s.level) (on_level level s1.level)
              (on_level level s2.level)
          out =
              held_out
              level
              d
              (signal_of l)
              i.k
              date
              s.level
              s1.level
              s2.level
              (rw
              (e4, e2)
              (delay_held level d (level_of level (signal_of l)) (last_date l) (last_date l + d) i.short i.early (omega arith)
              (level_settled level l i.accepted) s i.k date (on_level level (held_value l passed)) a b inward next.by_due
              i.timed))
