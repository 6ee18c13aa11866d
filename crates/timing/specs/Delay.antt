-- Mirrored: how a delay follows its input from moment to moment.
use Rattle.std.specs.Prelude.{ℕ, Bool, true, false, not, cond, ◌&&◌, ◌||◌, eqb}
use Rattle.signals.specs.Moment.{started, from_to}
use Rattle.signals.specs.Signal.{Signal, every, implied}
use Rattle.signals.specs.Answers.{sum_of}
use Rattle.signals.specs.declared.Sum.{Sum}
use Rattle.signals.specs.declared.Sum.TheVariants as sum
use Rattle.reading.specs.Reading.{NEVER}
use Rattle.timing.specs.declared.Timer.{Timer}

-- the date of a sum, past M too
abbrev pub date_in : Sum → ℕ
date_in (sum.On date) = date.0
date_in (sum.PastM date) = date
date_in (sum.Refused fault) = NEVER

abbrev pub timer : Bool → Bool → ℕ → Bool → Timer
timer level waiting due at = record { level = level; waiting = waiting; due = record { 0 = due }; at = at }

-- a delay that waits for d ticks from the instant of a date, or from the gap after it
unfoldable pub pending : ℕ → Bool → ℕ → Timer
pending date at d = timer false true (date_in (sum_of date d)) at

-- the pending change has come by the instant of the date, or by the gap after it
unfoldable pub reached : Timer → ℕ → Bool → Bool
reached s date at = eqb s.due.0 date && (not at || s.at)

-- a delay with its pending change made if it has come
unfoldable pub risen : Timer → ℕ → Bool → Timer
risen s date at = cond (reached s date at) (timer true false date at) s

-- the delay at the next moment, the instant of the date or the gap after it, its input having the value there
unfoldable pub timer_next : Timer → ℕ → ℕ → Bool → Bool → Timer
timer_next s d date at value =
    cond value (cond s.level s (risen (cond s.waiting s (pending date at d)) date at)) (timer false false date at)

-- the delay in gap 0
unfoldable pub first_timer : Bool → ℕ → Bool → Timer
first_timer waits d value =
    cond value (cond waits (risen (pending 0 true d) 0 false) (timer true false 0 true)) (timer false false 0 true)

-- whether a signal's value is the level
abbrev pub on_level : Bool → Bool → Bool
on_level true value = value
on_level false value = not value

-- f is up at every t1 > 0 with t-d ≤ t1 ≤ t; and t ≥ d besides, for a delay that waits from gap 0
unfoldable pub throughout : ℕ → Signal → Signal
throughout d f t = every (λ t1. implied (from_to d t t1) (f t1)) t

unfoldable pub delayed : Bool → ℕ → Signal → Signal
delayed waits d f t = (not waits || started d t) && throughout d f t

-- one level of a signal as a signal; the delay of one level: TON of the level up, which waits from gap 0, TOF of the level down, which
-- does not
unfoldable pub level_of : Bool → Signal → Signal
level_of level f t = on_level level (f t)

unfoldable pub delay_of : Bool → ℕ → Signal → Signal
delay_of level d f t = on_level level (delayed level d (level_of level f) t)
