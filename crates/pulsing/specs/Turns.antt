-- Mirrored: A pulse timer built in a slot word by word, whatever the words of its list are: the end of a pulse comes when the next one
-- starts, or after the last word.
use Rattle.std.specs.Prelude.{ℕ, Bool, false, not, cond, ◌&&◌, List, leb, ltb, drop, set}
use Rattle.signals.specs.Signal.{num}
use Rattle.signals.specs.Answers.{sum_of}
use Rattle.signals.specs.Words.{date_of, value_at, value_after}
use Rattle.signals.specs.Passing.{held_value}
use Rattle.building.specs.Building.{emitted, emitted_in, begun}
use Rattle.building.specs.declared.Made.{Made}
use Rattle.timing.specs.Delay.{date_in}
use Rattle.lent_slots.specs.Lent.{Ended, ended_by, Engine, through}

-- the end of the last pulse, 0 where none has started, and what is built so far
pub record Pulse : Type 0 where
  pub due : ℕ
  pub built : Ended

abbrev pub pulse_of : ℕ → Made → List ℕ → Pulse
pulse_of due made slot = record { due = due; built = ended_by made slot }

-- a date from which on the timer shows a value
abbrev pub put_from : Ended → ℕ → Bool → Ended
put_from e date value = ended_by (emitted e.made date value value) (emitted_in e.slot e.made date value value)

-- the end of the last pulse, where it comes before a date
unfoldable pub closed : ℕ → ℕ → Ended → Ended
closed due next e = cond (ltb due next) (put_from e due false) e

-- a pulse of d ticks starts at a date, none at all where d is 0
unfoldable pub started_at : ℕ → ℕ → ℕ → Ended → Ended
started_at d due date e = put_from (closed due date e) date (ltb 0 d)

-- a date starts a pulse, by the input's values before it and at it: the input rises, and the last pulse has ended
unfoldable pub starts_at : Bool → Bool → ℕ → ℕ → Bool
starts_at before at due date = (at && not before) && leb due date

-- past a date
unfoldable pub past_date : ℕ → Bool → Bool → ℕ → Pulse → Pulse
past_date d before at date p =
    cond (starts_at before at p.due date)
    (record { due = date_in (sum_of date d); built = started_at d p.due date p.built })
    p

-- the value that the input holds, and the pulses
pub record State : Type 0 where
  pub held : Bool
  pub pulse : Pulse

abbrev pub state_of : Bool → ℕ → Made → List ℕ → State
state_of held due made slot = record { held = held; pulse = pulse_of due made slot }

-- past a word
unfoldable pub past_word : ℕ → State → ℕ → State
past_word d s w = record { held = value_after w; pulse = past_date d s.held (value_at w) (date_of w) s.pulse }

-- past the last word: the last pulse ends
abbrev pub finish : State → Ended
finish s = put_from s.pulse.built s.pulse.due false

-- before the second word: the answer has its first
unfoldable pub first_state : List ℕ → List ℕ → State
first_state l slot = state_of (held_value l 1) 0 (begun false) (set slot 0 (num false))

-- the whole list
unfoldable pub pulse_engine : ℕ → Engine
pulse_engine d l slot = finish (through (past_word d) (drop 1 l) (first_state l slot))
