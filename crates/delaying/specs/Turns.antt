-- Mirrored: A delay built in a slot word by word, whatever the words of its list are.
use Rattle.std.specs.Prelude.{ℕ, ◌≡◌, Bool, true, false, cond, ◌&&◌, List, [], ◌∷◌, ltb, drop, set}
use Rattle.signals.specs.Signal.{num}
use Rattle.signals.specs.Words.{date_of, value_at, value_after}
use Rattle.signals.specs.Passing.{held_value}
use Rattle.reading.specs.Reading.{NEVER}
use Rattle.building.specs.Building.{emitted, emitted_in, begun}
use Rattle.building.specs.declared.Made.{Made}
use Rattle.timing.specs.Delay.{timer, timer_next, first_timer, on_level}
use Rattle.timing.specs.declared.Timer.{Timer}

-- the delay's state, the answer being built, and the slot that it is built in
pub record State : Type 0 where
  pub timer : Timer
  pub made : Made
  pub slot : List ℕ

abbrev pub state_of : Timer → Made → List ℕ → State
state_of timer made slot = record { timer = timer; made = made; slot = slot }

-- what a delay shows at a date and after it is put into the slot
abbrev pub put_at : State → ℕ → Bool → Bool → Timer → State
put_at s date at after next = state_of next (emitted s.made date at after) (emitted_in s.slot s.made date at after)

-- the pending change, where it comes before a date: the delay has its level from then on
unfoldable pub settled : Bool → ℕ → State → State
settled level next s =
    cond (s.timer.waiting && ltb s.timer.due.0 next)
    (put_at s s.timer.due.0 (on_level level s.timer.at) level (timer true false s.timer.due.0 s.timer.at))
    s

-- the delay at a date and after it, its input having these values
abbrev pub timer_at : Bool → ℕ → Timer → ℕ → Bool → Timer
timer_at level d s date at = timer_next s d date true (on_level level at)

abbrev pub timer_after : Bool → ℕ → Timer → ℕ → Bool → Bool → Timer
timer_after level d s date at after = timer_next (timer_at level d s date at) d date false (on_level level after)

-- past a date at which the input has these values
unfoldable pub followed : Bool → ℕ → State → ℕ → Bool → Bool → State
followed level d s date at after =
    put_at s date (on_level level (timer_at level d s.timer date at).level)
    (on_level level (timer_after level d s.timer date at after).level) (timer_after level d s.timer date at after)

-- past a word: first the change that comes before it
unfoldable pub past_word : Bool → ℕ → State → ℕ → State
past_word level d s w = followed level d (settled level (date_of w) s) (date_of w) (value_at w) (value_after w)

-- past all words, and the change that is pending then
unfoldable pub past_words : Bool → ℕ → List ℕ → State → State
past_words level d [] s = settled level NEVER s
past_words level d (w ∷ ws) s = past_words level d ws (past_word level d s w)

-- before the second word: the answer has its first
abbrev pub state_with : Bool → List ℕ → Timer → State
state_with level slot timer =
    state_of timer (begun (on_level level timer.level)) (set slot 0 (num (on_level level timer.level)))

unfoldable pub first_state : Bool → ℕ → List ℕ → List ℕ → State
first_state level d l slot = state_with level slot (first_timer level d (on_level level (held_value l 1)))

-- the whole list
unfoldable pub last_state : Bool → ℕ → List ℕ → List ℕ → State
last_state level d l slot = past_words level d (drop 1 l) (first_state level d l slot)

-- an answer built in a slot: this state is the last
abbrev pub Ends : State → Made → List ℕ → Type 0
Ends last made slot = (made ≡ last.made) × (slot ≡ last.slot)
