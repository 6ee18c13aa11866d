-- Mirrored: A delay as an engine in a slot of the work area, its operand read where it stands.
use Rattle.std.specs.Prelude.{ℕ, Bool}
use Rattle.lent_slots.specs.Lent.{Ended, ended_by, Engine}
use Rattle.delaying.specs.Turns.{State, last_state}

-- the answer and the slot of a delay's state
abbrev pub ended : State → Ended
ended s = ended_by s.made s.slot

-- the delay of one level
unfoldable pub delay_engine : Bool → ℕ → Engine
delay_engine level d l slot = ended (last_state level d l slot)
