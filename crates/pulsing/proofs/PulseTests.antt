-- What the code of the pulse timer puts into the slot.
use Prim.Native.Nat.{ℕ}
use mathlib.Core.Path.{◌≡◌}
use mathlib.Core.Bool.{Bool}
use mathlib.Core.List.{List}
use Rattle.building.specs.Building.{Emits}
use Rattle.building.specs.declared.Made.{Made}
use Rattle.lent_slots.specs.Lent.{Ended, ended_by}
use Rattle.pulsing.specs.Turns.{put_from}

pub put_in : (e : Ended) (date : ℕ) (value : Bool) (made : Made) (slot : List ℕ) → Emits e.made date value value e.slot made slot
    → ended_by made slot ≡ put_from e date value
put_in e date value made slot (m, t) = rw (m, t)
