-- The slot with the first word of the pulses in it: what the words lead to from there is what the whole list gives.
use Prim.Native.Nat.{ℕ, ◌+◌, ◌-◌, ◌≤◌}
use mathlib.Core.Path.{◌≡◌, subst}
use mathlib.Core.Bool.{true, false}
use mathlib.Core.List.{List, ◌++◌}
use lib.ListN.{length, take, drop, set}
use Rattle.signals.specs.Signal.{num}
use Rattle.signals.specs.Passing.{held_value}
use Rattle.building.specs.Building.{begun}
use Rattle.building.specs.declared.Made.{Made}
use Rattle.sources.specs.Sources.{list_at, apart_from, slot_in}
use Rattle.sources.specs.declared.Source.{Source}
use Rattle.lent_slots.specs.Lent.{through, EndsIn}
use Rattle.lent_slots.proofs.LentRuns.{first_part, first_list, begun_run}
use Rattle.pulsing.specs.Turns.{state_of, past_word, finish, first_state, pulse_engine}
use Rattle.pulsing.proofs.PulseWords.{first_is}

module _ (d : ℕ) (sheet left right old : List ℕ) (f : Source) (at room : ℕ) (fits : at + room ≤ length old)
    (apart : apart_from f at room ≡ true) (part : List ℕ) (e : part ≡ set (take (at + room - at) (drop at old)) 0 (num false))
  where
    abbrev whole : List ℕ
    whole = list_at sheet left right old f

    abbrev first : List ℕ
    first = take at old ++ (part ++ drop (at + room - at) (drop at old))

    pub begun_pulses : (made : Made) → made ≡ begun false → (r : Made) (after : List ℕ)
        → EndsIn (finish (through (past_word d) (drop 1 (list_at sheet left right first f))
        (state_of (held_value (list_at sheet left right first f) 1) 0 made (slot_in first at room)))) first at room r after
        → EndsIn (pulse_engine d whole (slot_in old at room)) old at room r after
    unfolding pulse_engine
    begun_pulses made e1 r after ran =
        let state : state_of (held_value whole 1) 0 made part ≡ first_state whole (slot_in old at room) =
        first_is whole (slot_in old at room) made part (e1, first_part (past_word d) sheet left right old f at room fits apart part false e)
        in
        let same : list_at sheet left right first f ≡ whole =
        first_list (past_word d) sheet left right old f at room fits apart part false e in
        rw (← state)
        (begun_run (past_word d) sheet left right old f at room fits apart part false e finish (state_of (held_value whole 1) 0 made) r
        after
        (subst
        (λ (l : List ℕ). EndsIn (finish (through (past_word d) (drop 1 (list_at sheet left right first f))
        (state_of (held_value l 1) 0 made (slot_in first at room)))) first at room r after)
        same ran))
