-- The loop of a delay: what its words lead to, and its first state.
use Prim.Native.Nat.{ℕ, ◌+◌, ◌-◌, ◌≤◌}
use mathlib.Core.Path.{◌≡◌, refl, ◌∙◌, ap}
use mathlib.Core.Bool.{Bool, true}
use mathlib.Core.List.{List, [], ◌∷◌, ◌++◌}
use lib.ListN.{length, take, drop, set}
use Rattle.signals.specs.Signal.{num}
use Rattle.signals.specs.Words.{value_after}
use Rattle.reading.specs.Reading.{NEVER}
use Rattle.building.specs.Building.{begun}
use Rattle.building.specs.declared.Made.{Made}
use Rattle.timing.specs.Delay.{first_timer, on_level}
use Rattle.timing.specs.declared.Timer.{Timer}
use Rattle.sources.specs.Sources.{next_word, list_at, apart_from, slot_in}
use Rattle.sources.specs.declared.Source.{Source}
use Rattle.sources.proofs.Sourcing.{first_held}
use Rattle.lent_slots.specs.Lent.{Ended, through, EndsIn}
use Rattle.lent_slots.proofs.LentRuns.{first_part, begun_run}
use Rattle.delaying.specs.Turns.{State, state_of, settled, past_word, past_words, first_state, last_state}
use Rattle.delaying.proofs.WordTests.{begins}
use Rattle.delay_parts.specs.DelayAt.{ended, delay_engine}

-- what is still pending comes after the last word
abbrev pub finish : Bool → State → Ended
finish level s = ended (settled level NEVER s)

pub past_through : (level : Bool) (d : ℕ) (ws : List ℕ) (s : State)
    → past_words level d ws s ≡ settled level NEVER (through (past_word level d) ws s)
unfolding past_words through
past_through level d [] s = refl
past_through level d (w ∷ ws) s = past_through level d ws (past_word level d s w)

-- the slot with its first word in it: what the words lead to from there is what the whole list gives
module _ (level : Bool) (d : ℕ) (sheet left right old : List ℕ) (f : Source) (at room : ℕ) (fits : at + room ≤ length old)
    (apart : apart_from f at room ≡ true) (part : List ℕ) (shown : Bool)
    (e : part ≡ set (take (at + room - at) (drop at old)) 0 (num shown))
  where
    abbrev whole : List ℕ
    whole = list_at sheet left right old f

    abbrev first : List ℕ
    first = take at old ++ (part ++ drop (at + room - at) (drop at old))

    pub begun_delay : (word : ℕ) → word ≡ next_word whole 0 → (value : Bool) → value ≡ on_level level (value_after word)
        → (timer : Timer) → timer ≡ first_timer level d value → shown ≡ on_level level timer.level → (made : Made) → made ≡ begun shown
        → (r : Made) (after : List ℕ)
        → EndsIn (ended (past_words level d (drop 1 (list_at sheet left right first f)) (state_of timer made (slot_in first at room))))
        first at room r after → EndsIn (delay_engine level d whole (slot_in old at room)) old at room r after
    unfolding delay_engine last_state
    begun_delay word e0 value e1 timer e2 e3 made e4 r after ran =
        let state : state_of timer made part ≡ first_state level d whole (slot_in old at room) =
        begins level d whole (slot_in old at room) value (e1 ∙ ap (on_level level) (ap value_after e0 ∙ first_held whole)) timer e2 shown e3
        made part (e4, first_part (past_word level d) sheet left right old f at room fits apart part shown e) in
        rw (past_through level d (drop 1 whole) (first_state level d whole (slot_in old at room)), ← state)
        (begun_run (past_word level d) sheet left right old f at room fits apart part shown e (finish level) (state_of timer made) r after
        (rw (past_through level d (drop 1 (list_at sheet left right first f)) (state_of timer made (slot_in first at room))) at ran))
