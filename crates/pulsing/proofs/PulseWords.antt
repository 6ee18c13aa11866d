-- The first state of the pulses, and a word of the list passed, as the reader tells it.
use Prim.Native.Nat.{ℕ, ◌<◌}
use mathlib.Core.Path.{◌≡◌, ◌∙◌, ap}
use mathlib.Core.Bool.{Bool, false}
use mathlib.Core.List.{List}
use lib.ListN.{get_or}
use Rattle.signals.specs.Words.{date_of, value_after}
use Rattle.signals.specs.Passing.{held_value}
use Rattle.signals.proofs.Operand.{held_next}
use Rattle.reading.specs.Reading.{NEVER}
use Rattle.sources.specs.Sources.{past_on}
use Rattle.sources.specs.declared.Cursor.{Cursor}
use Rattle.sources.specs.declared.Passed.{Passed}
use Rattle.sources.proofs.Readers.{Reading}
use Rattle.lent_slots.proofs.WordReaders.{word_left, word_step, word_passed}
use Rattle.building.specs.Building.{Begins}
use Rattle.building.specs.declared.Made.{Made}
use Rattle.pulsing.specs.Turns.{Pulse, pulse_of, past_date, state_of, past_word, first_state}

-- before the second word
pub first_is : (l slot : List ℕ) (made : Made) (slot' : List ℕ) → Begins false slot made slot'
    → state_of (held_value l 1) 0 made slot' ≡ first_state l slot
unfolding first_state
first_is l slot made slot' (m, t) = rw (m, t)

-- A word of the list is passed, as the reader tells it.
module _ (d : ℕ) (l : List ℕ) (x : Cursor) (g : Reading l x) (early : x.date < NEVER) (u : Passed) (e : u ≡ past_on l x x.date) where
  pub word_past : (due : ℕ) (made : Made) (slot : List ℕ) (due' : ℕ) (made' : Made) (slot' : List ℕ)
      → pulse_of due' made' slot' ≡ past_date d u.step.before u.step.at x.date (pulse_of due made slot)
      → state_of (held_value l u.next.passed) due' made' slot'
      ≡ past_word d (state_of (held_value l x.passed) due made slot) (get_or l x.passed 0)
  unfolding past_word
  word_past due made slot due' made' slot' q =
      let step = word_step l x g early u e in
      let held : held_value l u.next.passed ≡ value_after (get_or l x.passed 0) =
      ap (held_value l) (word_passed l x g early u e) ∙ held_next l x.passed in
      let date : x.date ≡ date_of (get_or l x.passed 0) = (word_left l x g early).1 in
      ap (λ (h : Bool). state_of h due' made' slot') held
      ∙ ap (λ (p : Pulse). record { held = value_after (get_or l x.passed 0); pulse = p }) (q ∙ rw (step, date))
