-- Mirrored: An engine with a length that goes word by word along a list where it stands, and builds its answer in a slot of the work area.
use Rattle.std.specs.Prelude.{ℕ, ◌+◌, ◌≡◌, Bool, true, false, ◌&&◌, List, [], ◌∷◌, leb, length}
use Rattle.signals.specs.Moment.{M}
use Rattle.signals.specs.Words.{most_words}
use Rattle.sources.specs.Sources.{list_at, apart_from, slot_in, with_slot}
use Rattle.sources.specs.declared.Source.{Source}
use Rattle.building.specs.Slots.{made_answer}
use Rattle.building.specs.declared.Made.{Made}
use Rattle.building.specs.declared.SlotAnswer.{SlotAnswer}
use Rattle.building.specs.declared.SlotAnswer.TheVariants.{NotBegun}

-- what is built: the answer, and the slot that it stands in
pub record Ended : Type 0 where
  pub made : Made
  pub slot : List ℕ

abbrev pub ended_by : Made → List ℕ → Ended
ended_by made slot = record { made = made; slot = slot }

-- an engine: what it builds of a list, in a slot that held other words
abbrev pub Engine : Type 0
Engine = List ℕ → List ℕ → Ended

-- past words in turn
unfoldable pub through : {S : Type 0} → (S → ℕ → S) → List ℕ → S → S
through pass [] s = s
through pass (w ∷ ws) s = through pass ws (pass s w)

-- this is built in the slot of `room` words from `at` on, and nothing else has changed
abbrev pub EndsIn : Ended → List ℕ → ℕ → ℕ → Made → List ℕ → Type 0
EndsIn last work at room made after = (made ≡ last.made) × (after ≡ with_slot work at room last.slot)

-- an engine begins where the length is at most M and the slot is in the work area, apart from the operand
unfoldable pub may_build : ℕ → Source → ℕ → ℕ → Bool
may_build d f at words = leb d M && (leb (at + most_words) words && apart_from f at most_words)

-- Its answer and the work area at exit: as it was where it does not begin, else with the answer in the slot.
pub record BuiltAt (engine : Engine) (d : ℕ) (sheet left right work : List ℕ) (f : Source) (at : ℕ) (answer : SlotAnswer) (after : List ℕ)
    : Type 0 where
  pub refused : may_build d f at (length work) ≡ false → (answer ≡ NotBegun) × (after ≡ work)
  pub built : may_build d f at (length work) ≡ true
      → (made : Made) × EndsIn (engine (list_at sheet left right work f) (slot_in work at most_words)) work at most_words made after
      × (answer ≡ made_answer made)
