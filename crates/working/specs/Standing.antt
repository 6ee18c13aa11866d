-- Mirrored: Lists where they stand: on the sheet, among the constants, or in a slot of the work area; one part worked out; and the whole of
-- working code words out.
use Rattle.std.specs.Prelude.{ℕ, ◌+◌, ◌-◌, ◌≤◌, ◌≡◌, true, cond, leb, ltb, List, [], length, take, drop, get_or}
use Rattle.std.specs.Prelude.{Result, Ok, Err, IfOk, IfErr}
use Rattle.signals.specs.Words.{most_words}
use Rattle.signals.specs.Answers.{count_in}
use Rattle.signals.specs.declared.Written.{Written}
use Rattle.signals.specs.declared.Written.TheVariants as written
use Rattle.sources.specs.Sources.{list_at, apart_from, with_slot}
use Rattle.sources.specs.declared.Memory.TheVariants.{Sheet, Work}
use Rattle.sources.specs.declared.Source.{Source}
use Rattle.code_words.specs.CodeWords.{constants, leaf_source}
use Rattle.applying.specs.Applied.{Applied}
use Rattle.machine.specs.Stack.{RanOut}
use Rattle.working.specs.Layout.{kept_at}
use Rattle.working.specs.declared.Tops.{Tops}

-- the list that a source names, constants standing in both lists beside the sheet and the work area
abbrev pub list_of : List ℕ → List ℕ → Source → List ℕ
list_of sheet work s = list_at sheet constants constants work s

-- a source of no words
abbrev pub nowhere : Source
nowhere = record { memory = Sheet; at = 0; count = 0 }

-- an answer that stands in a slot, and what it makes: its list or its fault
abbrev pub slot_source : ℕ → Written → Source
slot_source at answer = record { memory = Work; at = at; count = count_in answer }

abbrev pub slot_made : ℕ → Written → Result Source ℕ
slot_made at (written.Count n) = Ok (slot_source at (written.Count n))
slot_made at (written.Refused fault) = Err fault

-- the list so many below the top of a stack
unfoldable pub from_above : List Source → ℕ → ℕ → Source
from_above stack height depth =
    cond (leb height depth) nowhere (cond (ltb (height - depth - 1) 20) (get_or stack (height - depth - 1) nowhere) nowhere)

-- the operands of a part stand apart from the slot that it may use, which is in the work area
pub record Ready (a b : Source) (at room : ℕ) : Type 0 where
  pub first : apart_from a at most_words ≡ true
  pub second : apart_from b at most_words ≡ true
  pub fits : at + most_words ≤ room

-- what a part makes: a leaf's list stands where it is, and an operation's in the slot
pub record LeafMade (w : ℕ) (before : List ℕ) (next : Result Source ℕ) (after : List ℕ) : Type 0 where
  pub made : next ≡ Ok (leaf_source w)
  pub kept : after ≡ before

pub record ListMade (w : ℕ) (sheet before : List ℕ) (a b : Source) (at : ℕ) (next : Result Source ℕ) (after : List ℕ) : Type 0 where
  pub answer : Written
  pub slot : List ℕ
  pub wide : length slot ≡ most_words
  pub after_is : after ≡ with_slot before at most_words slot
  pub applied : Applied w (list_of sheet before a) (list_of sheet before b) answer (take (count_in answer) slot)
  pub short : count_in answer ≤ most_words
  pub made : next ≡ slot_made at answer

abbrev pub StepMade : ℕ → ℕ → List ℕ → List ℕ → Source → Source → ℕ → Result Source ℕ → List ℕ → Type 0
StepMade w taken sheet before a b at next after =
    (taken ≡ 0 → LeafMade w before next after) × (1 ≤ taken → ListMade w sheet before a b at next after)

-- the fault, 0 for none
abbrev pub fault_of : Result Tops ℕ → ℕ
fault_of (Ok tops) = 0
fault_of (Err fault) = fault

-- The whole of working code words out: the stack after them, and where the two topmost of its lists stand; a refusal has a fault; where
-- lists of kept formulas stand, nothing is written.
pub record WorkedOut (sheet codes before : List ℕ) (ran : Result Tops ℕ) (after : List ℕ) : Type 0 where
  pub end : List (List ℕ)
  pub out : RanOut sheet codes before after (fault_of ran) end
  pub faulty : IfErr ran (λ fault. fault ≡ 0 → ⊥)
  pub top_is : IfOk ran (λ tops. 1 ≤ length end → list_of sheet after tops.top ≡ get_or end 0 [])
  pub below_is : IfOk ran (λ tops. 2 ≤ length end → list_of sheet after tops.below ≡ get_or end 1 [])
  pub kept_is : drop (kept_at 0) after ≡ drop (kept_at 0) before
