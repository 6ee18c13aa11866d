-- Statement: Deep or wide formulas within the limits need no more lists on the stack than it has places.
use Rattle.std.specs.Prelude.{ℕ, ◌≡◌, List, [], ◌++◌}
use Rattle.slices.specs.Bytes.{Bytes}
use Rattle.signals.specs.Answers.{first_of}
use Rattle.format.specs.Reading.{sheet_fault}
use Rattle.calls.specs.Calls.{reading_fault, working_fault}
use Rattle.machine.specs.Machine.{placed_codes}
use Rattle.machine.specs.Stack.{Runs}

-- The code words of a formula that was read without a fault, and those of two in a row on one stack, meet the 5 or 6 of a part and nothing
-- else: never the 12 of a list to be put on more than 17 others, or of an operand that is missing.
pub record SlotsSuffice : Type 0 where
  pub one : (sheet f : List ℕ) → sheet_fault sheet ≡ 0 → Bytes sheet → reading_fault sheet f ≡ 0 → (fault : ℕ) (end : List (List ℕ))
      → Runs sheet (placed_codes sheet f) [] fault end → (fault ≡ working_fault sheet f) × (fault ≡ 12 → ⊥)
  pub two : (sheet f g : List ℕ) → sheet_fault sheet ≡ 0 → Bytes sheet → reading_fault sheet f ≡ 0 → reading_fault sheet g ≡ 0
      → (fault : ℕ) (end : List (List ℕ)) → Runs sheet (placed_codes sheet f ++ placed_codes sheet g) [] fault end
      → (fault ≡ first_of (working_fault sheet f) (working_fault sheet g)) × (fault ≡ 12 → ⊥)
