-- A stack of lists, each where its source says, and the slots that its places use.
use Prim.Native.Nat.{ℕ, ◌+◌, ◌≤◌, ◌<◌}
use mathlib.Core.Path.{◌≡◌}
use mathlib.Core.List.{List, [], ◌∷◌}
use mathlib.Core.Logic.{◌⊎◌}
use lib.ListN.{length, get_or}
use Rattle.signals.specs.Words.{most_words}
use Rattle.calls.specs.Calls.{work_words}
use Rattle.sources.specs.declared.Memory.TheVariants.{Work}
use Rattle.sources.specs.declared.Source.{Source}
use Rattle.working.specs.Standing.{list_of, nowhere}

-- the source names the list; where it is in the work area, in the slot that is its own
pub record Stands (sheet work : List ℕ) (s : Source) (slot : ℕ) (l : List ℕ) : Type 0 where
  pub names : list_of sheet work s ≡ l
  pub own : s.memory ≡ Work → (s.at ≡ slot) × (s.count ≤ most_words)

-- the stack's lists stand where its sources say, the last one topmost
abbrev pub Stacked : List ℕ → List ℕ → List Source → List ℕ → List (List ℕ) → Type 0
Stacked sheet work stack slots [] = Unit {0}
Stacked sheet work stack slots (l ∷ st) =
    Stands sheet work (get_or stack (length st) nowhere) (get_or slots (length st) 0) l × Stacked sheet work stack slots st

-- the slots of the stack's places, and of the one above them: in the work area, and no two overlap
pub record Slotted (slots : List ℕ) : Type 0 where
  pub long : length slots ≡ 20
  pub within : (k : ℕ) → k < 20 → get_or slots k 0 + most_words ≤ work_words
  pub apart : (j k : ℕ) → j < 20 → k < 20 → (j ≡ k → ⊥)
      → (get_or slots j 0 + most_words ≤ get_or slots k 0) ⊎ (get_or slots k 0 + most_words ≤ get_or slots j 0)
