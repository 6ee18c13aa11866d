-- Statement: Document 01: "A formula is answered on a sheet when, with work area and output long enough, its call meets no fault".
use Rattle.std.specs.Prelude.{ℕ, ◌≤◌, ◌≡◌, List, length}
use Rattle.calls.specs.Calls.{call_fault, needed_work, words_on}

-- from the bytes of sheet and formula alone: some work area and output are long enough, and with those and with all longer ones there
-- is no fault
abbrev pub Answered : List ℕ → List ℕ → Type 0
Answered sheet formula =
    (enoughWork enoughRoom : ℕ)
    × ((work room : ℕ) → enoughWork ≤ work → enoughRoom ≤ room → call_fault sheet formula work room ≡ 0)

-- the needed work words, and an output at least as long as the answer
pub record Enough (sheet formula : List ℕ) (work : ℕ) (old : List ℕ) : Type 0 where
  pub area : needed_work sheet ≤ work
  pub room : length (words_on sheet formula) ≤ length old
