-- Statement: The number of `sgl_formula_fault`: its high part is the formula's fault; its low part, 48 bits, is the length of the longest
-- beginning of the text that some formula of the grammar begins with, 0 for a text of over 1,024 bytes.
use Rattle.std.specs.Prelude.{ℕ, ◌/◌, ◌%◌, ◌<◌, ◌≤◌, ◌≡◌, List, length}
use Rattle.signals.specs.Checks.{NoFault, Exactly}
use Rattle.grammar.specs.Formula.{formula_fault, stop_place}
use Rattle.grammar.specs.Exactness.{FormulaChecks}
use Rattle.beginnings.specs.Beginnings.{LongestBeginning}
use Rattle.packing.specs.Packing.{pack_stop}

-- fault and place of a text in one number
abbrev pub stop_number : List ℕ → ℕ
stop_number w = pack_stop (formula_fault w) (stop_place w)

pub record StopsPacked : Type 0 where
  -- 10, 11, 8 and 12, each exactly when its sentence holds and none before it does
  pub fault : (w : List ℕ) → Exactly (FormulaChecks w NoFault) (stop_number w / 281474976710656)
  pub place : (w : List ℕ) → length w ≤ 1024 → LongestBeginning w (stop_number w % 281474976710656)
  -- a longer text is not read
  pub long : (w : List ℕ) → 1024 < length w → stop_number w % 281474976710656 ≡ 0
