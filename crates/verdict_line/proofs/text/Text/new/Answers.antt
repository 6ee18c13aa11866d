-- `verdict_line::text::Text::new` meets its contract.
use native.Mathlib.Omega.{arith}
use Rattle.verdict_line.proofs.Filling.{zeros_filled}
use Rattle.verdict_line.proofs.text.Text.new.Goals as goal

pub invariant_of-result : goal.invariant_of-result
invariant_of-result g c = record { filled = zeros_filled g.row.N _ (omega arith) }
