-- `verdict_line::text::Text::push` meets its contract.
use native.Mathlib.Omega.{arith}
use mathlib.Core.Path.{sym}
use Rattle.verdict_line.proofs.Filling.{pushed_short, pushed_filled, pushed_held}
use Rattle.verdict_line.proofs.text.Text.push.Goals as goal

pub returns-then-bytes-self : goal.returns-then-bytes-self
returns-then-bytes-self g c =
    let s = c.args.self.now in
    pushed_held g.row.N s.bytes c.args.bytes.now s.count s.filled (omega arith) (omega arith) _ c.put.ensures

pub returns-else-bytes-self : goal.returns-else-bytes-self
returns-else-bytes-self g c =
    sym (pushed_short g.row.N _ c.args.bytes.now (omega (arith, c.args.self.now.filled.0)))

pub invariant_of-self : goal.invariant_of-self
invariant_of-self g c =
    let s = c.args.self.now in
    record { filled = pushed_filled g.row.N s.bytes c.args.bytes.now s.count s.filled (omega arith) (omega arith) _ c.put.ensures }
