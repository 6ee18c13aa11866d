-- `charting::moments_fault` meets its contract: no moment passed is outside.
use native.Mathlib.Omega.{arith}
use mathlib.Core.Path.{sym, ◌∙◌}
use Rattle.charting.proofs.Judging.{inside_next, found_outside, all_inside}
use Rattle.charting.proofs.moments_fault.Goals as goal

pub returns-then-fault-ne0 : goal.returns-then-fault-ne0
returns-then-fault-ne0 c =
    found_outside c.args.moments.now _ _ c.moment_fault-fault.ensures (omega arith) c.if-fault-ne0.true

pub loop-i-preserved : goal.loop-i-preserved
loop-i-preserved c = inside_next c.args.moments.now _ c.loop-i.invariant (sym c.moment_fault-fault.ensures ∙ c.if-fault-ne0.false)

pub returns : goal.returns
returns c = all_inside _ _ c.loop-i.invariant (omega arith)
