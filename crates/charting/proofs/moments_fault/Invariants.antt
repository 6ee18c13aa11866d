-- `charting::moments_fault` meets its contract: no moment passed is outside.
use Rattle.charting.proofs.Judging.{InsideTo}
use Rattle.charting.proofs.moments_fault.Given as goal

abbrev pub invariant-loop-i : goal.invariant-loop-i
invariant-loop-i l = InsideTo l.moments l.i
