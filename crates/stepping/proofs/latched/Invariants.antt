-- `stepping::latched` is safe and ends.
use Prim.Native.Nat.{◌≤◌}
use Rattle.stepping.proofs.latched.Given as goal

abbrev pub invariant-loop-left : goal.invariant-loop-left
invariant-loop-left l = 0 ≤ 0

abbrev pub decreases-loop-left : goal.decreases-loop-left
decreases-loop-left l = l.left
