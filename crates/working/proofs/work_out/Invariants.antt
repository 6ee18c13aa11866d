-- `working::work_out` meets its contract: the sources say where the lists on the stack stand, and no code word so far met a fault.
use Prim.Native.Nat.{◌≤◌}
use mathlib.Core.List.{◌++◌}
use lib.ListN.{length}
use Rattle.calls.specs.Calls.{work_words}
use Rattle.working.proofs.Looping.{Going}
use Rattle.working.proofs.work_out.Given as goal

abbrev pub invariant-loop-i : goal.invariant-loop-i
invariant-loop-i l =
    (work_words ≤ length l.initial.work)
    × Going l.sheet (l.first ++ l.second) l.initial.work l.work l.stack l.slots l.height l.i
