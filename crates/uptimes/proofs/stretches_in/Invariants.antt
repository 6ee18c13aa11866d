-- `uptimes::stretches_in` meets its contract: the stretches done and those of the words left are all of the list's.
use Prim.Native.Nat.{◌-◌, ◌≤◌}
use lib.ListN.{length}
use Rattle.format.specs.Theorems.{decoded}
use Rattle.sources.proofs.Readers.{Reading}
use Rattle.uptimes.specs.Turns.{state_of}
use Rattle.uptimes.proofs.AlongWords.{Along}
use Rattle.uptimes.proofs.stretches_in.Given as goal

abbrev pub invariant-loop-reader : goal.invariant-loop-reader
invariant-loop-reader l =
    Reading (decoded l.part) l.reader × (l.reader.passed ≤ length (decoded l.part))
    × Along (decoded l.part) l.h l.initial.out l.reader.passed (state_of l.going l.out)

abbrev pub decreases-loop-reader : goal.decreases-loop-reader
decreases-loop-reader l = length (decoded l.part) - l.reader.passed
