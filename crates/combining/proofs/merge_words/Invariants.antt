-- `combining::merge_words` meets its contract: whatever the merge ends with from the state reached, it ends with from where the loop began.
use Prim.Native.Nat.{◌+◌, ◌-◌}
use mathlib.Core.Path.{◌≡◌}
use lib.ListN.{length}
use Rattle.merging.proofs.Along.{Along, reached}
use Rattle.combining.proofs.merge_words.Given as goal

abbrev pub invariant-loop-date : goal.invariant-loop-date
invariant-loop-date g l =
    (length l.slot ≡ length l.initial.slot)
    × Along l.operation l.table l.a l.b (reached l.initial.slot l.initial.made l.initial.carried l.initial.x.passed l.initial.y.passed)
    l.slot l.x l.y l.made l.carried l.date

abbrev pub decreases-loop-date : goal.decreases-loop-date
decreases-loop-date g l = length l.a - l.x.passed + (length l.b - l.y.passed)
