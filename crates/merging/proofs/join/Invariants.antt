-- `merging::join` meets its contract, as `merge` does: a connective's values are cells of its table.
use Prim.Native.Nat.{◌+◌, ◌-◌, ◌≤◌}
use lib.ListN.{length}
use mathlib.Core.Bool.{false}
use Rattle.showing.specs.declared.Operation.TheVariants.{Connective}
use Rattle.sources.specs.Sources.{list_at, slot_in}
use Rattle.merging.specs.Merging.{MayMerge}
use Rattle.merging.proofs.Along.{reached}
use Rattle.merging.proofs.MergeLoop.{Looping}
use Rattle.merging.proofs.join.Given as goal

abbrev pub invariant-loop-date : goal.invariant-loop-date
invariant-loop-date l =
    (l.at ≤ l.end) × MayMerge l.a l.b l.at (l.end - l.at) (length l.initial.work)
    × Looping Connective l.table
    (list_at l.lent.sheet.now l.lent.left.now l.lent.right.now l.initial.work l.a)
    (list_at l.lent.sheet.now l.lent.left.now l.lent.right.now l.initial.work l.b)
    l.initial.work l.at (l.end - l.at)
    (reached (slot_in l.initial.work l.at (l.end - l.at)) l.initial.made false l.initial.x.passed l.initial.y.passed) l.work l.x l.y
    l.made false l.date

abbrev pub decreases-loop-date : goal.decreases-loop-date
decreases-loop-date l =
    length (list_at l.lent.sheet.now l.lent.left.now l.lent.right.now l.initial.work l.a) - l.x.passed +
    (length (list_at l.lent.sheet.now l.lent.left.now l.lent.right.now l.initial.work l.b) - l.y.passed)
