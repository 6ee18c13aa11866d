-- `merging::made_at` merges by the loop of the operation.
use Rattle.merging.proofs.MergedCalls.{joined}
use Rattle.merging.proofs.made_at.Goals as goal

pub returns-in-Connective : goal.returns-in-Connective
returns-in-Connective c =
    let x = c.args in
    joined x.operation c.in-Connective.is x.table x.lent.sheet.now x.lent.left.now x.lent.right.now x.work.now x.a x.b
    x.at x.room _ _ c.join.ensures

pub returns-in_default : goal.returns-in_default
returns-in_default c = c.merge.ensures
