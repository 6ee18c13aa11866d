-- `merging::merge_at` judges where the slot stands, then merges.
use mathlib.Core.Path.{sym, ◌∙◌}
use Rattle.merging.proofs.MergedCalls.{begins, no_room, second_touches, first_touches}
use Rattle.merging.proofs.merge_at.Goals as goal
use Rattle.merging.proofs.merge_at.Goals.{else-apart-via-then-apart+then-apart-2+else-from-work}
use Rattle.merging.proofs.merge_at.Goals.{else-apart-via-then-apart+else-apart-2, else-apart-via-else-apart}

pub returns-then-from-work : goal.returns-then-from-work
returns-then-from-work c =
    let x = c.args in
    begins x.operation x.table x.lent.sheet.now x.lent.left.now x.lent.right.now x.work.now x.a x.b x.at
    (sym c.apart.ensures ∙ c.if-apart.true, sym c.apart-then-apart.ensures ∙ c.if-apart-2.true, c.if-from-work.true) _ _
    c.made_at.ensures _ c.finish.ensures

pub returns : goal.returns
returns c =
    let x = c.args in
    elim c.else-apart.branch [
      | else-apart-via-then-apart+then-apart-2+else-from-work w ↦
          no_room x.operation x.table x.lent.sheet.now x.lent.left.now x.lent.right.now x.work.now x.a x.b x.at w.if-from-work.false
      | else-apart-via-then-apart+else-apart-2 w ↦
          second_touches x.operation x.table x.lent.sheet.now x.lent.left.now x.lent.right.now x.work.now x.a x.b x.at
          _ w.apart-then-apart.ensures w.if-apart-2.false
      | else-apart-via-else-apart w ↦
          first_touches x.operation x.table x.lent.sheet.now x.lent.left.now x.lent.right.now x.work.now x.a x.b x.at
          _ c.apart.ensures w.if-apart.false
    ]
