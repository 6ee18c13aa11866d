-- `applying::apply` meets its contract.
use mathlib.Core.Path.{sym, ◌∙◌}
use Rattle.applying.proofs.PartsMade.{may_be, part_made, part_refused, not_first, not_second, no_fit}
use Rattle.applying.proofs.apply.Goals as goal
use Rattle.applying.proofs.apply.Goals.{else-apart-via-then-apart+then-apart-2+else-at-work}
use Rattle.applying.proofs.apply.Goals.{else-apart-via-then-apart+else-apart-2, else-apart-via-else-apart}

pub operate-requires : goal.operate-requires
operate-requires c =
    may_be _ _ _ _ (sym c.if-apart.true ∙ c.apart.ensures) (sym c.if-apart-2.true
    ∙ c.apart-then-apart.ensures)
    c.if-at-work.true

pub returns-then-at-work : goal.returns-then-at-work
returns-then-at-work c =
    part_made _ _ _ _ _ _ _ _
    (may_be _ _ _ _ (sym c.if-apart.true ∙ c.apart.ensures) (sym
    c.if-apart-2.true ∙ c.apart-then-apart.ensures)
    c.if-at-work.true)
    c.operate.ensures

pub returns : goal.returns
returns c =
    part_refused _ _ _ _ _ _
    (elim c.else-apart.branch [
      | else-apart-via-then-apart+then-apart-2+else-at-work w ↦
          no_fit _ _ _ _ (sym w.if-apart.true ∙ c.apart.ensures) (sym w.if-apart-2.true ∙ w.apart-then-apart.ensures) w.if-at-work.false
      | else-apart-via-then-apart+else-apart-2 w ↦
          not_second _ _ _ _ (sym w.if-apart.true ∙ c.apart.ensures) (sym w.if-apart-2.false ∙ w.apart-then-apart.ensures)
      | else-apart-via-else-apart w ↦ not_first _ _ _ _ (sym w.if-apart.false ∙ c.apart.ensures)
    ])
