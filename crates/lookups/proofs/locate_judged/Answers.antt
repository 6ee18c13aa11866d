-- `lookups::locate_judged` meets its contract.
use Rattle.std.proofs.Common.{true, false, sym, ◌∙◌}
use Rattle.format.proofs.Judged.{judged_found, judged_missing}
use Rattle.lookups.proofs.locate_judged.Goals as goal

pub returns-in-At : goal.returns-in-At
returns-in-At c = judged_found _ _ _ c.read16-count.ensures.0 _ c.find.ensures _ _ c.in-At.is

pub returns-then-well_named : goal.returns-then-well_named
returns-then-well_named c =
    judged_missing _ _ _ c.read16-count.ensures.0 _ c.find.ensures _ true c.in-Refused.is
    (sym c.if-well_named.true ∙ c.well_named.ensures)

pub returns-else-well_named : goal.returns-else-well_named
returns-else-well_named c =
    judged_missing _ _ _ c.read16-count.ensures.0 _ c.find.ensures _ false c.in-Refused.is
    (sym c.if-well_named.false ∙ c.well_named.ensures)
