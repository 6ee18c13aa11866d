-- `lookups::locate` meets its contract.
use Rattle.std.proofs.Common.{sym, ap, ◌∙◌, arith}
use Rattle.format.specs.declared.Place.TheVariants.{Refused}
use Rattle.format.proofs.Locating.{place_bad_sheet}
use Rattle.format.proofs.Judged.{judged_accepted}
use Rattle.lookups.proofs.locate.Goals as goal

pub returns-in-0 : goal.returns-in-0
returns-in-0 c = c.locate_judged.ensures ∙ judged_accepted _ _ (sym c.sheet_fault.ensures ∙ c.in-0.is)

pub returns-in_default : goal.returns-in_default
returns-in_default c = ap Refused c.sheet_fault.ensures ∙ place_bad_sheet c.args.sheet.now c.args.name.now (λ e. omega arith)
