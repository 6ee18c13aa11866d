-- `lookups::lookup_fault` meets its contract.
use Rattle.std.proofs.Common.{ap, ◌∙◌}
use Rattle.format.specs.Calls.{fault_of_place}
use Rattle.format.proofs.Locating.{place_fault}
use Rattle.lookups.proofs.lookup_fault.Goals as goal

pub returns-in-At : goal.returns-in-At
returns-in-At c = ap fault_of_place c.in-At.ensures ∙ place_fault c.args.sheet.now c.args.name.now

pub returns-in-Refused : goal.returns-in-Refused
returns-in-Refused c = ap fault_of_place c.in-Refused.ensures ∙ place_fault c.args.sheet.now c.args.name.now
