-- `sheets::known` meets its contract.
use Rattle.std.proofs.Common.{drop, ap, ◌∙◌}
use Rattle.format.proofs.Judging.{found_in, known_whole}
use Rattle.sheets.proofs.known.Goals as goal

pub returns-in-At : goal.returns-in-At
returns-in-At c = ap found_in c.in-At.ensures ∙ known_whole c.args.name.now 7 c.args.count (drop 7 c.args.sheet.now) c.requires.1

pub returns-in_default : goal.returns-in_default
returns-in_default c = ap found_in c.in_default.ensures ∙ known_whole c.args.name.now 7 c.args.count (drop 7 c.args.sheet.now) c.requires.1
