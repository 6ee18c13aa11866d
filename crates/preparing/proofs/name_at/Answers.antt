-- `preparing::name_at` puts a place into the code word of a name.
use mathlib.Core.Path.{sym, ap}
use Rattle.machine.specs.Machine.{placed_name}
use Rattle.preparing.proofs.name_at.Goals as goal

pub returns-in-At : goal.returns-in-At
unfolding placed_name
returns-in-At c = sym (ap placed_name c.in-At.is)

pub returns-in-Refused : goal.returns-in-Refused
unfolding placed_name
returns-in-Refused c = sym (ap placed_name c.in-Refused.is)
