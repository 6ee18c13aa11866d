-- `working::in_slot` says where an answer stands.
use native.Mathlib.Omega.{arith}
use mathlib.Core.Path.{sym, ap}
use Rattle.signals.specs.Answers.{count_in}
use Rattle.working.specs.Standing.{slot_made}
use Rattle.working.proofs.in_slot.Goals as goal

pub overflow_cast-result : goal.overflow_cast-result
overflow_cast-result c =
    let n = ap count_in c.in-Count.is in
    record { fits = omega (arith, c.requires) }

pub returns-in-Count : goal.returns-in-Count
returns-in-Count c = sym (ap (slot_made c.args.at) c.in-Count.is)

pub returns-in-Refused : goal.returns-in-Refused
returns-in-Refused c = sym (ap (slot_made c.args.at) c.in-Refused.is)
