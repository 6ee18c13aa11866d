-- `building::deliver`: the answer is whole in the slot, and is handed over.
use Rattle.std.proofs.Common.{rules}
use Rattle.operations.specs.Calls.{room_fault}
use Rattle.building.specs.Building.{made_fault}
use Rattle.building.proofs.deliver.Goals as goal

pub returns : goal.returns
unfolding made_fault room_fault
returns c = search rules
