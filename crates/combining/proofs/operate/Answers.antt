-- `combining::operate` meets its contract: the lists are judged first.
use Rattle.operations.specs.Calls.{fault_of_two}
use Rattle.operations.proofs.JudgedCalls.{refused}
use Rattle.combining.proofs.operate.Goals as goal

pub returns-then-fault-ne0 : goal.returns-then-fault-ne0
unfolding fault_of_two
returns-then-fault-ne0 c = refused _ _ _ _ _ c.pair_fault-fault.ensures c.if-fault-ne0.true
