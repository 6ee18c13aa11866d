-- `formulas::read` meets its contract: it tells what judging does.
use Rattle.formulas.proofs.WholeRead.{count_is, fault_told}
use Rattle.formulas.proofs.read.Goals as goal

pub returns-then-stop-eq0 : goal.returns-then-stop-eq0
returns-then-stop-eq0 c = count_is _ _ _ _ c.judge-stop.ensures c.if-stop-eq0.true

pub returns-else-stop-eq0 : goal.returns-else-stop-eq0
returns-else-stop-eq0 c = fault_told _ _ _ _ c.judge-stop.ensures c.if-stop-eq0.false
