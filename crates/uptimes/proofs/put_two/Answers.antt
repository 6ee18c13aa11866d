-- `uptimes::put_two` meets its contract.
use Rattle.uptimes.proofs.Turning.{two_fit, two_not}
use Rattle.uptimes.proofs.put_two.Goals as goal

pub returns-then-next-out : goal.returns-then-next-out
returns-then-next-out c = two_fit _ _ _ _ c.if-next-out.true

pub returns-else-next-out : goal.returns-else-next-out
returns-else-next-out c = two_not _ _ _ _ c.if-next-out.false
