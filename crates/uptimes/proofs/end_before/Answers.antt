-- `uptimes::end_before` meets its contract.
use Rattle.std.proofs.Common.{refl}
use Rattle.uptimes.specs.Turns.{state_of}
use Rattle.uptimes.proofs.Turning.{ends_here, ends_nowhere}
use Rattle.uptimes.proofs.end_before.Goals as goal

pub returns-then-from-end : goal.returns-then-from-end
returns-then-from-end c =
    ends_here _ (state_of _ _) _ _ c.if-from-end.true refl c.put_two.ensures

pub returns : goal.returns
returns c = ends_nowhere _ (state_of _ _) c.if-from-end.false
