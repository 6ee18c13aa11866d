-- `delays::ton` is the engine's delay of its level.
use Rattle.timing.proofs.DelaySignals.{ton_delay}
use Rattle.delays.proofs.ton.Goals as goal

pub returns : goal.returns
returns c = rw (ton_delay _) c.delay.ensures
