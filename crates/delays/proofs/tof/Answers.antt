-- `delays::tof` is the engine's delay of its level.
use Rattle.timing.proofs.DelaySignals.{tof_delay}
use Rattle.delays.proofs.tof.Goals as goal

pub returns : goal.returns
returns c = rw (tof_delay _) c.delay.ensures
