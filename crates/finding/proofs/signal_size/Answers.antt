-- `finding::signal_size` meets its contract.
use Rattle.format.proofs.Walking.{size_at}
use Rattle.finding.proofs.signal_size.Goals as goal

pub returns : goal.returns
returns c = size_at c.args.rest.now c.read16.result c.read16.ensures.0
