-- `inputs::first` meets its contract.
use Rattle.inputs.proofs.Splitting.{first_counted}
use Rattle.inputs.proofs.first.Goals as goal

pub returns : goal.returns
returns c = (c.told-input, first_counted c.args.n _ c.args.input.now c.told-input c.min.ensures)
