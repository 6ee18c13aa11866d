-- `inputs::first_line` meets its contract.
use Rattle.inputs.proofs.Splitting.{first_is}
use Rattle.inputs.proofs.first_line.Goals as goal

pub returns : goal.returns
returns c =
    first_is c.args.input.now _ c.args.n c.first.ensures _ c.first_line.ensures
