-- `inputs::second_line` meets its contract.
use Rattle.inputs.proofs.Splitting.{second_is}
use Rattle.inputs.proofs.second_line.Goals as goal

pub returns : goal.returns
returns c =
    second_is c.args.input.now _ c.args.n c.first-text.ensures _ _ c.after_line-after.ensures
    c.first_line.ensures
