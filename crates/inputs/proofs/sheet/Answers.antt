-- `inputs::sheet` meets its contract.
use Rattle.inputs.proofs.Splitting.{sheet_is}
use Rattle.inputs.proofs.sheet.Goals as goal

pub returns : goal.returns
returns c =
    sheet_is c.args.input.now _ c.args.n c.first-text.ensures _ _ c.after_line-after.ensures
    c.after_line.ensures
