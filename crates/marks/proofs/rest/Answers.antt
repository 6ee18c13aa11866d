-- `marks::rest` meets its contract.
use Rattle.marks.proofs.Marking.{lent_rest}
use Rattle.marks.proofs.rest.Goals as goal

pub returns : goal.returns
returns c = rw (c.min.ensures, c.min-end.ensures) (lent_rest c.args.text.now c.args.bytes c.args.at)
