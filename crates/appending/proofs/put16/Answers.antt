-- `appending::put16` meets its contract.
use Rattle.std.proofs.Common.{take, ap, ◌∙◌, arith}
use Rattle.slices.specs.Bytes.{bytes16}
use Rattle.appending.proofs.Parts.{part_put}
use Rattle.appending.proofs.put16.Goals as goal

pub returns : goal.returns
unfolding bytes16
returns c = part_put c.args.out.now c.args.at _ _ _ (c.copy_from_slice.ensures.after ∙ ap (take 2) c.to_le_bytes.ensures) (omega arith)
