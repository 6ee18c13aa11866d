-- `appending::put32` meets its contract.
use Rattle.std.proofs.Common.{◌∙◌, arith}
use Rattle.slices.specs.Bytes.{bytes32}
use Rattle.appending.proofs.Parts.{part_put}
use Rattle.appending.proofs.put32.Goals as goal

pub returns : goal.returns
unfolding bytes32
returns c = part_put c.args.out.now c.args.at _ _ _ (c.copy_from_slice.ensures.after ∙ c.to_le_bytes.ensures) (omega arith)
