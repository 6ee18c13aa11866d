-- `packing::table_in` meets its contract.
use mathlib.Core.Path.{refl}
use Rattle.packing.specs.Packing.{bit, table_in}
use Rattle.packing.proofs.table_in.Goals as goal

pub returns : goal.returns
unfolding bit table_in
returns c = refl
