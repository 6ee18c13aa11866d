-- `packing::pack_fault` meets its contract.
use mathlib.Core.Path.{refl}
use Rattle.packing.specs.Packing.{pack_fault, fault_bits}
use Rattle.packing.proofs.pack_fault.Goals as goal

pub returns : goal.returns
unfolding pack_fault fault_bits
returns c = refl
