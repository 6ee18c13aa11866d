-- `packing::pack_written` meets its contract.
use native.Mathlib.Omega.{arith}
use Prim.Native.Nat.{ℕ, ◌%◌}
use mathlib.Core.Path.{◌≡◌, sym, ap, ◌∙◌}
use Rattle.signals.specs.declared.Written.TheVariants.{Count, Refused}
use Rattle.packing.specs.Packing.{pack_fault, fault_bits, written_bits}
use Rattle.packing.proofs.pack_written.Goals as goal

counted : (n : ℕ) → n % 65536 ≡ written_bits (Count n)
unfolding written_bits fault_bits pack_fault
counted n = omega arith

refused : (f : ℕ) → fault_bits f ≡ written_bits (Refused f)
unfolding written_bits
refused f = omega arith

pub returns-in-Count : goal.returns-in-Count
returns-in-Count c = counted _ ∙ sym (ap written_bits c.in-Count.is)

pub returns-in-Refused : goal.returns-in-Refused
returns-in-Refused c = c.pack_fault.ensures ∙ refused _ ∙ sym (ap written_bits c.in-Refused.is)
