-- `packing::pack_told` meets its contract.
use native.Mathlib.Omega.{arith}
use Prim.Native.Nat.{ℕ}
use mathlib.Core.Path.{◌≡◌, refl, sym, ap, ◌∙◌}
use Rattle.signals.specs.declared.Told.TheVariants.{Yes, No, Refused}
use Rattle.packing.specs.Packing.{pack_fault, fault_bits, told_bits}
use Rattle.packing.proofs.pack_told.Goals as goal

yes : 1 ≡ told_bits Yes
unfolding told_bits fault_bits pack_fault
yes = refl

no : 0 ≡ told_bits No
unfolding told_bits fault_bits pack_fault
no = refl

refused : (f : ℕ) → fault_bits f ≡ told_bits (Refused f)
unfolding told_bits
refused f = omega arith

pub returns-in-Yes : goal.returns-in-Yes
returns-in-Yes c = yes ∙ sym (ap told_bits c.in-Yes.is)

pub returns-in-No : goal.returns-in-No
returns-in-No c = no ∙ sym (ap told_bits c.in-No.is)

pub returns-in-Refused : goal.returns-in-Refused
returns-in-Refused c = c.pack_fault.ensures ∙ refused _ ∙ sym (ap told_bits c.in-Refused.is)
