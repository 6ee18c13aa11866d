-- Statement: Document 01's order of faults: the checks of a call are taken one after another, and the first whose sentence holds gives its
-- number.
use Rattle.std.specs.Prelude.{ℕ, ◌≡◌, ◌⊎◌, ◌↔◌}

-- the fault that a check and those after it give: its number where its sentence holds, else what those after it give
abbrev pub Check : ℕ → Type 0 → (ℕ → Type 0) → ℕ → Type 0
Check number Broken later fault = (Broken × (fault ≡ number)) ⊎ ((¬ Broken) × later fault)

-- what is judged before the rest of a call has a fault of its own
abbrev pub FaultCheck : ℕ → (ℕ → Type 0) → ℕ → Type 0
FaultCheck own later = Check own (¬ (own ≡ 0)) later

-- after the last check: none, which is 0
abbrev pub NoFault : ℕ → Type 0
NoFault fault = fault ≡ 0

-- the computed number is the one that the checks give, and they give no other
abbrev pub Exactly : (ℕ → Type 0) → ℕ → Type 0
Exactly checks computed = (fault : ℕ) → (computed ≡ fault) ↔ checks fault
