-- Statement: The checks of a call leave one fault, so each number is given only as tabled.
use Rattle.std.specs.Prelude.{ℕ, ◌≤◌, ◌≡◌, ◌⊎◌, List}
use Rattle.format.specs.Reading.{sheet_fault}
use Rattle.calls.specs.Calls.{call_fault, claim_fault}
use Rattle.calls.specs.Tabled.{CallFaultIs, ClaimFaultIs}

-- the faults defined are the tabled ones, and no others are
pub record OneFault : Type 0 where
  pub call : (sheet formula : List ℕ) (work room : ℕ) → CallFaultIs sheet formula work room (call_fault sheet formula work room)
  pub claim : (sheet F G : List ℕ) (work : ℕ) → ClaimFaultIs sheet F G work (claim_fault sheet F G work)
  pub one_of_call : (sheet formula : List ℕ) (work room fault : ℕ) → CallFaultIs sheet formula work room fault
      → fault ≡ call_fault sheet formula work room
  pub one_of_claim : (sheet F G : List ℕ) (work fault : ℕ) → ClaimFaultIs sheet F G work fault → fault ≡ claim_fault sheet F G work
  -- a sheet's fault is one of 14 to 17
  pub sheets : (sheet : List ℕ) → (sheet_fault sheet ≡ 0) ⊎ ((14 ≤ sheet_fault sheet) × (sheet_fault sheet ≤ 17))
