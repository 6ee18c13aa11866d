-- The whole of the answer `exact` is in the slot, which held `old`.
use Prim.Native.Nat.{ℕ}
use mathlib.Core.Path.{◌≡◌}
use mathlib.Core.List.{List}
use lib.ListN.{length}
use Rattle.operations.specs.Calls.{changes_after_m}
use Rattle.building.specs.Building.{slot_with}
use Rattle.building.specs.declared.Made.{Made}

pub record Built (exact old slot : List ℕ) (made : Made) : Type 0 where
  pub count_is : made.count ≡ length exact
  pub late_is : made.late ≡ changes_after_m exact
  pub slot_is : slot ≡ slot_with exact old
