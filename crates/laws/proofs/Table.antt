-- Every law of the table holds, and their number.
use Prim.Native.Nat.{ℕ, zero, suc, ◌-◌, ◌<◌}
use native.Mathlib.Omega.{arith}
use mathlib.Core.Path.{refl}
use mathlib.Core.List.{List, [], ◌∷◌}
use lib.ListN.{length, get_or}
use Rattle.laws.specs.Scheme.{Equation}
use Rattle.laws.specs.Laws.{table, equation, and_commutes, NumberOfLaws}
use Rattle.laws.specs.Soundness.{Holds, EveryLawHolds}
use Rattle.laws.proofs.Boolean.{and_commutes_lem, or_commutes_lem, and_groups_lem, or_groups_lem, and_distributes_lem}
use Rattle.laws.proofs.Boolean.{or_distributes_lem, and_absorbs_lem}
use Rattle.laws.proofs.Boolean.{or_absorbs_lem, not_of_and_lem, not_of_or_lem, not_not_lem, and_self_lem, or_self_lem, and_one_lem}
use Rattle.laws.proofs.Boolean.{or_zero_lem, and_zero_lem, or_one_lem}
use Rattle.laws.proofs.Boolean.{and_not_lem, or_not_lem}
use Rattle.laws.proofs.SetReset.{sr_not_lem, sr_reset_one_lem, sr_set_one_lem, sr_set_zero_lem, sr_and_reset_lem, sr_reset_or_lem}
use Rattle.laws.proofs.SetReset.{sr_set_or_lem}
use Rattle.laws.proofs.ResetSet.{rs_not_lem, rs_reset_one_lem, rs_set_one_lem, rs_set_zero_lem, rs_self_lem, rs_and_set_lem}
use Rattle.laws.proofs.ResetSet.{rs_set_under_reset_lem, rs_as_sr_lem}
use Rattle.laws.proofs.ResetSet.{rs_reset_or_lem, rs_set_or_lem}
use Rattle.laws.proofs.Timers.{ton_and_input_lem, input_and_tof_lem, ton_of_and_lem, tof_of_or_lem, ton_of_ton_lem, tof_of_tof_lem}
use Rattle.laws.proofs.Timers.{ton_and_ton_lem, ton_or_ton_lem}
use Rattle.laws.proofs.Timers.{tof_and_tof_lem, tof_or_tof_lem, not_ton_lem, not_tof_lem}
use Rattle.laws.proofs.Edges.{rising_and_input_lem, rising_of_not_lem, falling_of_not_lem, rising_of_rising_lem, falling_of_rising_lem}
use Rattle.laws.proofs.Edges.{rising_of_and_lem}
use Rattle.laws.proofs.Edges.{falling_of_or_lem}

infixr 50 ◌then◌
pub number_of_laws : NumberOfLaws
unfolding table
number_of_laws = refl

-- each equation of a list holds
data Each : List Equation → Type 0 where
  done : Each []
  ◌then◌ : {q : Equation} {l : List Equation} → Holds q → Each l → Each (q ∷ l)

laws : Each table
unfolding table
laws =
    and_commutes_lem
    then or_commutes_lem
    then and_groups_lem
    then or_groups_lem
    then and_distributes_lem
    then or_distributes_lem
    then and_absorbs_lem
    then or_absorbs_lem
    then not_of_and_lem
    then not_of_or_lem
    then not_not_lem
    then and_self_lem
    then or_self_lem
    then and_one_lem
    then or_zero_lem
    then and_zero_lem
    then or_one_lem
    then and_not_lem
    then or_not_lem
    then sr_not_lem
    then sr_reset_one_lem
    then sr_set_one_lem
    then sr_set_zero_lem
    then sr_and_reset_lem
    then sr_reset_or_lem
    then sr_set_or_lem
    then rs_not_lem
    then rs_reset_one_lem
    then rs_set_one_lem
    then rs_set_zero_lem
    then rs_self_lem
    then rs_and_set_lem
    then rs_set_under_reset_lem
    then rs_as_sr_lem
    then rs_reset_or_lem
    then rs_set_or_lem
    then ton_and_input_lem
    then input_and_tof_lem
    then ton_of_and_lem
    then tof_of_or_lem
    then ton_of_ton_lem
    then tof_of_tof_lem
    then ton_and_ton_lem
    then ton_or_ton_lem
    then tof_and_tof_lem
    then tof_or_tof_lem
    then not_ton_lem
    then not_tof_lem
    then rising_and_input_lem
    then rising_of_not_lem
    then falling_of_not_lem
    then rising_of_rising_lem
    then falling_of_rising_lem
    then rising_of_and_lem
    then falling_of_or_lem
    then done

each_at : {l : List Equation} → Each l → (n : ℕ) → n < length l → Holds (get_or l n and_commutes)
each_at done n h = absurd (omega arith)
each_at (q then l) zero h = q
each_at (q then l) (suc n) h = each_at l n (omega arith)

pub every_law_holds : EveryLawHolds
unfolding equation
every_law_holds n from to = each_at laws (n - 1) (omega arith)
