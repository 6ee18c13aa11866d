-- The faults of a call of tidying are given exactly when their sentences hold and none before them does.
use Prim.Native.Nat.{ℕ}
use native.Mathlib.Omega.{arith}
use mathlib.Core.Path.{◌≡◌, refl}
use mathlib.Core.Bool.{Bool, true, false, cond}
use mathlib.Core.List.{List}
use mathlib.Core.Logic.{inl, inr}
use lib.Dec.{ltb}
use lib.ListN.{length}
use borrow.Author.Tests.{ltb-true, ltb-false}
use Rattle.signals.specs.Words.{tidy_fault, tidied}
use Rattle.signals.specs.Checks.{FaultCheck}
use Rattle.signals.specs.Giving.{WithinM}
use Rattle.signals.proofs.Checks.{none_single, check_single, fault_check, exactly}
use Rattle.signals.proofs.Normal.{accepted_normal}
use Rattle.signals.proofs.Tidying.{tidying}
use Rattle.operations.specs.CallFaults.{AnswerChecks, Breaks5, Breaks6}
use Rattle.tidying.specs.Calls.{tidying_fault}
use Rattle.tidying.specs.TidyingFaults.{TidyingFaultsExact}
use Rattle.tidying.proofs.TidyingGives.{tidied_within}

not_long_lem : (l : List ℕ) → tidy_fault l ≡ 0 → ¬ Breaks5 (tidied l)
not_long_lem l z b = omega (arith, ((accepted_normal (tidied l)).0 (tidying.accepted l z)).1)

not_late_lem : (l : List ℕ) → WithinM l → ¬ Breaks6 (tidied l)
not_late_lem l h b = omega (arith, b.2, tidied_within l h b.0 b.1)

of_tidying : (l : List ℕ) (n : ℕ) → WithinM l → FaultCheck (tidy_fault l) (AnswerChecks (tidied l) n) (tidying_fault l n)
unfolding tidying_fault
of_tidying l n h =
    fault_check (tidy_fault l) (cond (ltb n (length (tidied l))) 7 0) (AnswerChecks (tidied l) n)
    (λ z. go (ltb n (length (tidied l))) refl (not_long_lem l z) (not_late_lem l h))
  where
    go : (t : Bool) → ltb n (length (tidied l)) ≡ t → ¬ Breaks5 (tidied l) → ¬ Breaks6 (tidied l) → AnswerChecks (tidied l) n (cond t 7 0)
    go true e a b = inr (a, inr (b, inl (ltb-true n (length (tidied l)) e, refl)))
    go false e a b = inr (a, inr (b, inr ((λ c. omega (arith, ltb-false n (length (tidied l)) e)), refl)))

pub tidying_faults_exact : TidyingFaultsExact
tidying_faults_exact =
    record {
      exact =
          λ l n h. exactly (FaultCheck (tidy_fault l) (AnswerChecks (tidied l) n)) (tidying_fault l n)
          (check_single (check_single (check_single (check_single none_single)))) (of_tidying l n h);
      not_long = not_long_lem;
      not_late = λ l h z. not_late_lem l h;
    }
