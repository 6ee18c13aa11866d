-- Statement: The faults of a call of tidying are given exactly when their sentence of document 01's table holds and no earlier one does:
-- 1, 2, 3 (`TidyFaultsExact`), then those of the answer, of which 5 and 6 are never met.
use Rattle.std.specs.Prelude.{ℕ, ◌≡◌, List}
use Rattle.signals.specs.Words.{tidy_fault, tidied}
use Rattle.signals.specs.Checks.{FaultCheck, Exactly}
use Rattle.signals.specs.Giving.{WithinM}
use Rattle.operations.specs.CallFaults.{AnswerChecks, Breaks5, Breaks6}
use Rattle.tidying.specs.Calls.{tidying_fault}

pub record TidyingFaultsExact : Type 0 where
  pub exact : (l : List ℕ) (n : ℕ) → WithinM l → Exactly (FaultCheck (tidy_fault l) (AnswerChecks (tidied l) n)) (tidying_fault l n)
  pub not_long : (l : List ℕ) → tidy_fault l ≡ 0 → ¬ Breaks5 (tidied l)
  pub not_late : (l : List ℕ) → WithinM l → tidy_fault l ≡ 0 → ¬ Breaks6 (tidied l)
