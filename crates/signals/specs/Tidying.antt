-- Statement: Tidying takes lists that break only rule 4 and returns the normal list.
use Rattle.std.specs.Prelude.{ℕ, ◌≤◌, List, ◌≡◌, length}
use Rattle.signals.specs.Words.{tidy_fault, signal_of, tidied}
use Rattle.signals.specs.Settled.{Same}
use Rattle.signals.specs.Normal.{Normal, Accepted}

-- What tidying accepts it makes normal and accepted, with the same signal; two lists of one signal give the same words;
-- an accepted list stays as it is, and none grows.
pub record Tidying : Type 0 where
  pub normal : (l : List ℕ) → tidy_fault l ≡ 0 → Normal (tidied l)
  pub accepted : (l : List ℕ) → tidy_fault l ≡ 0 → Accepted (tidied l)
  pub denotes : (l : List ℕ) → tidy_fault l ≡ 0 → Same (signal_of (tidied l)) (signal_of l)
  pub one : (l m : List ℕ) → tidy_fault l ≡ 0 → tidy_fault m ≡ 0 → Same (signal_of l) (signal_of m) → tidied l ≡ tidied m
  pub keeps : (l : List ℕ) → Accepted l → tidied l ≡ l
  pub shorter : (l : List ℕ) → tidy_fault l ≡ 0 → length (tidied l) ≤ length l
