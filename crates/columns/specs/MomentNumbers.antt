-- Statement: The numbers of moments: each moment has one, every number is that of an instant or of a gap, their order is that of the
-- moments, and instant 0 stands before gap 0, the first moment.
use Rattle.std.specs.Prelude.{ℕ, suc, ◌≤◌, ◌<◌, ◌≡◌, ◌⊎◌, ◌↔◌}
use Rattle.signals.specs.Moment.{gap, instant}
use Rattle.columns.specs.Numbers.{instant_number, gap_number, date_in, moment_of}

pub record MomentNumbers : Type 0 where
  pub instants : (k : ℕ) → 1 ≤ k → moment_of (instant_number k) ≡ instant k
  pub gaps : (k : ℕ) → moment_of (gap_number k) ≡ gap k
  pub every : (m : ℕ) → (m ≡ instant_number (date_in m)) ⊎ (m ≡ gap_number (date_in m))
  pub order : (m n : ℕ) → 1 ≤ m → (m < n) ↔ (moment_of m < moment_of n)
  -- instant 0, gap 0, instant 1, gap 1 and so on
  pub between : (k : ℕ) → (instant_number k < gap_number k) × (gap_number k < instant_number (suc k))
