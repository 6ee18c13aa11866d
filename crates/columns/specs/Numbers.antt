-- Believed: Moments as the numbers that a call takes and gives: 2k for the instant k, 2k+1 for the gap k. The order of the numbers is that
-- of the moments; 0 is instant 0, which is no moment and stands before gap 0.
use Rattle.std.specs.Prelude.{ℕ, ◌+◌, ◌*◌, ◌/◌, ◌%◌, Bool, cond, eqb}
use Rattle.signals.specs.Moment.{gap, instant}

abbrev pub instant_number : ℕ → ℕ
instant_number k = 2 * k

abbrev pub gap_number : ℕ → ℕ
gap_number k = 2 * k + 1

-- the number is a gap's
unfoldable pub is_gap_number : ℕ → Bool
is_gap_number m = eqb (m % 2) 1

-- the k of instant k and of gap k
unfoldable pub date_in : ℕ → ℕ
date_in m = m / 2

-- the moment of a number above 0; that of 0 shows in no answer, since a column with it is refused, with 20 or 9
unfoldable pub moment_of : ℕ → ℕ
moment_of m = cond (is_gap_number m) (gap (date_in m)) (instant (date_in m))
