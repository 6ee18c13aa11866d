-- Believed: Document 01, "Time and words": ticks, dates, lengths and moments, and the spans of moments that "Operations" speaks of.
use Rattle.std.specs.Prelude.{ℕ, ◌+◌, ◌*◌, ◌-◌, ◌/◌, ◌%◌, Bool, ◌&&◌, leb, eqb}

-- M: the largest date and the largest length
abbrev pub M : ℕ
M = 1073741823

-- A moment is either the instant k (k from 1) or the gap k (k from 0). They are numbered in their order: gap 0, instant 1,
-- gap 1, instant 2.
abbrev pub gap : ℕ → ℕ
gap k = 2 * k

abbrev pub instant : ℕ → ℕ
instant k = 2 * k - 1

unfoldable pub is_gap : ℕ → Bool
is_gap m = eqb (m % 2) 0

-- the tick of a moment: the k of gap k and of instant k
unfoldable pub tick : ℕ → ℕ
tick m = (m + 1) / 2

-- just before instant k is gap k-1
unfoldable pub just_before : ℕ → ℕ
just_before m = m - 1

-- The first moment of (t1,..]: (t1,t] holds the moments after t1's up to t's, and t1's own too when it is a gap.
-- So "opens t1 ≤ t" says that some time of t1's moment lies before some time of t's.
unfoldable pub opens : ℕ → ℕ
opens t1 = t1 + t1 % 2

-- n lies in (t1,t]; n lies in [t1,t]
unfoldable pub in_open : ℕ → ℕ → ℕ → Bool
in_open t1 t n = leb (opens t1) n && leb n t

unfoldable pub in_closed : ℕ → ℕ → ℕ → Bool
in_closed t1 t n = leb t1 n && leb n t

-- t ≥ d: k ≥ d for instant k and gap k
unfoldable pub started : ℕ → ℕ → Bool
started d t = leb (2 * d) (t + 1)

-- t1 lies from t-d to t
unfoldable pub from_to : ℕ → ℕ → ℕ → Bool
from_to d t t1 = leb t1 t && leb t (t1 + 2 * d)
