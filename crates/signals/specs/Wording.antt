-- Statement: The numbers of Moment.antt say what document 01 says of instants and gaps: each field beside its sentence.
use Rattle.std.specs.Prelude.{ℕ, ◌+◌, ◌-◌, ◌≤◌, ◌<◌, ◌≡◌, ◌⊎◌, ◌↔◌}
use Rattle.signals.specs.Moment.{gap, instant, is_gap, tick, just_before, in_open, in_closed, started, from_to}
use Rattle.signals.specs.Quantified.{Up, Down, InOpen, InClosed, Before, Started, FromTo}

-- t is a gap; t is an instant (k from 1)
abbrev pub IsGap : ℕ → Type 0
IsGap t = (k : ℕ) × (t ≡ gap k)

abbrev pub IsInstant : ℕ → Type 0
IsInstant t = (k : ℕ) × (1 ≤ k) × (t ≡ instant k)

-- "A moment is either the instant k (k from 1) or the gap k (k from 0). They follow as gap 0, instant 1, gap 1, instant 2."
pub record Moments : Type 0 where
  pub either : (t : ℕ) → IsGap t ⊎ IsInstant t
  pub not_both : (t : ℕ) → IsGap t → IsInstant t → ⊥
  pub one_gap : (j k : ℕ) → gap j ≡ gap k → j ≡ k
  pub one_instant : (j k : ℕ) → 1 ≤ j → 1 ≤ k → instant j ≡ instant k → j ≡ k
  pub first : gap 0 ≡ 0
  pub instant_next : (k : ℕ) → instant (k + 1) ≡ gap k + 1
  pub gap_next : (k : ℕ) → gap (k + 1) ≡ instant (k + 1) + 1
  pub gap_below : (k : ℕ) → gap k < instant (k + 1)
  pub instant_below : (k : ℕ) → instant (k + 1) < gap (k + 1)
  -- the tests for them, and the k of each
  pub gap_told : (t : ℕ) → Up (is_gap t) ↔ IsGap t
  pub instant_told : (t : ℕ) → Down (is_gap t) ↔ IsInstant t
  pub gap_tick : (k : ℕ) → tick (gap k) ≡ k
  pub instant_tick : (k : ℕ) → 1 ≤ k → tick (instant k) ≡ k

-- The spans of "Operations", n being any moment.
pub record Spans : Type 0 where
  -- "just before instant k is gap k-1"
  pub previous : (k : ℕ) → 1 ≤ k → just_before (instant k) ≡ gap (k - 1)
  -- "(t1,t] holds the moments after t1's up to t's, and t1's own too when it is a gap"
  pub open_span : (t1 t n : ℕ) → InOpen t1 t n ↔ ((t1 < n) × (n ≤ t)) ⊎ ((n ≡ t1) × IsGap t1 × (t1 ≤ t))
  -- "[t1,t] always holds t1's"
  pub closed_span : (t1 t n : ℕ) → InClosed t1 t n ↔ ((t1 < n) × (n ≤ t)) ⊎ ((n ≡ t1) × (t1 ≤ t))
  -- "some t1 < t": some time of t1's moment lies before some time of t's: its moment is before t's, or both are one gap
  pub before : (t1 t : ℕ) → Before t1 t ↔ (t1 < t) ⊎ ((t1 ≡ t) × IsGap t1)
  -- "t ≥ d is k ≥ d for instant k and gap k"
  pub started_instant : (d k : ℕ) → 1 ≤ k → Started d (instant k) ↔ d ≤ k
  pub started_gap : (d k : ℕ) → Started d (gap k) ↔ d ≤ k
  -- "from t-d to t lie, at instant k, the instants k-d to k": instant j with k-d ≤ j ≤ k, "instants below 1 left out"
  pub instant_instants : (d k j : ℕ) → 1 ≤ k → 1 ≤ j → FromTo d (instant k) (instant j) ↔ (k ≤ j + d) × (j ≤ k)
  -- "and the gaps between them": gap j, between the instants j and j+1, with k-d ≤ j and j+1 ≤ k, "gaps below 0 left out"
  pub instant_gaps : (d k j : ℕ) → 1 ≤ k → FromTo d (instant k) (gap j) ↔ (k ≤ j + d) × (j + 1 ≤ k)
  -- "at gap k, the gaps k-d to k": gap j with k-d ≤ j ≤ k
  pub gap_gaps : (d k j : ℕ) → FromTo d (gap k) (gap j) ↔ (k ≤ j + d) × (j ≤ k)
  -- "and the instants between them": instant j, between the gaps j-1 and j, with k-d ≤ j-1 and j ≤ k
  pub gap_instants : (d k j : ℕ) → 1 ≤ j → FromTo d (gap k) (instant j) ↔ (k + 1 ≤ j + d) × (j ≤ k)

-- The tests of Moment.antt, which the definitions that compute use, say the same as the spans.
pub record Tests : Type 0 where
  pub open_span : (t1 t n : ℕ) → Up (in_open t1 t n) ↔ InOpen t1 t n
  pub closed_span : (t1 t n : ℕ) → Up (in_closed t1 t n) ↔ InClosed t1 t n
  pub started_test : (d t : ℕ) → Up (started d t) ↔ Started d t
  pub from_to_test : (d t t1 : ℕ) → Up (from_to d t t1) ↔ FromTo d t t1

pub record Wording : Type 0 where
  pub moments : Moments
  pub spans : Spans
  pub tests : Tests
