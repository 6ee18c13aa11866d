-- Statement: Document 01: "A reader goes along each operand's words and knows how many it has passed." What a reader says of an accepted
-- list that it has passed p words of, the first word counting as passed, in terms of the list's signal and dates.
use Rattle.std.specs.Prelude.{ℕ, ◌+◌, ◌-◌, ◌≤◌, ◌<◌, List, ◌↔◌, ◌≡◌, length, get_or}
use Rattle.signals.specs.Moment.{M, gap, instant}
use Rattle.signals.specs.Words.{date_of, signal_of}
use Rattle.signals.specs.Normal.{Accepted}
use Rattle.signals.specs.ListFaults.{date_before}
use Rattle.signals.specs.Passing.{held_value}
use Rattle.signals.specs.Giving.{WithinM}
use Rattle.reading.specs.Dated.{dated_by}
use Rattle.reading.specs.Reading.{NEVER, next_date, step_past}
use Rattle.reading.specs.Along.{along_to, Sought}

-- what going past date e tells
pub record PastDate (l : List ℕ) (p e : ℕ) : Type 0 where
  -- the signal just before instant e, at it, and in the gap after it
  pub before : (step_past l p e).before ≡ signal_of l (gap (e - 1))
  pub at : (step_past l p e).at ≡ signal_of l (instant e)
  pub after : (step_past l p e).after ≡ signal_of l (gap e)
  -- and the number of words passed: those dated at or before e
  pub passed : (step_past l p e).passed ≡ dated_by e l

pub record Says (l : List ℕ) (p : ℕ) : Type 0 where
  -- p is the number of words dated at or before the last one passed, whose date is 0 for the first word
  pub passed : p ≡ dated_by (date_before l p) l
  -- the next date is that of the next word, or NEVER exactly when all are passed; it lies above every date passed
  pub next : p < length l → next_date l p ≡ date_of (get_or l p 0)
  pub none : next_date l p ≡ NEVER ↔ p ≡ length l
  pub above : (i : ℕ) → i < p → date_of (get_or l i 0) < next_date l p
  -- the value held is the signal's at every moment after the last date passed and before the next word's, where one is left
  pub held : (t : ℕ) → gap (date_before l p) ≤ t → (p < length l → t < instant (next_date l p)) → held_value l p ≡ signal_of l t
  -- past a date after those passed and not after the next
  pub past : (e : ℕ) → date_before l p < e → e ≤ next_date l p → PastDate l p e

pub record ReaderSays : Type 0 where
  pub says : (l : List ℕ) (p : ℕ) → Accepted l → WithinM l → 1 ≤ p → p ≤ length l → Says l p
  -- along to date k, from where the words dated before an earlier date, or the same, were passed: those dated before k are; past k then,
  -- those dated at or before it, and the signal's values at instant k and in gap k
  pub along : (l : List ℕ) (e k : ℕ) → Accepted l → e ≤ k → along_to l (dated_by (e - 1) l) k ≡ dated_by (k - 1) l
  pub sought : (l : List ℕ) (k : ℕ) → Accepted l → Sought l k (step_past l (dated_by (k - 1) l) k)
  -- NEVER lies above every sum of a date and a length
  pub never : (date length : ℕ) → date ≤ M → length ≤ M → date + length < NEVER
