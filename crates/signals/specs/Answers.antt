-- Believed: Document 01's number and values for each case of the answers, and the end of a failing run, which document 02's request 4 adds
-- to a verdict, by one definition for each enum: what every case is read as (its fault number, 0 for none, and its values), and the one
-- answer of a call with this fault number and these values. Contracts use the latter.
use Rattle.std.specs.Prelude.{ℕ, ◌+◌, ◌-◌, Bool, true, false, cond, List, ◌++◌, ltb, eqb, length, drop}
use Rattle.std.proofs.Math.Option.{Option, none, some}
use Rattle.signals.specs.Moment.{M, is_gap, tick, gap, instant}
use Rattle.signals.specs.declared.Sum.{Sum}
use Rattle.signals.specs.declared.Sum.TheVariants as sum
use Rattle.signals.specs.declared.Written.{Written}
use Rattle.signals.specs.declared.Written.TheVariants as written
use Rattle.signals.specs.declared.End.{End}
use Rattle.signals.specs.declared.End.TheVariants as ends
use Rattle.signals.specs.declared.Verdict.{Verdict}
use Rattle.signals.specs.declared.Verdict.TheVariants as verdict
use Rattle.signals.specs.declared.Told.{Told}
use Rattle.signals.specs.declared.Told.TheVariants as told

-- the first of two faults, 0 being none
unfoldable pub first_of : ℕ → ℕ → ℕ
first_of f g = cond (eqb f 0) g f

-- the answer of a sum with this fault (0 for none) and this exact sum: a date up to M
abbrev pub sum_for : ℕ → ℕ → Sum
sum_for fault total = cond (eqb fault 0) (cond (ltb M total) (sum.PastM total) (sum.On (record { 0 = total }))) (sum.Refused fault)

-- Date plus length: 9 for a date above M, then 8 for a length above M.
abbrev pub sum_fault : ℕ → ℕ → ℕ
sum_fault d n = cond (ltb M d) 9 (cond (ltb M n) 8 0)

abbrev pub sum_of : ℕ → ℕ → Sum
sum_of d n = sum_for (sum_fault d n) (d + n)

-- Written. The fault number; the word count (for sheets, byte count), 0 when refused.
abbrev pub fault_in : Written → ℕ
fault_in (written.Count n) = 0
fault_in (written.Refused f) = f

abbrev pub count_in : Written → ℕ
count_in (written.Count n) = n
count_in (written.Refused f) = 0

-- the answer of a call with this fault (0 for none) and these words
unfoldable pub written_of : ℕ → List ℕ → Written
written_of fault words = cond (eqb fault 0) (written.Count (length words)) (written.Refused fault)

-- the output after such a call: the words, those past the count being the old ones; as it was when refused
unfoldable pub output_of : ℕ → List ℕ → List ℕ → List ℕ
output_of fault words old = cond (eqb fault 0) (words ++ drop (length words) old) old

-- Told. The fault number; the value, up for yes and down for no, down when refused.
abbrev pub fault_of_told : Told → ℕ
fault_of_told told.Yes = 0
fault_of_told told.No = 0
fault_of_told (told.Refused f) = f

abbrev pub value_in : Told → Bool
value_in told.Yes = true
value_in told.No = false
value_in (told.Refused f) = false

-- yes for up, no for down
abbrev pub told_value : Bool → Told
told_value true = told.Yes
told_value false = told.No

-- the answer of a question with this fault (0 for none) and this value
unfoldable pub told_of : ℕ → Bool → Told
told_of fault value = cond (eqb fault 0) (told_value value) (told.Refused fault)

-- An unbroken run of failing moments: its first, and its last, none where it never ends.
pub record Span : Type 0 where
  pub first : ℕ
  pub last : Option ℕ

-- Verdict. The fault number; the first unbroken run of failing moments, none where the claim holds and when refused.
abbrev pub fault_of_verdict : Verdict → ℕ
fault_of_verdict verdict.Holds = 0
fault_of_verdict (verdict.FailsAt k end) = 0
fault_of_verdict (verdict.FailsAfter k end) = 0
fault_of_verdict (verdict.Refused f) = f

-- the last moment of a run that ends so: until k is the instant k, until before k the gap before it
abbrev pub last_in : End → Option ℕ
last_in (ends.At k) = some (instant k)
last_in (ends.Before k) = some (gap (k - 1))
last_in ends.Never = none

abbrev pub span_in : Verdict → Option Span
span_in verdict.Holds = none
span_in (verdict.FailsAt k end) = some (record { first = instant k; last = last_in end })
span_in (verdict.FailsAfter k end) = some (record { first = gap k; last = last_in end })
span_in (verdict.Refused f) = none

-- the end of a run with this last moment, or none
unfoldable pub end_of : Option ℕ → End
end_of none = ends.Never
end_of (some t) = cond (is_gap t) (ends.Before (tick t + 1)) (ends.At (tick t))

-- the verdict of a claim whose failing moments first run so
unfoldable pub fails_in : Span → Verdict
fails_in s =
    cond (is_gap s.first) (verdict.FailsAfter (tick s.first) (end_of s.last)) (verdict.FailsAt (tick s.first) (end_of s.last))

-- the verdict where the failing moments first run so, or none fails
abbrev pub judged_by : Option Span → Verdict
judged_by none = verdict.Holds
judged_by (some s) = fails_in s

-- the answer of a claim with this fault (0 for none) where the failing moments first run so, or none fails
unfoldable pub verdict_for : ℕ → Option Span → Verdict
verdict_for fault span = cond (eqb fault 0) (judged_by span) (verdict.Refused fault)
