-- Statement: Of each answer, its reading and the answer of a call with a fault number and values are one definition of the cases: an
-- answer is read as what it was given of, each answer that a call can give is given of what it is read as, and no refusal is without a
-- number.
use Rattle.std.specs.Prelude.{ℕ, ◌≤◌, ◌<◌, ◌≡◌, Bool, true, false, List, ltb, length}
use Rattle.std.proofs.Math.Option.{Option, none}
use Rattle.signals.specs.Moment.{M}
use Rattle.signals.specs.Answers.{sum_for, fault_in, count_in, written_of}
use Rattle.signals.specs.Answers.{fault_of_told, value_in, told_of, fault_of_verdict, Span, span_in, verdict_for}
use Rattle.signals.specs.declared.Sum.{Sum}
use Rattle.signals.specs.declared.Sum.TheVariants as sum
use Rattle.signals.specs.declared.Written.{Written}
use Rattle.signals.specs.declared.Written.TheVariants as written
use Rattle.signals.specs.declared.End.{End}
use Rattle.signals.specs.declared.End.TheVariants as ends
use Rattle.signals.specs.declared.Verdict.{Verdict}
use Rattle.signals.specs.declared.Verdict.TheVariants as verdict
use Rattle.signals.specs.declared.Told.{Told}
use Rattle.signals.specs.declared.Told.TheVariants as told

-- What a sum is read as: the fault number; the exact sum, 0 when refused; whether it is past M, so no date.
abbrev pub fault_of_sum : Sum → ℕ
fault_of_sum (sum.On date) = 0
fault_of_sum (sum.PastM total) = 0
fault_of_sum (sum.Refused f) = f

abbrev pub total_in : Sum → ℕ
total_in (sum.On date) = date.0
total_in (sum.PastM total) = total
total_in (sum.Refused f) = 0

abbrev pub past_m : Sum → Bool
past_m (sum.On date) = false
past_m (sum.PastM total) = true
past_m (sum.Refused f) = false

-- The answers that these definitions give: a refusal has a number, a date is up to M and a sum past M above it, an instant is from 1 on.
abbrev pub GivenSum : Sum → Type 0
GivenSum (sum.On date) = date.0 ≤ M
GivenSum (sum.PastM total) = M < total
GivenSum (sum.Refused f) = 1 ≤ f

abbrev pub GivenWritten : Written → Type 0
GivenWritten (written.Count n) = Unit
GivenWritten (written.Refused f) = 1 ≤ f

abbrev pub GivenTold : Told → Type 0
GivenTold told.Yes = Unit
GivenTold told.No = Unit
GivenTold (told.Refused f) = 1 ≤ f

abbrev pub GivenEnd : End → Type 0
GivenEnd (ends.At k) = 1 ≤ k
GivenEnd (ends.Before k) = 1 ≤ k
GivenEnd ends.Never = Unit

abbrev pub GivenVerdict : Verdict → Type 0
GivenVerdict verdict.Holds = Unit
GivenVerdict (verdict.FailsAt k end) = (1 ≤ k) × GivenEnd end
GivenVerdict (verdict.FailsAfter k end) = GivenEnd end
GivenVerdict (verdict.Refused f) = 1 ≤ f

pub record SumSays : Type 0 where
  pub fault : (f total : ℕ) → fault_of_sum (sum_for f total) ≡ f
  pub value : (total : ℕ) → (total_in (sum_for 0 total) ≡ total) × (past_m (sum_for 0 total) ≡ ltb M total)
  pub refused : (f total : ℕ) → 1 ≤ f → (total_in (sum_for f total) ≡ 0) × (past_m (sum_for f total) ≡ false)
  pub given : (f total : ℕ) → GivenSum (sum_for f total)
  pub every : (answer : Sum) → GivenSum answer → sum_for (fault_of_sum answer) (total_in answer) ≡ answer

pub record WrittenSays : Type 0 where
  pub fault : (f : ℕ) (words : List ℕ) → fault_in (written_of f words) ≡ f
  pub value : (words : List ℕ) → count_in (written_of 0 words) ≡ length words
  pub refused : (f : ℕ) (words : List ℕ) → 1 ≤ f → count_in (written_of f words) ≡ 0
  pub given : (f : ℕ) (words : List ℕ) → GivenWritten (written_of f words)
  pub every : (answer : Written) (words : List ℕ) → GivenWritten answer → length words ≡ count_in answer
      → written_of (fault_in answer) words ≡ answer

pub record ToldSays : Type 0 where
  pub fault : (f : ℕ) (v : Bool) → fault_of_told (told_of f v) ≡ f
  pub value : (v : Bool) → value_in (told_of 0 v) ≡ v
  pub refused : (f : ℕ) (v : Bool) → 1 ≤ f → value_in (told_of f v) ≡ false
  pub given : (f : ℕ) (v : Bool) → GivenTold (told_of f v)
  pub every : (answer : Told) → GivenTold answer → told_of (fault_of_told answer) (value_in answer) ≡ answer

pub record VerdictSays : Type 0 where
  pub fault : (f : ℕ) (span : Option Span) → fault_of_verdict (verdict_for f span) ≡ f
  pub value : (span : Option Span) → span_in (verdict_for 0 span) ≡ span
  pub refused : (f : ℕ) (span : Option Span) → 1 ≤ f → span_in (verdict_for f span) ≡ none
  pub given : (f : ℕ) (span : Option Span) → GivenVerdict (verdict_for f span)
  pub every : (answer : Verdict) → GivenVerdict answer → verdict_for (fault_of_verdict answer) (span_in answer) ≡ answer

pub record AnswersSay : Type 0 where
  pub sum : SumSays
  pub written : WrittenSays
  pub told : ToldSays
  pub verdict : VerdictSays
