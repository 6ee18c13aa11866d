-- Statement: Document 02, request 4, in C: the low half of a packed span is the first failing moment, the high half the last of its run, 2k
-- for the instant k and 2k+1 for the gap k, one more than the moments are numbered here. None is past gap M, so that both have room.
use Rattle.std.specs.Prelude.{ℕ, ◌+◌, ◌*◌, ◌/◌, ◌%◌, ◌≡◌, List}
use Rattle.std.proofs.Math.Option.{none, some}
use Rattle.slices.specs.Bytes.{Words}
use Rattle.signals.specs.Moment.{M}
use Rattle.signals.specs.Answers.{Span}
use Rattle.signals.specs.AnswersSay.{GivenVerdict}
use Rattle.signals.specs.Implication.{fails_in}
use Rattle.signals.specs.Earliest.{Early}
use Rattle.signals.specs.declared.Verdict.{Verdict}
use Rattle.signals.specs.declared.Verdict.TheVariants.{Holds, Refused}
use Rattle.questions.specs.Questions.{implies_of}
use Rattle.calls.specs.Calls.{claim_answer, work_words}
use Rattle.calls.specs.Printed.{printed_sheet, printed_f, printed_g}
use Rattle.packing.specs.Packing.{pack_span}

-- a verdict that a call can give, which names no moment after gap M
pub record Fits (v : Verdict) : Type 0 where
  pub given : GivenVerdict v
  pub early : (s : Span) → v ≡ fails_in s → Early M s

pub record SpansPacked : Type 0 where
  -- those of two lists of words and of a claim are such
  pub lists : (a b : List ℕ) → Words a → Words b → Fits (implies_of a b)
  pub claims : (sheet F G : List ℕ) (work : ℕ) → Fits (claim_answer sheet F G work)
  -- the number tells the verdict, and each moment is told by its half
  pub tells : (v w : Verdict) → Fits v → Fits w → pack_span v ≡ pack_span w → v ≡ w
  pub first : (s : Span) → Early M s → pack_span (fails_in s) % 4294967296 ≡ s.first + 1
  pub last : (s : Span) (t : ℕ) → Early M s → s.last ≡ some t → pack_span (fails_in s) / 4294967296 ≡ t + 1
  pub for_good : (s : Span) → Early M s → s.last ≡ none → pack_span (fails_in s) / 4294967296 ≡ 0
  pub holds : pack_span Holds ≡ 0
  pub refused : (n : ℕ) → pack_span (Refused n) ≡ 4294967296 * n
  -- document 01's printed case: low 10, high 13
  pub printed : pack_span (claim_answer printed_sheet printed_f printed_g work_words) ≡ 4294967296 * 13 + 10
