-- Believed: Document 01, implication f to g: holds, fails at k, or fails after k (gap k), always the earliest failing moment. Document 02,
-- request 4: "A failing verdict also gives the last moment of the first unbroken run of failing moments, or says that it never ends."
use Rattle.std.specs.Prelude.{ℕ, zero, suc, ◌+◌, ◌-◌, cond, leb}
use Rattle.std.proofs.Math.Option.{Option, none, some}
use Rattle.signals.specs.Moment.{gap}
use Rattle.signals.specs.Signal.{Signal, NOT, refuted}
use Rattle.signals.specs.Answers.{Span, judged_by}
use Rattle.signals.specs.declared.Verdict.{Verdict}
unfoldable pub use Rattle.signals.specs.Answers.{fails_in, fault_of_verdict}

-- the earliest of the n moments from t on that has p, or the moment after them
unfoldable pub earliest : Signal → ℕ → ℕ → ℕ
earliest p t zero = t
earliest p t (suc n) = cond (p t) t (earliest p (suc t) n)

-- the earliest moment from t on that has p, if one up to gap n has it
unfoldable pub earliest_up_to : Signal → ℕ → ℕ → Option ℕ
earliest_up_to p t n = cond (leb (earliest p t (gap n + 1)) (gap n)) (some (earliest p t (gap n + 1))) none

-- the moment before
abbrev pub moment_before : Option ℕ → Option ℕ
moment_before none = none
moment_before (some t) = some (t - 1)

-- the run that begins at this moment, if one fails: it lasts to the moment before the earliest that does not fail
abbrev pub span_from : Signal → ℕ → Option ℕ → Option Span
span_from failing n none = none
span_from failing n (some t) = some (record { first = t; last = moment_before (earliest_up_to (NOT failing) t n) })

-- the first unbroken run of the moments at which f to g fails, two signals that are constant from gap n on
unfoldable pub first_span : Signal → Signal → ℕ → Option Span
first_span f g n = span_from (refuted f g) n (earliest_up_to (refuted f g) 0 n)

-- the verdict of f to g
abbrev pub verdict_of : Signal → Signal → ℕ → Verdict
verdict_of f g n = judged_by (first_span f g n)
