-- Statement: An engine: a formula call and a claim of two formulas, as functions of plain values.
use Rattle.std.specs.Prelude.{ℕ, List}
use Rattle.signals.specs.declared.Written.{Written}
use Rattle.signals.specs.declared.Verdict.{Verdict}
use Rattle.calls.specs.Calls.{call_answer, call_output, claim_answer}

pub record Engine : Type 0 where
  -- sheet bytes, formula bytes, number of work words (the contracts say that nothing else of the work area counts), output words: the
  -- answer, and the output words after the call
  pub answer : List ℕ → List ℕ → ℕ → List ℕ → Written
  pub output : List ℕ → List ℕ → ℕ → List ℕ → List ℕ
  -- sheet bytes, F, G, number of work words: the answer
  pub claim : List ℕ → List ℕ → List ℕ → ℕ → Verdict

-- the defined calls
abbrev pub defined : Engine
defined = record { answer = call_answer; output = call_output; claim = claim_answer }
