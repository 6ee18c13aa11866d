-- Believed: Reading a formula as a call: its answer, and the code words after it.
use Rattle.std.specs.Prelude.{cond, eqb, length, ◌≡◌, List, ℕ}
use Rattle.signals.specs.Answers.{written_of}
use Rattle.signals.specs.declared.Written.{Written}
use Rattle.grammar.specs.Formula.{formula_fault, stop_place, code_of, code_after}
use Rattle.grammar.specs.declared.Stop.{Stop}

abbrev pub CallOfRead : List ℕ → List ℕ → Written → List ℕ → Type 0
CallOfRead text code answer after = (answer ≡ written_of (formula_fault text) (code_of text)) × (after ≡ code_after text code)

-- the fault, where reading stops, and how many parts there are, 0 where there is a fault
abbrev pub CallOfJudge : List ℕ → List ℕ → Stop → List ℕ → Type 0
CallOfJudge text code answer after =
    (answer.fault ≡ formula_fault text)
    × (answer.place ≡ stop_place text)
    × (answer.parts ≡ cond (eqb (formula_fault text) 0) (length (code_of text)) 0)
    × (after ≡ code_after text code)
