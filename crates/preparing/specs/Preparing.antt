-- Mirrored: Reading a formula for a sheet as a call: 10, 11, 8, 12 of the formula, then 13 where a name has no list.
use Rattle.std.specs.Prelude.{ℕ, ◌≡◌, cond, List, ◌++◌, eqb, length, drop}
use Rattle.signals.specs.Answers.{first_of, written_of}
use Rattle.signals.specs.declared.Written.{Written}
use Rattle.grammar.specs.Formula.{formula_fault, code_of}
use Rattle.format.specs.Reading.{sheet_fault}
use Rattle.machine.specs.Machine.{placed_codes, all_found}

-- on a sheet that is refused a name is sought among the whole signals at its front; one whose signal has no words, or 512, counts as
-- missing too
unfoldable pub preparing_fault : List ℕ → List ℕ → ℕ
preparing_fault sheet text = first_of (formula_fault text) (cond (all_found (placed_codes sheet text)) 0 13)

-- the code words after it: those of a formula without 10, 11, 8, 12, with the places of its names
unfoldable pub placed_after : List ℕ → List ℕ → List ℕ → List ℕ
placed_after sheet text codes = cond (eqb (formula_fault text) 0) (placed_codes sheet text ++ drop (length (code_of text)) codes) codes

abbrev pub PreparesFor : List ℕ → List ℕ → List ℕ → Written → List ℕ → Type 0
PreparesFor sheet text codes answer after =
    (answer ≡ written_of (preparing_fault sheet text) (code_of text)) × (after ≡ placed_after sheet text codes)

-- the same after the sheet's faults
unfoldable pub judged_fault : List ℕ → List ℕ → ℕ
judged_fault sheet text = first_of (sheet_fault sheet) (preparing_fault sheet text)

unfoldable pub judged_code : List ℕ → List ℕ → List ℕ → List ℕ
judged_code sheet text codes = cond (eqb (sheet_fault sheet) 0) (placed_after sheet text codes) codes

abbrev pub JudgesAndPrepares : List ℕ → List ℕ → List ℕ → Written → List ℕ → Type 0
JudgesAndPrepares sheet text codes answer after =
    (answer ≡ written_of (judged_fault sheet text) (code_of text)) × (after ≡ judged_code sheet text codes)
