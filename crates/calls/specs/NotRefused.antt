-- Statement: When the defined calls are not refused: document 01, "such a call is not refused" and "can meet no fault but 18".
use Rattle.std.specs.Prelude.{ℕ, ◌≤◌, ◌<◌, ◌≡◌, ◌↔◌, List, length}
use Rattle.signals.specs.Answers.{fault_in}
use Rattle.signals.specs.Implication.{fault_of_verdict}
use Rattle.signals.specs.declared.Written.TheVariants.{Count}
use Rattle.signals.specs.declared.Verdict.TheVariants.{Refused}
use Rattle.format.specs.Reading.{sheet_fault}
use Rattle.calls.specs.Calls.{needed_work, reading_fault, working_fault, words_on, call_answer, claim_answer, claim_verdict}
use Rattle.calls.specs.Answered.{Answered, Enough}
use Rattle.grammar.specs.Formula.{formula_tree}

pub record NotRefused : Type 0 where
  -- the needed work words are 8,192 on every sheet
  pub needed : (sheet : List ℕ) → needed_work sheet ≡ 8192
  -- an answered formula's call with the needed work words and an output at least as long as its answer is not refused
  pub enough : (sheet formula : List ℕ) → Answered sheet formula → (work : ℕ) (old : List ℕ) → Enough sheet formula work old
      → call_answer sheet formula work old ≡ Count (length (words_on sheet formula))
  -- a call without a fault means answered, and that there was enough
  pub means : (sheet formula : List ℕ) (work : ℕ) (old : List ℕ) → fault_in (call_answer sheet formula work old) ≡ 0 → Answered sheet
      formula
  pub means_enough : (sheet formula : List ℕ) (work : ℕ) (old : List ℕ) → fault_in (call_answer sheet formula work old) ≡ 0
      → Enough sheet formula work old
  -- a claim of two formulas answered on the sheet gives a verdict whenever the work words suffice, else 18 and nothing else
  pub claims : (sheet F G : List ℕ) → Answered sheet F → Answered sheet G → (work : ℕ) → needed_work sheet ≤ work
      → claim_answer sheet F G work ≡ claim_verdict sheet (formula_tree F) (formula_tree G)
  pub verdicts : (sheet F G : List ℕ) → Answered sheet F → Answered sheet G → (work : ℕ) → needed_work sheet ≤ work
      → fault_of_verdict (claim_answer sheet F G work) ≡ 0
  pub only18 : (sheet F G : List ℕ) → Answered sheet F → Answered sheet G → (work : ℕ) → work < needed_work sheet
      → claim_answer sheet F G work ≡ Refused 18
  -- answered, from the bytes of sheet and formula: the sheet, the formula on it and its parts have no fault
  pub exactly : (sheet formula : List ℕ)
      → Answered sheet formula ↔ ((sheet_fault sheet ≡ 0) × (reading_fault sheet formula ≡ 0) × (working_fault sheet formula ≡ 0))
