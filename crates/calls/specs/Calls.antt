-- Believed: The formula call and the claim of two formulas: their faults in document 01's order, the words, the output at exit and the
-- verdict.
use Rattle.std.specs.Prelude.{ℕ, max, cond, List, [], ◌∷◌, ltb, length}
use Rattle.std.proofs.Math.Option.{Option}
use Rattle.signals.specs.Answers.{written_of, output_of, Span, judged_by, verdict_for}
use Rattle.signals.specs.Implication.{first_span}
use Rattle.signals.specs.declared.Written.{Written}
use Rattle.signals.specs.declared.Verdict.{Verdict}
use Rattle.grammar.specs.Tree.{Tree}
use Rattle.grammar.specs.Formula.{formula_fault, formula_tree}
use Rattle.grammar.specs.Parts.{parts}
use Rattle.format.specs.Reading.{sheet_fault}
use Rattle.operations.specs.Calls.{part_fault, room_fault}
use Rattle.calls.specs.OnSheet.{signal_on, settling_date, exact_on, names_found}
use Rattle.signals.specs.Answers.{first_of}

-- the work words that a call needs, on any sheet
abbrev pub work_words : ℕ
work_words = 8192

unfoldable pub needed_work : List ℕ → ℕ
needed_work sheet = work_words

-- 10, 11, 8, 12 of the formula alone, then 13: a name that the sheet does not have
unfoldable pub reading_fault : List ℕ → List ℕ → ℕ
reading_fault sheet formula = first_of (formula_fault formula) (cond (names_found sheet (formula_tree formula)) 0 13)

-- 18: work area under the needed words
unfoldable pub work_fault : List ℕ → ℕ → ℕ
work_fault sheet work = cond (ltb work (needed_work sheet)) 18 0

-- 5 or 6 at the first part worked out that meets one
unfoldable pub parts_fault : List ℕ → List Tree → ℕ
parts_fault sheet [] = 0
parts_fault sheet (t ∷ ts) = first_of (part_fault (exact_on sheet t)) (parts_fault sheet ts)

unfoldable pub working_fault : List ℕ → List ℕ → ℕ
working_fault sheet formula = parts_fault sheet (parts (formula_tree formula))

-- the formula's words: the normal list of its signal
unfoldable pub words_on : List ℕ → List ℕ → List ℕ
words_on sheet formula = exact_on sheet (formula_tree formula)

-- A formula call takes sheet, formula 10, 11, 8, 12, 13, 18, then 5 or 6 at the first part worked out that meets one, then 7.
unfoldable pub call_fault : List ℕ → List ℕ → ℕ → ℕ → ℕ
call_fault sheet formula work room =
    first_of (sheet_fault sheet)
    (first_of (reading_fault sheet formula)
    (first_of (work_fault sheet work) (first_of (working_fault sheet formula) (room_fault (words_on sheet formula) room))))

-- its answer, and the output at exit
unfoldable pub call_answer : List ℕ → List ℕ → ℕ → List ℕ → Written
call_answer sheet formula work old = written_of (call_fault sheet formula work (length old)) (words_on sheet formula)

unfoldable pub call_output : List ℕ → List ℕ → ℕ → List ℕ → List ℕ
call_output sheet formula work old = output_of (call_fault sheet formula work (length old)) (words_on sheet formula) old

-- For claims F, then G; 18; F's parts before G's; a claim has no output and no 7.
unfoldable pub claim_fault : List ℕ → List ℕ → List ℕ → ℕ → ℕ
claim_fault sheet F G work =
    first_of (sheet_fault sheet)
    (first_of (reading_fault sheet F)
    (first_of (reading_fault sheet G)
    (first_of (work_fault sheet work) (first_of (working_fault sheet F) (working_fault sheet G)))))

-- the first unbroken run of the moments at which the implication of the two signals fails, and its verdict
unfoldable pub claim_fails : List ℕ → Tree → Tree → Option Span
claim_fails sheet f g = first_span (signal_on sheet f) (signal_on sheet g) (max (settling_date sheet f) (settling_date sheet g))

abbrev pub claim_verdict : List ℕ → Tree → Tree → Verdict
claim_verdict sheet f g = judged_by (claim_fails sheet f g)

unfoldable pub claim_answer : List ℕ → List ℕ → List ℕ → ℕ → Verdict
claim_answer sheet F G work = verdict_for (claim_fault sheet F G work) (claim_fails sheet (formula_tree F) (formula_tree G))
