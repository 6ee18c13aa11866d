-- Believed: The whole of a formula call and of a claim: the answer, the output at exit, and the work area: untouched by a call that does
-- not pass check 18, free after one that does.
use Rattle.std.specs.Prelude.{ℕ, ◌≡◌, List, length}
use Rattle.signals.specs.Answers.{first_of}
use Rattle.signals.specs.declared.Written.{Written}
use Rattle.signals.specs.declared.Verdict.{Verdict}
use Rattle.format.specs.Reading.{sheet_fault}
use Rattle.calls.specs.Calls.{reading_fault, work_fault, call_answer, call_output, claim_answer}

-- the faults of a formula call up to 18
unfoldable pub first_fault : List ℕ → List ℕ → ℕ → ℕ
first_fault sheet formula work = first_of (sheet_fault sheet) (first_of (reading_fault sheet formula) (work_fault sheet work))

-- those of a claim
unfoldable pub first_claim_fault : List ℕ → List ℕ → List ℕ → ℕ → ℕ
first_claim_fault sheet F G work =
    first_of (sheet_fault sheet) (first_of (reading_fault sheet F) (first_of (reading_fault sheet G) (work_fault sheet work)))

-- refused with this fault the work area is as it was
abbrev pub KeptWhen : ℕ → List ℕ → List ℕ → Type 0
KeptWhen fault work after = (fault ≡ 0 → ⊥) → after ≡ work

-- a formula call: sheet, formula, work area and output at entry; the answer; output and work area at exit
abbrev pub CallOfFormula : List ℕ → List ℕ → List ℕ → List ℕ → Written → List ℕ → List ℕ → Type 0
CallOfFormula sheet formula work out answer outAfter workAfter =
    (answer ≡ call_answer sheet formula (length work) out)
    × (outAfter ≡ call_output sheet formula (length work) out)
    × KeptWhen (first_fault sheet formula (length work)) work workAfter

-- a claim: sheet, formulas and work area at entry; the answer; the work area at exit
abbrev pub CallOfClaim : List ℕ → List ℕ → List ℕ → List ℕ → Verdict → List ℕ → Type 0
CallOfClaim sheet F G work answer workAfter =
    (answer ≡ claim_answer sheet F G (length work)) × KeptWhen (first_claim_fault sheet F G (length work)) work workAfter
