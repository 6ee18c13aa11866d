-- Believed: The work of the program `claim` on an input: the claim that the input makes, and the line of its answer.
use Rattle.std.specs.Prelude.{ℕ, ◌≡◌, List, length, take}
use Rattle.signals.specs.declared.Verdict.{Verdict}
use Rattle.calls.specs.Calls.{claim_answer, needed_work}
use Rattle.inputs.specs.Input.{limit, first_line, second_line, sheet_in}
use Rattle.verdict_line.specs.Line.{line_of}
use Rattle.verdict_line.specs.Written.{Lined}

-- the answer of the claim that an input makes, of the formulas on its two lines, with the work words that it needs
unfoldable pub claim_of : List ℕ → Verdict
claim_of input = claim_answer (sheet_in input) (first_line input) (second_line input) (needed_work (sheet_in input))

-- the line that is printed for an input
unfoldable pub printed : List ℕ → List ℕ
printed input = line_of (claim_of input)

-- the whole of a line told of the first n bytes of an input that has as many bytes as count: never refused with 7 or 18, within its bytes
abbrev pub LineOfInput : List ℕ → ℕ → List ℕ → ℕ → Type 0
LineOfInput input n bytes count = (length input ≡ limit) × Lined (printed (take n input)) bytes count
