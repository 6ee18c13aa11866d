-- Believed: Document 02, request 2: the program's input, "the name to the first line feed, H, written as a length is, to the second, then
-- the sheet, cut as in 01", and what it prints. "A refusal prints as in 01."
use Rattle.std.specs.Prelude.{ℕ, ◌≡◌, cond, List, eqb, length, take}
use Rattle.signals.specs.Answers.{first_of}
use Rattle.signals.specs.declared.Verdict.TheVariants.{Refused}
use Rattle.format.specs.Calls.{lookup_fault}
use Rattle.stretches.specs.Calls.{stretches_on, horizon_fault}
use Rattle.texts.specs.Lengths.{is_length, value}
use Rattle.inputs.specs.Input.{limit, first_line, second_line, sheet_in}
use Rattle.verdict_line.specs.Line.{line_of}
use Rattle.verdict_line.specs.Written.{Filled}
use Rattle.uptime_page.specs.Page.{page_text}

-- "19 when H is not so written or is above M"
unfoldable pub horizon_text_fault : List ℕ → ℕ
horizon_text_fault text = cond (is_length text) (horizon_fault (value text)) 19

-- "tested after 13": sheet, 16, 13, 19
unfoldable pub page_fault : List ℕ → ℕ
page_fault input = first_of (lookup_fault (sheet_in input) (first_line input)) (horizon_text_fault (second_line input))

-- what is printed for an input
unfoldable pub printed : List ℕ → List ℕ
printed input =
    cond (eqb (page_fault input) 0)
    (page_text (stretches_on (sheet_in input) (first_line input) (value (second_line input))))
    (line_of (Refused (page_fault input)))

-- the bytes of a page of 128 lines of two numbers of ten digits, and of the total's line with one: no page is longer
abbrev pub most_bytes : ℕ
most_bytes = 2833

-- the page of the first n bytes of an array with as many bytes as count: its bytes in an array of `most_bytes`, zeros past them, and their
-- number
abbrev pub PageOfInput : List ℕ → ℕ → List ℕ → ℕ → Type 0
PageOfInput input n bytes count = (length input ≡ limit) × Filled most_bytes (printed (take n input)) bytes count
