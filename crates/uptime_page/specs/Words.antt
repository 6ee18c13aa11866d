-- Mirrored: The page as the code writes it, from the words of the stretches, two by two, and H as it reads it. Tied to what is believed by
-- `PageOfInput`, the contract of `page_of`.
use Rattle.std.specs.Prelude.{ℕ, ◌+◌, cond, List, [], ◌∷◌, ◌++◌, eqb}
use Rattle.signals.specs.Moment.{M}
use Rattle.signals.specs.Answers.{first_of}
use Rattle.signals.specs.declared.Verdict.TheVariants.{Refused}
use Rattle.format.specs.Calls.{lookup_fault}
use Rattle.stretches.specs.Calls.{stretches_on, horizon_fault}
use Rattle.texts.specs.Decimal.{decimal}
use Rattle.texts.specs.Lengths.{is_length, value, capped}
use Rattle.verdict_line.specs.Line.{line_of}
use Rattle.uptime_page.specs.Page.{pair_line, total_line, page_text}

-- the lines of words, two a line
unfoldable pub word_lines : List ℕ → List ℕ
word_lines [] = []
word_lines (first ∷ []) = []
word_lines (first ∷ ticks ∷ ws) = pair_line first ticks ++ word_lines ws

-- the parts of these lines, as the code pushes them one after the other to the end of a page
abbrev pub word_parts : List ℕ → List (List ℕ)
word_parts [] = []
word_parts (first ∷ []) = []
word_parts (first ∷ ticks ∷ ws) = decimal first ∷ (32 ∷ []) ∷ decimal ticks ∷ (10 ∷ []) ∷ word_parts ws

unfoldable pub words_page : List ℕ → ℕ → List ℕ
words_page words total = word_lines words ++ total_line total

-- H, and M + 1 for what is no length or above M
unfoldable pub horizon_in : List ℕ → ℕ
horizon_in text = cond (is_length text) (capped (value text)) (M + 1)

-- the page of a name on a sheet, with this number for H
unfoldable pub fault_on : List ℕ → List ℕ → ℕ → ℕ
fault_on sheet name H = first_of (lookup_fault sheet name) (horizon_fault H)

unfoldable pub page_on : List ℕ → List ℕ → ℕ → List ℕ
page_on sheet name H =
    cond (eqb (fault_on sheet name H) 0) (page_text (stretches_on sheet name H)) (line_of (Refused (fault_on sheet name H)))
