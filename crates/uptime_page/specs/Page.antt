-- Believed: Document 02, request 2: each stretch "as a line with its first gap, a space and its length in ticks, and then a line `total`
-- with a space and the total", as bytes.
use Rattle.std.specs.Prelude.{ℕ, List, [], ◌∷◌, ◌++◌}
use Rattle.texts.specs.Decimal.{decimal}
use Rattle.stretches.specs.Stretches.{Stretch, sum_of_ticks}
use Rattle.verdict_line.specs.Line.{line}

-- "total "
unfoldable pub total_text : List ℕ
total_text = 116 ∷ 111 ∷ 116 ∷ 97 ∷ 108 ∷ 32 ∷ []

-- the line of two numbers, a space between them, which is 32
unfoldable pub pair_line : ℕ → ℕ → List ℕ
pair_line first ticks = line (decimal first ++ (32 ∷ [])) (decimal ticks)

unfoldable pub stretch_lines : List Stretch → List ℕ
stretch_lines [] = []
stretch_lines (s ∷ ss) = pair_line s.first s.ticks ++ stretch_lines ss

unfoldable pub total_line : ℕ → List ℕ
total_line total = line total_text (decimal total)

-- the page of stretches: their lines and that of the sum of their lengths
unfoldable pub page_text : List Stretch → List ℕ
page_text stretches = stretch_lines stretches ++ total_line (sum_of_ticks stretches)
