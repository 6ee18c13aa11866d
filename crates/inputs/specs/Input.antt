-- Believed: Document 01: "The program reads standard input: formula F to the first line feed, G to the second, then the sheet (of the
-- first 65,536 bytes; those past them are dropped). [..] Without a line feed, what follows is empty." Document 02 has other lines "cut as
-- in 01".
use Rattle.std.specs.Prelude.{ℕ, ◌≡◌, List, length, take}
use Rattle.texts.specs.LineFeeds.{to_line_feed, past_line_feed}

-- the most bytes of the input that count, and those that do
abbrev pub limit : ℕ
limit = 65536

unfoldable pub counted : List ℕ → List ℕ
counted input = take limit input

-- the two lines and the sheet
unfoldable pub first_line : List ℕ → List ℕ
first_line input = to_line_feed (counted input)

unfoldable pub second_line : List ℕ → List ℕ
second_line input = to_line_feed (past_line_feed (counted input))

unfoldable pub sheet_in : List ℕ → List ℕ
sheet_in input = past_line_feed (past_line_feed (counted input))

-- a part, one of these three, of the first n bytes of an input that has as many bytes as count
abbrev pub PartOfInput : (List ℕ → List ℕ) → List ℕ → ℕ → List ℕ → Type 0
PartOfInput part input n bytes = (length input ≡ limit) × (bytes ≡ part (take n input))
