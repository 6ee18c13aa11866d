-- Believed: A text by value: an array that has room for the longest, with the text's bytes first and zeros past them, and how many they
-- are. The line of a claim's answer so.
use Rattle.std.specs.Prelude.{ℕ, ◌+◌, ◌≤◌, ◌≡◌, cond, List, ◌++◌, leb, length, take, drop, replicate}
use Rattle.signals.specs.declared.Verdict.{Verdict}
use Rattle.verdict_line.specs.Line.{line_of}

-- the bytes of the longest line, "fails after 1073741822 until before 1073741823", with its line feed
abbrev pub longest : ℕ
longest = 47

-- an output that a text was written to: its bytes, those past them being the old ones
unfoldable pub over : List ℕ → List ℕ → List ℕ
over text old = text ++ drop (length text) old

-- a text at the front of an array of `room` bytes, zeros past it, and the number of its bytes
abbrev pub Filled : ℕ → List ℕ → List ℕ → ℕ → Type 0
Filled room text bytes count =
    (count ≡ length text)
    × (bytes ≡ over text (replicate room 0))
    × (count ≤ length bytes)
    × (count ≡ length (take count bytes))

-- a text with bytes added at its end, where there is room for all of them; else as it was
unfoldable pub pushed : ℕ → List ℕ → List ℕ → List ℕ
pushed room text more = cond (leb (length text + length more) room) (text ++ more) text

-- a line in an array as long as the longest
abbrev pub Lined : List ℕ → List ℕ → ℕ → Type 0
Lined line bytes count = Filled longest line bytes count

-- the line of a claim's answer
abbrev pub LineOfVerdict : Verdict → List ℕ → ℕ → Type 0
LineOfVerdict verdict bytes count = Lined (line_of verdict) bytes count
