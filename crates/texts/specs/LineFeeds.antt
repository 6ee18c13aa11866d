-- Believed: The first line of a text, and what follows it.
use Rattle.std.specs.Prelude.{ℕ, List}
use Rattle.slices.specs.Slices.{before, past}

-- the bytes before the first line feed, which is 10; all of them when there is none
abbrev pub to_line_feed : List ℕ → List ℕ
to_line_feed text = before 10 text

-- those after it; none when there is none
abbrev pub past_line_feed : List ℕ → List ℕ
past_line_feed text = past 10 text
