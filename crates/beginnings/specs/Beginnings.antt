-- Statement: Reading stops after the longest beginning of a text that some formula of the grammar begins with.
use Rattle.std.specs.Prelude.{ℕ, ◌≤◌, List, ◌++◌, length, take}
use Rattle.grammar.specs.Tree.{Tree}
use Rattle.grammar.specs.Grammar.{Sum}
use Rattle.grammar.specs.Formula.{stop_of}

-- some formula begins with these bytes
abbrev pub Begins : List ℕ → Type 0
Begins w = (v : List ℕ) × (t : Tree) × (d : ℕ) × Sum (w ++ v) t d

-- the length of the longest beginning of a text that some formula begins with
pub record LongestBeginning (text : List ℕ) (n : ℕ) : Type 0 where
  pub within : n ≤ length text
  pub begins : Begins (take n text)
  pub longest : (k : ℕ) → k ≤ length text → Begins (take k text) → k ≤ n

-- Reading stops there, whatever the text and however long. (A call does not read a text of over 1,024 bytes.)
abbrev pub StopsExact : Type 0
StopsExact = (w : List ℕ) → LongestBeginning w (stop_of w)
