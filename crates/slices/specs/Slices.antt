-- Believed: Bytes before and after a stop byte, and bytes written at a place of an output.
use Rattle.std.specs.Prelude.{ℕ, ◌+◌, cond, List, [], ◌∷◌, ◌++◌, leb, eqb, length, take, drop}

-- the bytes before the first that is `stop`; all of them when none is
unfoldable pub before : ℕ → List ℕ → List ℕ
before stop [] = []
before stop (b ∷ bs) = cond (eqb b stop) [] (b ∷ before stop bs)

-- the bytes after the first that is `stop`; none when none is
unfoldable pub past : ℕ → List ℕ → List ℕ
past stop [] = []
past stop (b ∷ bs) = cond (eqb b stop) bs (past stop bs)

-- the output with these bytes written at a place
abbrev pub placed : List ℕ → ℕ → List ℕ → List ℕ
placed out at bytes = take at out ++ bytes ++ drop (at + length bytes) out

-- the same, where they fit; else the output as it was
unfoldable pub put_at : List ℕ → ℕ → List ℕ → List ℕ
put_at out at bytes = cond (leb (at + length bytes) (length out)) (placed out at bytes) out
