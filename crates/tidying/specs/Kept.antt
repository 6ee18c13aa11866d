-- Statement: Tidying word by word: it keeps a list's first word and the later words that change something, in their order, and no other.
use Rattle.std.specs.Prelude.{ℕ, Bool, cond, List, [], ◌∷◌, ◌≡◌}
use Rattle.signals.specs.Words.{head_value, value_after, changes_nothing, tidy_fault, tidied}

-- the words that change something, `before` being the value before them
unfoldable pub changing : Bool → List ℕ → List ℕ
changing before [] = []
changing before (w ∷ ws) = cond (changes_nothing before w) (changing (value_after w) ws) (w ∷ changing (value_after w) ws)

-- the words that tidying keeps
unfoldable pub kept : List ℕ → List ℕ
kept [] = []
kept (h ∷ ws) = h ∷ changing (head_value h) ws

abbrev pub KeptExact : Type 0
KeptExact = (l : List ℕ) → tidy_fault l ≡ 0 → tidied l ≡ kept l
