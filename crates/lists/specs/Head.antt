-- Mirrored: Checks 1 and 2 of a list, which the list check and tidying share.
use Rattle.std.specs.Prelude.{ℕ, cond, List, [], ◌∷◌, ltb, length}
use Rattle.signals.specs.Words.{most_words}

-- the fault that a list's length and first word give, 0 for none
unfoldable pub head_fault : List ℕ → ℕ
head_fault [] = 1
head_fault (h ∷ ws) = cond (ltb most_words (length (h ∷ ws))) 1 (cond (ltb 1 h) 2 0)
