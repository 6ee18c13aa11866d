-- Mirrored: What tidying's first pass counts.
use Rattle.std.specs.Prelude.{ℕ, ◌+◌, cond, List, [], ◌∷◌, ◌≡◌, leb, length, get_or, drop}
use Rattle.signals.specs.Words.{date_of, value_after, changes_nothing}
use Rattle.tidying.specs.Kept.{kept}

-- 0 for a word that changes nothing of the value after the word before it, else 1
unfoldable pub change : ℕ → ℕ → ℕ
change before w = cond (changes_nothing (value_after before) w) 0 1

-- 1 for a word that is not dated above the word before it, else 0; a first word, 0 or 1, reads as one of date 0
unfoldable pub not_above : ℕ → ℕ → ℕ
not_above before w = cond (leb (date_of w) (date_of before)) 1 0

-- how many of the words are not dated above the word before
unfoldable pub all_not_above : ℕ → List ℕ → ℕ
all_not_above before [] = 0
all_not_above before (w ∷ ws) = not_above before w + all_not_above w ws

-- how many words are kept of a list, and how many are not dated above the word before
abbrev pub Counted : List ℕ → ℕ → ℕ → Type 0
Counted l words wrong = (words ≡ length (kept l)) × (wrong ≡ all_not_above (get_or l 0 0) (drop 1 l))
