-- Mirrored: a list with each value turned, as NOT writes it.
use Rattle.std.specs.Prelude.{ℕ, ◌+◌, ◌*◌, ◌-◌, ◌/◌, ◌%◌, List, [], ◌∷◌}

-- both values of a word, and the first word's one
unfoldable pub turned_word : ℕ → ℕ
turned_word w = 4 * (w / 4) + (3 - w % 4)

unfoldable pub turned_words : List ℕ → List ℕ
turned_words [] = []
turned_words (w ∷ ws) = turned_word w ∷ turned_words ws

unfoldable pub turned_list : List ℕ → List ℕ
turned_list [] = []
turned_list (h ∷ ws) = (1 - h) ∷ turned_words ws
