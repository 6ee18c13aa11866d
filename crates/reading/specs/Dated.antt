-- Believed: Document 02, request 5, "the number of list words dated at or before": a count along the words, the first word counted as date
-- 0.
use Rattle.std.specs.Prelude.{ℕ, suc, cond, List, [], ◌∷◌, leb}
use Rattle.signals.specs.Words.{date_of}

-- how many of these words are dated at or before k, and how many of a list's
unfoldable pub count_by : ℕ → List ℕ → ℕ
count_by k [] = 0
count_by k (w ∷ ws) = cond (leb (date_of w) k) (suc (count_by k ws)) (count_by k ws)

unfoldable pub dated_by : ℕ → List ℕ → ℕ
dated_by k [] = 0
dated_by k (h ∷ ws) = suc (count_by k ws)
