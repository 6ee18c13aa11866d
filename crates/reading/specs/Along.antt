-- Mirrored: Going along a list's words up to a date, and what is found there. Tied to what is believed by `ReaderSays`.
use Rattle.std.specs.Prelude.{ℕ, suc, ◌+◌, ◌≡◌, cond, List, [], ◌∷◌, ltb, drop}
use Rattle.signals.specs.Moment.{gap, instant}
use Rattle.signals.specs.Words.{date_of, signal_of}
use Rattle.reading.specs.Dated.{dated_by}
use Rattle.reading.specs.declared.Step.{Step}

-- how many of these words come before the first that is not dated before k
unfoldable pub front_before : ℕ → List ℕ → ℕ
front_before k [] = 0
front_before k (w ∷ ws) = cond (ltb (date_of w) k) (suc (front_before k ws)) 0

-- how many words are passed after going along to date k, where p were before
unfoldable pub along_to : List ℕ → ℕ → ℕ → ℕ
along_to l p k = p + front_before k (drop p l)

-- past date k: the words of l dated at or before it, counted, and its signal's values at instant k and in gap k
abbrev pub Sought : List ℕ → ℕ → Step → Type 0
Sought l k step = (step.passed ≡ dated_by k l) × (step.at ≡ signal_of l (instant k)) × (step.after ≡ signal_of l (gap k))
