-- Believed: Document 02, request 2: "in order of time, each up stretch (a longest run of up gaps) before H, cut at H, [..] its first gap
-- [..] and its length in ticks", gap by gap, and the total. `LongestRuns` says the same with quantifiers.
use Rattle.std.specs.Prelude.{ℕ, zero, suc, ◌+◌, Bool, not, cond, ◌&&◌, List, [], ◌∷◌}
use Rattle.signals.specs.Moment.{gap}
use Rattle.signals.specs.Signal.{Signal}

-- A stretch: its first gap, and the number of its gaps, which is its length in ticks.
pub record Stretch : Type 0 where
  pub first : ℕ
  pub ticks : ℕ

-- gap k is the first of a stretch: it is up, and the gap before it, where there is one, is down
unfoldable pub begins : Signal → ℕ → Bool
begins f zero = f (gap zero)
begins f (suc k) = f (gap (suc k)) && not (f (gap k))

-- how many of the n gaps from gap k on are up before one is down
unfoldable pub up_for : Signal → ℕ → ℕ → ℕ
up_for f k zero = 0
up_for f k (suc n) = cond (f (gap k)) (suc (up_for f (suc k) n)) 0

-- the stretches that begin in the n gaps from gap k on, cut where these end
unfoldable pub stretches_from : Signal → ℕ → ℕ → List Stretch
stretches_from f k zero = []
stretches_from f k (suc n) =
    cond (begins f k) (record { first = k; ticks = up_for f k (suc n) } ∷ stretches_from f (suc k) n) (stretches_from f (suc k) n)

-- The stretches before H, cut at H.
unfoldable pub stretches_before : Signal → ℕ → List Stretch
stretches_before f H = stretches_from f 0 H

-- The total: the sum of their lengths.
unfoldable pub sum_of_ticks : List Stretch → ℕ
sum_of_ticks [] = 0
sum_of_ticks (s ∷ ss) = s.ticks + sum_of_ticks ss

-- stretches as words: of each its first gap, then its length
unfoldable pub stretch_words : List Stretch → List ℕ
stretch_words [] = []
stretch_words (s ∷ ss) = s.first ∷ s.ticks ∷ stretch_words ss
