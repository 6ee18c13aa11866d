-- Statement: A signal that no longer changes, and the words that one date gives.
use Rattle.std.specs.Prelude.{ℕ, ◌≤◌, Bool, cond, ◌&&◌, List, [], ◌∷◌, ◌≡◌}
use Rattle.std.specs.Bool.{beq}
use Rattle.signals.specs.Moment.{gap}
use Rattle.signals.specs.Signal.{Signal}
use Rattle.signals.specs.Words.{word}

-- s keeps from gap n on the value that it has in gap n
abbrev pub SettledFrom : Signal → ℕ → Type 0
SettledFrom s n = (t : ℕ) → gap n ≤ t → s t ≡ s (gap n)

-- two signals are up at the same moments
abbrev pub Same : Signal → Signal → Type 0
Same f g = (t : ℕ) → f t ≡ g t

-- the words that date d gives after the value `before`: none when both values equal it
unfoldable pub entry : Bool → ℕ → Bool → Bool → List ℕ
entry before d at after = cond (beq at before && beq after before) [] (word d at after ∷ [])
