-- Mirrored: The stretches before H as the call finds them, going along a list's words. Tied to what is believed by `WalkExact`.
use Rattle.std.specs.Prelude.{ℕ, ◌-◌, ◌≡◌, Bool, true, false, cond, List, [], ◌∷◌, leb, ltb}
use Rattle.signals.specs.Words.{date_of, head_value, value_after, signal_of}
use Rattle.signals.specs.Normal.{Accepted}
use Rattle.stretches.specs.Stretches.{Stretch, stretches_before}

-- a stretch from gap `from` to before gap `end`
abbrev pub between : ℕ → ℕ → Stretch
between from end = record { first = from; ticks = end - from }

-- at the end: that which reaches to H, where the value held is up and H is not where it began
unfoldable pub last_walked : ℕ → Bool → ℕ → List Stretch
last_walked H up from = cond up (cond (ltb from H) (between from H ∷ []) []) []

-- those of the words that are left, `up` being the value held and `from` the gap since which it is held
unfoldable pub walked : ℕ → Bool → ℕ → List ℕ → List Stretch
walked H up from [] = last_walked H up from
walked H up from (w ∷ ws) =
    cond (leb H (date_of w))
    (last_walked H up from)
    (cond up
    (cond (value_after w) (walked H true from ws) (between from (date_of w) ∷ walked H false (date_of w) ws))
    (walked H (value_after w) (date_of w) ws))

-- All the words after the first, of an accepted list, give the stretches of its signal before H.
abbrev pub WalkExact : Type 0
WalkExact = (h : ℕ) (ws : List ℕ) (H : ℕ) → Accepted (h ∷ ws) → walked H (head_value h) 0 ws ≡ stretches_before (signal_of (h ∷ ws)) H
