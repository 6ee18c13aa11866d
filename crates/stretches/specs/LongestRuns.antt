-- Statement: Document 02, request 2: "each up stretch (a longest run of up gaps) before H, cut at H", "in order of time". The stretches
-- are exactly the longest runs, and no other list has just these.
use Rattle.std.specs.Prelude.{ℕ, ◌+◌, ◌≤◌, ◌<◌, ◌≡◌, List, [], ◌∷◌, ◌⊎◌, ◌↔◌}
use Rattle.signals.specs.Moment.{gap}
use Rattle.signals.specs.Signal.{Signal}
use Rattle.signals.specs.Quantified.{Up}
use Rattle.stretches.specs.Stretches.{Stretch, stretches_before}

-- a run of up gaps: some gap, every gap between two of its gaps, and no gap that is down
pub record Run (f : Signal) (Q : ℕ → Type 0) : Type 0 where
  pub some : (k : ℕ) × Q k
  pub unbroken : (i j k : ℕ) → i ≤ j → j ≤ k → Q i → Q k → Q j
  pub up : (k : ℕ) → Q k → Up (f (gap k))

-- a longest one: a run of up gaps that has all of its gaps has no others
pub record Longest (f : Signal) (Q : ℕ → Type 0) : Type 1 where
  pub run : Run f Q
  pub whole : (R : ℕ → Type 0) → Run f R → ((k : ℕ) → Q k → R k) → (k : ℕ) → R k → Q k

-- cut at H: the gaps of the stretch, one at least, are those of the run before H
pub record Cut (H : ℕ) (Q : ℕ → Type 0) (s : Stretch) : Type 0 where
  pub some : 1 ≤ s.ticks
  pub gaps : (k : ℕ) → (Q k × (k < H)) ↔ ((s.first ≤ k) × (k < s.first + s.ticks))

-- a stretch is one of these
abbrev pub IsAmong : List Stretch → Stretch → Type 0
IsAmong [] s = ⊥
IsAmong (r ∷ rs) s = (s ≡ r) ⊎ IsAmong rs s

-- in order of time, none touching the next: a gap of neither lies between two
abbrev pub InOrder : List Stretch → Type 0
InOrder [] = Unit
InOrder (s ∷ []) = Unit
InOrder (s ∷ r ∷ rs) = (s.first + s.ticks < r.first) × InOrder (r ∷ rs)

-- these are the stretches of f before H
pub record StretchesOf (f : Signal) (H : ℕ) (given : List Stretch) : Type 1 where
  -- each is a longest run, cut at H
  pub each : (s : Stretch) → IsAmong given s → (Q : ℕ → Type 0) × Longest f Q × Cut H Q s
  -- each longest run that has a gap before H is one of them, cut at H
  pub every : (Q : ℕ → Type 0) → Longest f Q → (k : ℕ) → Q k → k < H → (s : Stretch) × IsAmong given s × Cut H Q s
  pub ordered : InOrder given

pub record LongestRuns : Type 1 where
  pub exact : (f : Signal) (H : ℕ) → StretchesOf f H (stretches_before f H)
  pub only : (f : Signal) (H : ℕ) (given : List Stretch) → StretchesOf f H given → given ≡ stretches_before f H
