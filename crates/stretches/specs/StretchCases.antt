-- Statement: Document 02, request 2: its own case and those at the edges, each with its stretches.
use Rattle.std.specs.Prelude.{ℕ, ◌-◌, ◌<◌, ◌≡◌, [], ◌∷◌}
use Rattle.signals.specs.Moment.{M}
use Rattle.signals.specs.Signal.{NOT}
use Rattle.signals.specs.Starred.{f, e, l, one}
use Rattle.stretches.specs.Stretches.{Stretch, stretches_before, sum_of_ticks, stretch_words}

-- the stretch that begins with gap `first` and has so many ticks
abbrev pub stretch : ℕ → ℕ → Stretch
stretch first ticks = record { first = first; ticks = ticks }

-- f is up from 5, down from 9; e is up at 5 only; l is up after 5; one is up at every moment
pub record StretchCases : Type 0 where
  -- "01's f with H 8 prints 5 3, then total 3"
  pub f8 : stretches_before f 8 ≡ stretch 5 3 ∷ []
  pub f8words : stretch_words (stretches_before f 8) ≡ 5 ∷ 3 ∷ []
  pub f8total : sum_of_ticks (stretches_before f 8) ≡ 3
  -- H where the stretch begins, one later, where it ends, later, M
  pub f5 : stretches_before f 5 ≡ []
  pub f6 : stretches_before f 6 ≡ stretch 5 1 ∷ []
  pub f9 : stretches_before f 9 ≡ stretch 5 4 ∷ []
  pub f10 : stretches_before f 10 ≡ stretch 5 4 ∷ []
  pub f_m : stretches_before f M ≡ stretch 5 4 ∷ []
  -- a lone instant up; one down, in a signal that is up from the start for good
  pub lone_up : (H : ℕ) → stretches_before e H ≡ []
  pub lone_down : (H : ℕ) → 0 < H → stretches_before (NOT e) H ≡ stretch 0 H ∷ []
  -- up for good: from the start, from a gap on
  pub up_always : (H : ℕ) → 0 < H → stretches_before one H ≡ stretch 0 H ∷ []
  pub up_after : (H : ℕ) → 5 < H → stretches_before l H ≡ stretch 5 (H - 5) ∷ []
  -- up from the start, down from 5, up from 9
  pub turned : stretches_before (NOT f) 12 ≡ stretch 0 5 ∷ stretch 9 3 ∷ []
