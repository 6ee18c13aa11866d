-- Statement: TP from instant to instant, by one number: the ticks that a pulse has still to run.
use Rattle.std.specs.Prelude.{ℕ, zero, suc, ◌-◌, ◌≡◌, cond, ◌&&◌, leb, ltb}
use Rattle.signals.specs.Moment.{gap, instant}
use Rattle.signals.specs.Signal.{Signal, rising, TP}

-- the ticks left from instant k on, none in gap 0: a rising instant at which the last tick is over starts a pulse of d ticks
unfoldable pub ticks_left : ℕ → Signal → ℕ → ℕ
ticks_left d f zero = 0
ticks_left d f (suc k) = cond (rising f (instant (suc k)) && leb (ticks_left d f k) 1) d (ticks_left d f k - 1)

pub record PulseSteps : Type 0 where
  pub at_instant : (d : ℕ) (f : Signal) (k : ℕ) → TP d f (instant (suc k)) ≡ ltb 0 (ticks_left d f (suc k))
  pub in_gap : (d : ℕ) (f : Signal) (k : ℕ) → TP d f (gap k) ≡ ltb 0 (ticks_left d f k)
