-- Statement: SR and RS from moment to moment, by one bit carried through the gaps; and the statement that they are those of document 01.
use Rattle.std.specs.Prelude.{ℕ, zero, suc, ◌≡◌, Bool, true, false, not, ◌&&◌, ◌||◌}
use Rattle.signals.specs.Moment.{gap, instant}
use Rattle.signals.specs.Signal.{Signal, SR, RS}

-- SR, in which set wins, and RS, in which reset wins
abbrev pub latch : Bool → Signal → Signal → Signal
latch true s r t = SR s r t
latch false s r t = RS s r t

-- at an instant, from the bit carried in the gap before
abbrev pub at_step : Bool → Bool → Bool → Bool → Bool
at_step true s r q = s || (q && not r)
at_step false s r q = not r && (s || q)

-- the bit carried in a gap, from the latch at the instant before; alike for both
abbrev pub gap_step : Bool → Bool → Bool → Bool
gap_step s r at = not r && (s || at)

-- what a gap shows of the bit carried in it
abbrev pub shown : Bool → Bool → Bool → Bool
shown true s q = s || q
shown false s q = q

-- the bit carried in gap k
unfoldable pub carried : Bool → Signal → Signal → ℕ → Bool
carried setWins s r zero = gap_step (s (gap 0)) (r (gap 0)) false
carried setWins s r (suc k) =
    gap_step
    (s (gap (suc k)))
    (r (gap (suc k)))
    (at_step setWins (s (instant (suc k))) (r (instant (suc k))) (carried setWins s r k))

pub record LatchSteps : Type 0 where
  pub at_instant : (setWins : Bool) (s r : Signal) (k : ℕ) →
      latch setWins s r (instant (suc k)) ≡
      at_step setWins (s (instant (suc k))) (r (instant (suc k))) (carried setWins s r k)
  pub in_gap : (setWins : Bool) (s r : Signal) (k : ℕ) →
      latch setWins s r (gap k) ≡ shown setWins (s (gap k)) (carried setWins s r k)
  -- the same without the bit: what gap 0 and what a gap after an instant shows
  pub first_sr : (s r : Signal) → SR s r (gap 0) ≡ s (gap 0)
  pub after_sr : (s r : Signal) (k : ℕ) →
      SR s r (gap (suc k)) ≡ (s (gap (suc k)) || (SR s r (instant (suc k)) && not (r (gap (suc k)))))
  pub first_rs : (s r : Signal) → RS s r (gap 0) ≡ (s (gap 0) && not (r (gap 0)))
  pub after_rs : (s r : Signal) (k : ℕ) →
      RS s r (gap (suc k)) ≡ (not (r (gap (suc k))) && (s (gap (suc k)) || RS s r (instant (suc k))))
