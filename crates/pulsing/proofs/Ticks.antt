-- The ticks that a pulse has left, from one word of its input to the next.
use Prim.Native.Nat.{ℕ, zero, suc, ◌-◌, ◌%◌, ◌≤◌, ◌<◌}
use native.Mathlib.Omega.{arith}
use native.Mathlib.Decide.{ℕ_discrete}
use mathlib.Core.Path.{◌≡◌, refl, ◌∙◌}
use mathlib.Core.Bool.{Bool, true, false, not, cond, ◌&&◌}
use lib.Dec.{leb, ltb}
use borrow.Author.Tests.{ne_eqb, lt-ltb, le-ltb, leb-true, leb-false}
use Rattle.signals.specs.Moment.{gap, instant, is_gap, tick, just_before}
use Rattle.signals.specs.Signal.{Signal, rising, TP}
use Rattle.signals.specs.PulseSteps.{ticks_left}
use Rattle.signals.proofs.Scan.{Held}
use Rattle.signals.proofs.PulseSteps.{shown}

-- an instant rises by its value and that of the gap before it
rise_is : (f : Signal) (j : ℕ) → rising f (instant (suc j)) ≡ (f (instant (suc j)) && not (f (gap j)))
unfolding rising is_gap just_before
rise_is f j =
    let before : instant (suc j) - 1 ≡ gap j = omega arith in
    rw (ne_eqb (instant (suc j) % 2) 0 (omega arith), before)

and_not_lem : (v : Bool) → (v && not v) ≡ false
and_not_lem true = refl
and_not_lem false = refl

-- at most one tick is left before a date exactly when the pulse ends by that date
by_date : (due j : ℕ) → leb (due - j) 1 ≡ leb due (suc j)
by_date due j = go (leb (due - j) 1) (leb due (suc j)) refl refl
  where
    go : (t u : Bool) → leb (due - j) 1 ≡ t → leb due (suc j) ≡ u → t ≡ u
    go true true a b = refl
    go true false a b = absurd (omega (arith, leb-true (due - j) 1 a, leb-false due (suc j) b))
    go false true a b = absurd (omega (arith, leb-false (due - j) 1 a, leb-true due (suc j) b))
    go false false a b = refl

module _ (d : ℕ) (f : Signal) where
  -- the next instant, with the value of its gap before and its own
  next_tick : (due j : ℕ) (v a : Bool) → f (gap j) ≡ v → f (instant (suc j)) ≡ a → ticks_left d f j ≡ due - j
      → ticks_left d f (suc j) ≡ cond ((a && not v) && leb due (suc j)) d (due - suc j)
  unfolding ticks_left
  next_tick due j v a ev ea e =
      let less : due - j - 1 ≡ due - suc j = omega arith in
      rw (rise_is f j, ev, ea, e, by_date due j, less)

  -- while f stands still a tick is less from date to date
  pub falls : (k due n : ℕ) (v : Bool) → ((t : ℕ) → gap k ≤ t → t < instant n → f t ≡ v) → ticks_left d f k ≡ due - k
      → (j : ℕ) → k ≤ j → j < n → ticks_left d f j ≡ due - j
  falls k due n v still e zero l u = let z : k ≡ 0 = omega arith in rw (← z) e
  falls k due n v still e (suc j) l u =
      go (ℕ_discrete k (suc j)) (λ m. falls k due n v still e j m (omega arith))
    where
      go : Dec (k ≡ suc j) → (k ≤ j → ticks_left d f j ≡ due - j) → ticks_left d f (suc j) ≡ due - suc j
      go (yes q) rec = rw (← q) e
      go (no o) rec =
          next_tick due j v v (still (gap j) (omega arith) (omega arith)) (still (instant (suc j)) (omega arith) (omega arith))
          (rec (omega arith))
          ∙ rw (and_not_lem v)

  -- at the date of a word
  pub at_word : (k due n : ℕ) (v a b : Bool) → Held f k n v a b → ticks_left d f k ≡ due - k
      → ticks_left d f n ≡ cond ((a && not v) && leb due n) d (due - n)
  at_word k due zero v a b h e = absurd (omega (arith, h.later))
  at_word k due (suc j) v a b h e =
      next_tick due j v a (h.still (gap j) (omega (arith, h.later)) (omega arith)) h.at
      (falls k due (suc j) v h.still e j (omega (arith, h.later)) (omega arith))

  -- TP by the end of the pulse
  module _ (due : ℕ) (t : ℕ) (e : ticks_left d f (tick t) ≡ due - tick t) where
    pub up_before : tick t < due → TP d f t ≡ true
    up_before l = shown d f t ∙ rw e (lt-ltb 0 (due - tick t) (omega arith))

    pub down_from : due ≤ tick t → TP d f t ≡ false
    down_from l = shown d f t ∙ rw e (le-ltb 0 (due - tick t) (omega arith))

-- at and after a date it shows whether a tick is left from then on
tick_instant : (n : ℕ) → 1 ≤ n → tick (instant n) ≡ n
unfolding tick
tick_instant n l = omega arith

tick_gap : (n : ℕ) → tick (gap n) ≡ n
unfolding tick
tick_gap n = omega arith

module _ (d : ℕ) (f : Signal) (n left : ℕ) (e : ticks_left d f n ≡ left) where
  pub shown_at_lem : 1 ≤ n → TP d f (instant n) ≡ ltb 0 left
  shown_at_lem l = shown d f (instant n) ∙ rw (tick_instant n l, e)

  pub shown_after : TP d f (gap n) ≡ ltb 0 left
  shown_after = shown d f (gap n) ∙ rw (tick_gap n, e)
