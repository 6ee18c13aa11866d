-- TP from instant to instant: the ticks left are those up to the end of the last pulse.
use Prim.Native.Nat.{ℕ, zero, suc, ◌+◌, ◌-◌, ◌≤◌, ◌<◌}
use native.Mathlib.Omega.{arith}
use mathlib.Core.Path.{◌≡◌, refl, ◌∙◌, ap}
use mathlib.Core.Logic.{inl, inr}
use mathlib.Core.Bool.{Bool, true, false, not, cond, ◌&&◌}
use mathlib.Core.List.{List, ◌∷◌}
use lib.Dec.{leb, ltb}
use borrow.Author.Tests.{lt-ltb, ltb-true, ltb-false, leb-true, leb-false}
use Rattle.signals.specs.Moment.{gap, instant, tick}
use Rattle.signals.specs.Signal.{Signal, rising, running, starts, TP}
use Rattle.signals.specs.Quantified.{Up, Among}
use Rattle.signals.specs.PulseSteps.{ticks_left, PulseSteps}
use Rattle.signals.proofs.Truth.{bool_ext, and_right}
use Rattle.signals.proofs.Pulses.{running_up, running_of}

-- the pulses that started at these dates end by k and the ticks left, and where some are left one ends then
record Left (d k left : ℕ) (bs : List ℕ) : Type 0 where
  ends : (b : ℕ) → Among b bs → b + d ≤ k + left
  runs : 0 < left → (b : ℕ) × Among b bs × (b + d ≡ k + left)

-- one is running at a date from k on exactly when it is before the last tick's end
runs_on : (d k left : ℕ) (bs : List ℕ) (e : ℕ) → Left d k left bs → k ≤ e → running d bs e ≡ ltb e (k + left)
runs_on d k left bs e h l = bool_ext (running d bs e) (ltb e (k + left)) there back
  where
    there : Up (running d bs e) → Up (ltb e (k + left))
    there u = let r = running_up d bs e u in lt-ltb e (k + left) (omega (arith, r.2, h.ends r.0 r.1))

    back : Up (ltb e (k + left)) → Up (running d bs e)
    back u =
        let m : e < k + left = ltb-true e (k + left) u in
        let r = h.runs (omega arith) in
        running_of d bs e r.0 r.1 (omega (arith, r.2))

-- the next instant is not before that end exactly when at most one tick is left
over : (k left : ℕ) → not (ltb (suc k) (k + left)) ≡ leb left 1
over k left = go (ltb (suc k) (k + left)) (leb left 1) refl refl
  where
    go : (t u : Bool) → ltb (suc k) (k + left) ≡ t → leb left 1 ≡ u → not t ≡ u
    go true true a b = absurd (omega (arith, ltb-true (suc k) (k + left) a, leb-true left 1 b))
    go true false a b = refl
    go false true a b = refl
    go false false a b = absurd (omega (arith, ltb-false (suc k) (k + left) a, leb-false left 1 b))

-- from one instant to the next, at which a pulse starts or not
step : (d k left : ℕ) (bs : List ℕ) → Left d k left bs → (t : Bool) → (Up t → left ≤ 1)
    → Left d (suc k) (cond t d (left - 1)) (cond t (suc k ∷ bs) bs)
step d k left bs h true short = record { ends = ended; runs = λ l. (suc k, inl refl, refl) }
  where
    ended : (b : ℕ) → Among b (suc k ∷ bs) → b + d ≤ suc k + d
    ended b (inl e) = omega arith
    ended b (inr a) = omega (arith, h.ends b a, short refl)
step d k left bs h false short =
    record {
      ends = λ b a. omega (arith, h.ends b a);
      runs = λ l. let r = h.runs (omega arith) in (r.0, r.1, omega (arith, r.2));
    }

left_is : (d : ℕ) (f : Signal) (k : ℕ) → Left d k (ticks_left d f k) (starts d f k)
unfolding starts ticks_left
left_is d f zero = record { ends = λ b a. absurd a; runs = λ l. absurd (omega arith) }
left_is d f (suc k) =
    let h = left_is d f k in
    let same : not (running d (starts d f k) (suc k)) ≡ leb (ticks_left d f k) 1 =
    ap not (runs_on d k (ticks_left d f k) (starts d f k) (suc k) h (omega arith)) ∙ over k (ticks_left d f k) in
    rw same
    (step d k (ticks_left d f k) (starts d f k) h (rising f (instant (suc k)) && leb (ticks_left d f k) 1)
    (λ u. leb-true (ticks_left d f k) 1 (and_right (rising f (instant (suc k))) (leb (ticks_left d f k) 1) u)))

-- a moment shows whether its tick has one left
pub shown : (d : ℕ) (f : Signal) (t : ℕ) → TP d f t ≡ ltb 0 (ticks_left d f (tick t))
unfolding TP
shown d f t =
    runs_on d (tick t) (ticks_left d f (tick t)) (starts d f (tick t)) (tick t) (left_is d f (tick t)) (omega arith)
    ∙ go (ltb (tick t) (tick t + ticks_left d f (tick t))) (ltb 0 (ticks_left d f (tick t))) refl refl
  where
    go : (a b : Bool) → ltb (tick t) (tick t + ticks_left d f (tick t)) ≡ a → ltb 0 (ticks_left d f (tick t)) ≡ b → a ≡ b
    go true true x y = refl
    go true false x y =
        absurd (omega (arith, ltb-true (tick t) (tick t + ticks_left d f (tick t)) x, ltb-false 0 (ticks_left d f (tick t)) y))
    go false true x y =
        absurd (omega (arith, ltb-false (tick t) (tick t + ticks_left d f (tick t)) x, ltb-true 0 (ticks_left d f (tick t)) y))
    go false false x y = refl

tick_gap : (k : ℕ) → tick (gap k) ≡ k
unfolding tick
tick_gap k = omega arith

tick_instant : (k : ℕ) → tick (instant (suc k)) ≡ suc k
unfolding tick
tick_instant k = omega arith

pub pulse_steps : PulseSteps
pulse_steps =
    record {
      at_instant = λ d f k. shown d f (instant (suc k)) ∙ ap (λ (n : ℕ). ltb 0 (ticks_left d f n)) (tick_instant k);
      in_gap = λ d f k. shown d f (gap k) ∙ ap (λ (n : ℕ). ltb 0 (ticks_left d f n)) (tick_gap k);
    }
