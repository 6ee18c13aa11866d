-- Pulses: the dates of starts satisfy their sentence, and no other predicate does; TP is up exactly in the pulses.
use Prim.Native.Nat.{ℕ, zero, suc, ◌+◌, ◌-◌, ◌%◌, ◌≤◌, ◌<◌}
use native.Mathlib.Omega.{arith}
use native.Mathlib.Decide.{dec_le}
use mathlib.Core.Path.{◌≡◌, refl}
use mathlib.Core.Logic.{◌⊎◌, inl, inr, ⊎_elim, ◌↔◌}
use mathlib.Core.Bool.{Bool, true, false, not, cond, ◌&&◌, false≢true}
use mathlib.Core.List.{List, [], ◌∷◌}
use lib.Dec.{ltb}
use borrow.Author.Tests.{lt-ltb, ltb-true, ne_eqb}
use Rattle.signals.specs.Moment.{gap, instant, is_gap, tick, just_before}
use Rattle.signals.specs.Signal.{Signal, rising, running, starts, TP}
use Rattle.signals.specs.Quantified.{Up, UpRising, Among, Starts, UpTP}
use Rattle.signals.specs.Pulses.{Rises, StartsPulses, InPulse, InTicks, Pulses}
use Rattle.signals.proofs.Truth.{not_both_lem, down_of, not_up, not_of, and_left, and_right, and_of, or_cases, or_left, or_right}
use Rattle.signals.proofs.Truth.{le_cases}
use Rattle.signals.proofs.Agreement.{rising_up, rising_of}

-- some pulse of these is running
pub running_up : (d : ℕ) (bs : List ℕ) (k : ℕ) → Up (running d bs k) → (b : ℕ) × Among b bs × (k < b + d)
unfolding running
running_up d [] k u = absurd (false≢true u)
running_up d (c ∷ bs) k u = go (or_cases (ltb k (c + d)) (running d bs k) u) (λ v. running_up d bs k v)
  where
    go : Up (ltb k (c + d)) ⊎ Up (running d bs k) → (Up (running d bs k) → (b : ℕ) × Among b bs × (k < b + d))
        → (b : ℕ) × Among b (c ∷ bs) × (k < b + d)
    go (inl v) rec = (c, inl refl, ltb-true k (c + d) v)
    go (inr v) rec = let r = rec v in (r.0, inr r.1, r.2)

pub running_of : (d : ℕ) (bs : List ℕ) (k b : ℕ) → Among b bs → k < b + d → Up (running d bs k)
unfolding running
running_of d [] k b a l = absurd a
running_of d (c ∷ bs) k b (inl e) l = or_left (ltb k (c + d)) (running d bs k) (lt-ltb k (c + d) (omega arith))
running_of d (c ∷ bs) k b (inr a) l = or_right (ltb k (c + d)) (running d bs k) (running_of d bs k b a l)

-- a rising instant is one at which ^f is up
pub rises_of : (f : Signal) (k : ℕ) → Up (rising f (instant (suc k))) → Rises f (suc k)
unfolding just_before
rises_of f k u =
    let p : UpRising f (instant (suc k)) = rising_up f (instant (suc k)) u in
    let e : instant (suc k) - 1 ≡ gap (suc k - 1) = omega arith in
    (omega arith, rw e at p.2, p.1)

pub of_rises : (f : Signal) (k : ℕ) → Rises f (suc k) → Up (rising f (instant (suc k)))
unfolding just_before is_gap
of_rises f k h =
    let e : instant (suc k) - 1 ≡ gap (suc k - 1) = omega arith in
    rising_of f (instant (suc k)) (ne_eqb (instant (suc k) % 2) 0 (omega arith), h.2, rw e h.1)

-- what starts at an instant: the test that `starts` makes
abbrev pub begins : ℕ → Signal → ℕ → Bool
begins d f k = rising f (instant (suc k)) && not (running d (starts d f k) (suc k))

module _ (d : ℕ) (f : Signal) where
  -- a start among those up to k + 1 is k + 1, which begins a pulse, or is among those up to k
  pub start_cases : (b k : ℕ) → Among b (starts d f (suc k)) → (b ≡ suc k × Up (begins d f k)) ⊎ Among b (starts d f k)
  unfolding starts
  start_cases b k = go (begins d f k) refl
    where
      go : (t : Bool) → begins d f k ≡ t → Among b (cond t (suc k ∷ starts d f k) (starts d f k))
          → (b ≡ suc k × Up (begins d f k)) ⊎ Among b (starts d f k)
      go true e (inl q) = inl (q, e)
      go true e (inr a) = inr a
      go false e a = inr a

  pub start_now : (k : ℕ) → Up (begins d f k) → Starts d f (suc k)
  unfolding starts
  start_now k u = rw u (inl refl)

  pub start_kept : (b k : ℕ) → Among b (starts d f k) → Among b (starts d f (suc k))
  unfolding starts
  start_kept b k a = go (begins d f k)
    where
      go : (t : Bool) → Among b (cond t (suc k ∷ starts d f k) (starts d f k))
      go true = inr a
      go false = a

  pub start_within : (b k : ℕ) → Among b (starts d f k) → (1 ≤ b) × (b ≤ k)
  unfolding starts
  start_within b zero a = absurd a
  start_within b (suc k) a =
      ⊎_elim (λ h. (omega arith, omega arith)) (λ r. let w = start_within b k r in (w.0, omega arith)) (start_cases b k a)

  -- a start is among the starts up to any date from its own on, and those are starts
  pub among_of : (b k : ℕ) → b ≤ k → Starts d f b → Among b (starts d f k)
  among_of b zero l s = absurd (omega (arith, (start_within b b s).0))
  among_of b (suc k) l s =
      ⊎_elim (λ m. start_kept b k (among_of b k m s)) (λ e. rw (← e) s) (le_cases b k l)

  pub of_among : (b k : ℕ) → Among b (starts d f k) → Starts d f b
  of_among b zero a = absurd (omega (arith, start_within b zero a))
  of_among b (suc k) a = ⊎_elim (λ h. rw h.0 (start_now k h.1)) (λ r. of_among b k r) (start_cases b k a)

  -- the sentence of starts
  starts_forth : (a : ℕ) → Starts d f a → Rises f a × ((b : ℕ) → b < a → Starts d f b → b + d ≤ a)
  starts_forth zero s = absurd (omega (arith, (start_within zero zero s).0))
  starts_forth (suc k) s =
      ⊎_elim (λ h. from h.1) (λ r. absurd (omega (arith, (start_within (suc k) k r).1))) (start_cases (suc k) k s)
    where
      from : Up (begins d f k) → Rises f (suc k) × ((b : ℕ) → b < suc k → Starts d f b → b + d ≤ suc k)
      from u = (
        rises_of f k (and_left (rising f (instant (suc k))) (not (running d (starts d f k) (suc k))) u),
        λ b l s. ended b (among_of b k (omega arith) s) (dec_le (b + d) (suc k)),
      )
        where
          ended : (b : ℕ) → Among b (starts d f k) → Dec (b + d ≤ suc k) → b + d ≤ suc k
          ended b a (yes l) = l
          ended b a (no n) =
              not_both_lem (running_of d (starts d f k) (suc k) b a (omega arith))
              (not_up (running d (starts d f k) (suc k))
              (and_right (rising f (instant (suc k))) (not (running d (starts d f k) (suc k))) u))

  starts_back : (a : ℕ) → Rises f a × ((b : ℕ) → b < a → Starts d f b → b + d ≤ a) → Starts d f a
  starts_back zero h = absurd (omega (arith, h.0.0))
  starts_back (suc k) h =
      start_now k
      (and_of (rising f (instant (suc k))) (not (running d (starts d f k) (suc k))) (of_rises f k h.0) (not_of (down_of _ none)))
    where
      none : Up (running d (starts d f k) (suc k)) → ⊥
      none u =
          let r = running_up d (starts d f k) (suc k) u in
          omega (arith, r.2, h.1 r.0 (omega (arith, (start_within r.0 k r.1).1)) (of_among r.0 k r.1))

  pub starts_say : StartsPulses d f (Starts d f)
  starts_say a = (starts_forth a, starts_back a)

  -- two predicates of which it is true are one, date by date
  same : (P Q : ℕ → Type 0) → StartsPulses d f P → StartsPulses d f Q → (n a : ℕ) → a < n → (P a → Q a) × (Q a → P a)
  same P Q p q zero a l = absurd (omega arith)
  same P Q p q (suc n) a l = (
    λ x. (q a).1 (((p a).0 x).0, λ b m y. ((p a).0 x).1 b m ((same P Q p q n b (omega arith)).1 y)),
    λ x. (p a).1 (((q a).0 x).0, λ b m y. ((q a).0 x).1 b m ((same P Q p q n b (omega arith)).0 y)),
  )

  pub starts_only : (P : ℕ → Type 0) → StartsPulses d f P → (a : ℕ) → P a ↔ Starts d f a
  starts_only P p a = same P (Starts d f) p starts_say (suc a) a (omega arith)

  -- TP by the starts
  TP_ticks : (t : ℕ) → Up (TP d f t) → InTicks d (Starts d f) t
  unfolding TP
  TP_ticks t u =
      let r = running_up d (starts d f (tick t)) (tick t) u in
      (r.0, of_among r.0 (tick t) r.1, (start_within r.0 (tick t) r.1).1, r.2)

  TP_of_ticks : (t : ℕ) → InTicks d (Starts d f) t → Up (TP d f t)
  unfolding TP
  TP_of_ticks t h = running_of d (starts d f (tick t)) (tick t) h.0 (among_of h.0 (tick t) h.2 h.1) h.3

  -- another predicate in the place of `Starts`
  swapped : (P Q : ℕ → Type 0) → ((a : ℕ) → P a → Q a) → (t : ℕ) → InTicks d P t → InTicks d Q t
  swapped P Q g t h = (h.0, g h.0 h.1, h.2, h.3)

  -- up from a inclusive to a+d exclusive, by ticks and by moments
  by_moments : (P : ℕ → Type 0) → ((a : ℕ) → P a → 1 ≤ a) → (t : ℕ) → InTicks d P t → InPulse d P t
  unfolding tick
  by_moments P g t h = (h.0, h.1, omega (arith, h.2), omega (arith, h.3))

  by_ticks : (P : ℕ → Type 0) (t : ℕ) → InPulse d P t → InTicks d P t
  unfolding tick
  by_ticks P t h = (h.0, h.1, omega (arith, h.2, h.3), omega (arith, h.2, h.3))

  pub TP_up : (t : ℕ) → Up (TP d f t) → UpTP d f t
  TP_up t u = by_moments (Starts d f) (λ a s. (start_within a a s).0) t (TP_ticks t u)

  pub TP_of : (t : ℕ) → UpTP d f t → Up (TP d f t)
  TP_of t h = TP_of_ticks t (by_ticks (Starts d f) t h)

  module _ (P : ℕ → Type 0) (p : StartsPulses d f P) where
    in_ticks : (t : ℕ) → Up (TP d f t) ↔ InTicks d P t
    in_ticks t = (
      λ u. swapped (Starts d f) P (λ a. (starts_only P p a).1) t (TP_ticks t u),
      λ h. TP_of_ticks t (swapped P (Starts d f) (λ a. (starts_only P p a).0) t h),
    )

    in_pulse : (t : ℕ) → Up (TP d f t) ↔ InPulse d P t
    in_pulse t = (
      λ u. by_moments P (λ a x. ((p a).0 x).0.0) t ((in_ticks t).0 u),
      λ h. (in_ticks t).1 (by_ticks P t h),
    )

-- the sentences, one by one
rises_tie : (f : Signal) (a : ℕ) → Rises f a ↔ Up (rising f (instant a))
unfolding is_gap
rises_tie f zero = ((λ r. absurd (omega (arith, r.0))), λ u. not_both_lem refl (rising_up f (instant zero) u).0)
rises_tie f (suc k) = (of_rises f k, rises_of f k)

up_from_start_lem : (f : Signal) (a : ℕ) → ((t : ℕ) → t < instant a → Up (f t)) → ¬ Rises f a
up_from_start_lem f a h r = not_both_lem (h (gap (a - 1)) (omega (arith, r.0))) r.1

down_meanwhile_lem : (d : ℕ) (f : Signal) (t : ℕ) → ((u : ℕ) → u ≤ t → Up (f u)) → TP d f t ≡ false
down_meanwhile_lem d f t h =
    down_of (TP d f t)
    (λ u. let p = TP_up d f t u in up_from_start_lem f p.0 (λ n l. h n (omega (arith, p.2))) ((starts_say d f p.0).0 p.1).0)

at_end_lem : (d : ℕ) (f : Signal) (a : ℕ) → Starts d f a → Rises f (a + d) → Starts d f (a + d)
at_end_lem d f a s r = (starts_say d f (a + d)).1 (r, λ b m z. ended b m z (dec_le b a))
  where
    ended : (b : ℕ) → b < a + d → Starts d f b → Dec (b ≤ a) → b + d ≤ a + d
    ended b m z (yes l) = omega arith
    ended b m z (no n) = absurd (omega (arith, ((starts_say d f b).0 z).1 a (omega arith) s))

join : (d : ℕ) (f : Signal) (a : ℕ) → 1 ≤ d → Starts d f a → Rises f (a + d)
    → Up (TP d f (gap (a + d - 1))) × Up (TP d f (instant (a + d))) × Up (TP d f (gap (a + d)))
join d f a l s r =
    let n = at_end_lem d f a s r in
    let one : 1 ≤ a = ((starts_say d f a).0 s).0.0 in (
      TP_of d f (gap (a + d - 1)) (a, s, omega arith, omega arith),
      TP_of d f (instant (a + d)) (a + d, n, omega arith, omega arith),
      TP_of d f (gap (a + d)) (a + d, n, omega arith, omega arith),
    )

zero_down : (f : Signal) (t : ℕ) → TP 0 f t ≡ false
zero_down f t = down_of (TP 0 f t) (λ u. let h = TP_up 0 f t u in omega (arith, h.2, h.3))

pub pulses : Pulses
pulses =
    record {
      rises = rises_tie;
      starts = starts_say;
      only = starts_only;
      up = in_pulse;
      ticks = in_ticks;
      ignored = λ d f a e s l u z. omega (arith, ((starts_say d f e).0 z).1 a l s);
      again = λ d f a e last l r. (starts_say d f e).1 (r, λ b m s. omega (arith, last b m s));
      at_end = at_end_lem;
      joined = join;
      up_from_start = up_from_start_lem;
      down_meanwhile = down_meanwhile_lem;
      length_zero = zero_down;
    }
