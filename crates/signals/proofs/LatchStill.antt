-- Latches whose operands stand still from gap k up to instant d, and what instant d and gap d make of them: for loops over dates.
use Prim.Native.Nat.{ℕ, zero, suc, ◌+◌, ◌-◌, ◌≤◌, ◌<◌}
use native.Mathlib.Omega.{arith}
use mathlib.Core.Path.{◌≡◌, refl, sym, ◌∙◌, ap, ap₂}
use mathlib.Core.Logic.{⊎_elim}
use mathlib.Core.Bool.{Bool, true, false}
use Rattle.signals.specs.Moment.{gap, instant}
use Rattle.signals.specs.Signal.{Signal}
use Rattle.signals.specs.LatchSteps.{latch, at_step, gap_step, shown, carried}
use Rattle.signals.proofs.Wording.{either}
use Rattle.signals.proofs.Scan.{Held}
use Rattle.signals.proofs.LatchSteps.{latch_at_lem, latch_in}

-- f has the value v from gap k up to the moment before instant d
abbrev pub Still : Signal → ℕ → ℕ → Bool → Type 0
Still f k d v = (t : ℕ) → gap k ≤ t → t < instant d → f t ≡ v

-- a carried bit is down where r is up and up where s is and r is not: a further step over the same values keeps it
carried_form : (w : Bool) (s r : Signal) (k : ℕ) → (x : Bool) × (carried w s r k ≡ gap_step (s (gap k)) (r (gap k)) x)
unfolding carried
carried_form w s r zero = (false, refl)
carried_form w s r (suc k) = (at_step w (s (instant (suc k))) (r (instant (suc k))) (carried w s r k), refl)

keeps : (w a b x : Bool) → gap_step a b (at_step w a b (gap_step a b x)) ≡ gap_step a b x
keeps true a true x = refl
keeps true true false x = refl
keeps true false false true = refl
keeps true false false false = refl
keeps false a true x = refl
keeps false true false x = refl
keeps false false false true = refl
keeps false false false false = refl

at_shows : (w a b x : Bool) → at_step w a b (gap_step a b x) ≡ shown w a (gap_step a b x)
at_shows true true b x = refl
at_shows true false true x = refl
at_shows true false false true = refl
at_shows true false false false = refl
at_shows false a true x = refl
at_shows false true false x = refl
at_shows false false false true = refl
at_shows false false false false = refl

module _ (w : Bool) (s r : Signal) (k d : ℕ) (a b : Bool) (ss : Still s k d a) (rr : Still r k d b) where
  -- the bit carried in a gap of the span
  form : (j : ℕ) → k ≤ j → j < d → (x : Bool) × (carried w s r j ≡ gap_step a b x)
  form j l u =
      let f : (x : Bool) × (carried w s r j ≡ gap_step (s (gap j)) (r (gap j)) x) = carried_form w s r j in (
        f.0,
        f.1 ∙ ap₂ (λ (p q : Bool). gap_step p q f.0) (ss (gap j) (omega arith) (omega arith))
            (rr (gap j) (omega arith) (omega arith)),
      )

  step : (j : ℕ) → k ≤ j → suc j < d → carried w s r (suc j) ≡ carried w s r j
  unfolding carried
  step j l u =
      let f : (x : Bool) × (carried w s r j ≡ gap_step a b x) = form j l (omega arith) in
      rw (
        ss (gap (suc j)) (omega arith) (omega arith),
        rr (gap (suc j)) (omega arith) (omega arith),
        ss (instant (suc j)) (omega arith) (omega arith),
        rr (instant (suc j)) (omega arith) (omega arith),
        f.1,
      )
      (keeps w a b f.0)

  after : (i : ℕ) → k + i < d → carried w s r (k + i) ≡ carried w s r k
  after zero u = ap (carried w s r) (omega arith)
  after (suc i) u =
      ap (carried w s r) (omega arith) ∙ step (k + i) (omega arith) (omega arith) ∙ after i (omega arith)

  pub carried_still : (j : ℕ) → k ≤ j → j < d → carried w s r j ≡ carried w s r k
  carried_still j l u = ap (carried w s r) (omega arith) ∙ after (j - k) (omega arith)

  still_gap : (j : ℕ) → k ≤ j → j < d → latch w s r (gap j) ≡ shown w a (carried w s r k)
  still_gap j l u =
      latch_in w s r j ∙ ap₂ (shown w) (ss (gap j) (omega arith) (omega arith)) (carried_still j l u)

  still_instant : (j : ℕ) → k ≤ j → suc j < d → latch w s r (instant (suc j)) ≡ shown w a (carried w s r k)
  still_instant j l u =
      let f : (x : Bool) × (carried w s r k ≡ gap_step a b x) = form k (omega arith) (omega arith) in
      latch_at_lem w s r j
      ∙ rw (
        ss (instant (suc j)) (omega arith) (omega arith),
        rr (instant (suc j)) (omega arith) (omega arith),
        carried_still j l (omega arith),
        f.1,
      )
      (at_shows w a b f.0)

  -- the latch stands still too
  pub latch_still : Still (latch w s r) k d (shown w a (carried w s r k))
  latch_still t l u = ⊎_elim (λ g. in_gap g.0 g.1) (λ i. at_instant i.0 i.1 i.2) (either t)
    where
      in_gap : (j : ℕ) → t ≡ gap j → latch w s r t ≡ shown w a (carried w s r k)
      in_gap j e = ap (latch w s r) e ∙ still_gap j (omega arith) (omega arith)

      at_instant : (j : ℕ) → 1 ≤ j → t ≡ instant j → latch w s r t ≡ shown w a (carried w s r k)
      at_instant zero m e = absurd (omega arith)
      at_instant (suc j) m e = ap (latch w s r) e ∙ still_instant j (omega arith) (omega arith)

-- what instant d and gap d make of the bit carried in gap k
pub latch_next : (w : Bool) (s r : Signal) (k d : ℕ) (a b : Bool) → Still s k d a → Still r k d b → k < d
    → latch w s r (instant d) ≡ at_step w (s (instant d)) (r (instant d)) (carried w s r k)
latch_next w s r k zero a b ss rr l = absurd (omega arith)
latch_next w s r k (suc d) a b ss rr l =
    latch_at_lem w s r d
    ∙ ap (at_step w (s (instant (suc d))) (r (instant (suc d)))) (carried_still w s r k (suc d) a b ss rr d (omega arith) (omega arith))

pub carried_next : (w : Bool) (s r : Signal) (k d : ℕ) (a b : Bool) → Still s k d a → Still r k d b → k < d
    → carried w s r d ≡ gap_step (s (gap d)) (r (gap d)) (at_step w (s (instant d)) (r (instant d)) (carried w s r k))
unfolding carried
carried_next w s r k zero a b ss rr l = absurd (omega arith)
carried_next w s r k (suc d) a b ss rr l =
    ap
    (λ (q : Bool). gap_step (s (gap (suc d))) (r (gap (suc d))) (at_step w (s (instant (suc d))) (r (instant (suc d))) q))
    (carried_still w s r k (suc d) a b ss rr d (omega arith) (omega arith))

-- one turn of a loop over dates: from what the operands do up to date d, what the latch does, and the bit carried in gap d
pub latch_held : (w : Bool) (s r : Signal) (k d : ℕ) (a b s1 s2 r1 r2 : Bool) → Held s k d a s1 s2 → Held r k d b r1 r2 →
    Held (latch w s r) k d (shown w a (carried w s r k)) (at_step w s1 r1 (carried w s r k)) (shown w s2 (carried w s r d))
latch_held w s r k d a b s1 s2 r1 r2 hs hr =
    record {
      later = hs.later;
      still = latch_still w s r k d a b hs.still hr.still;
      at =
          latch_next w s r k d a b hs.still hr.still hs.later
          ∙ ap₂ (λ (p q : Bool). at_step w p q (carried w s r k)) hs.at hr.at;
      after = latch_in w s r d ∙ ap (λ (p : Bool). shown w p (carried w s r d)) hs.after;
    }

pub carried_held : (w : Bool) (s r : Signal) (k d : ℕ) (a b s1 s2 r1 r2 : Bool) → Held s k d a s1 s2 → Held r k d b r1 r2 →
    carried w s r d ≡ gap_step s2 r2 (at_step w s1 r1 (carried w s r k))
carried_held w s r k d a b s1 s2 r1 r2 hs hr =
    carried_next w s r k d a b hs.still hr.still hs.later ∙ rw (hs.at, hr.at, hs.after, hr.after) refl

-- the bit carried in gap 0
pub carried_first : (w : Bool) (s r : Signal) (a b : Bool) → s 0 ≡ a → r 0 ≡ b → carried w s r 0 ≡ gap_step a b false
unfolding carried
carried_first w s r a b p q = ap₂ (λ (x y : Bool). gap_step x y false) p q

-- operands that stand still for good
pub latch_settled : (w : Bool) (s r : Signal) (k : ℕ) (a b : Bool) → ((t : ℕ) → gap k ≤ t → s t ≡ a) → ((t : ℕ) → gap k ≤ t → r t ≡ b)
    → (t : ℕ) → gap k ≤ t → latch w s r t ≡ latch w s r (gap k)
latch_settled w s r k a b ss rr t l =
    latch_still w s r k (t + 1) a b (λ u m n. ss u m) (λ u m n. rr u m) t l (omega arith)
    ∙ sym (latch_still w s r k (t + 1) a b (λ u m n. ss u m) (λ u m n. rr u m) (gap k) (omega arith) (omega arith))
