-- SR and RS from moment to moment, and while their operands stand still.
use Prim.Native.Nat.{ℕ, zero, suc, ◌-◌, ◌%◌, ◌≤◌}
use native.Mathlib.Omega.{arith}
use mathlib.Core.Path.{◌≡◌, refl, sym, ◌∙◌, ap, subst}
use mathlib.Core.Logic.{◌⊎◌, inl, inr, ⊎_elim}
use mathlib.Core.Bool.{Bool, true, false, not, ◌&&◌, ◌||◌}
use Rattle.signals.specs.Moment.{gap, instant, opens}
use Rattle.signals.specs.Signal.{Signal, SR, RS}
use Rattle.signals.specs.Quantified.{Up, Down, UpSR}
use Rattle.signals.specs.LatchSteps.{latch, at_step, gap_step, shown, carried, LatchSteps}
use Rattle.signals.proofs.Truth.{bool_ext, not_up, not_of, and_left, and_right, and_of, or_cases, or_left, or_right, le_cases}
use Rattle.signals.proofs.Agreement.{SR_up, SR_of, RS_up1, RS_of1, OneRS, le_opens}

-- r is down up to m + 1 when it is down up to m and at m + 1
down_more : (r : Signal) (from m : ℕ) → ((n : ℕ) → from ≤ n → n ≤ m → Down (r n)) → Down (r (suc m)) → (n : ℕ) → from ≤ n → n ≤ suc m
    → Down (r n)
down_more r from m h d n l u = ⊎_elim (λ v. h n l v) (λ e. rw e d) (le_cases n m u)

-- RS: gaps and instants alike
pub RS_next : (s r : Signal) (t : ℕ) → RS s r (suc t) ≡ (not (r (suc t)) && (s (suc t) || RS s r t))
RS_next s r t = bool_ext _ _ there back
  where
    there : Up (RS s r (suc t)) → Up (not (r (suc t)) && (s (suc t) || RS s r t))
    there e =
        let h : OneRS s r (suc t) = RS_up1 s r (suc t) e in
        and_of
        (not (r (suc t)))
        (s (suc t) || RS s r t)
        (not_of (h.3 (suc t) h.1 (omega arith)))
        (⊎_elim
        (λ l. or_right (s (suc t)) (RS s r t) (RS_of1 s r t (h.0, l, h.2, λ n a b. h.3 n a (omega arith))))
        (λ q. or_left (s (suc t)) (RS s r t) (rw (← q) h.2))
        (le_cases h.0 t h.1))

    back : Up (not (r (suc t)) && (s (suc t) || RS s r t)) → Up (RS s r (suc t))
    back e =
        let d : Down (r (suc t)) = not_up (r (suc t)) (and_left (not (r (suc t))) (s (suc t) || RS s r t) e) in
        ⊎_elim
        (λ u. RS_of1 s r (suc t) (suc t, omega arith, u, λ n a b. let q : n ≡ suc t = omega arith in rw q d))
        (λ u.
        let h : OneRS s r t = RS_up1 s r t u in
        RS_of1 s r (suc t) (h.0, omega (arith, h.1), h.2, down_more r h.0 t h.3 d))
        (or_cases (s (suc t)) (RS s r t) (and_right (not (r (suc t))) (s (suc t) || RS s r t) e))

pub RS_first : (s r : Signal) → RS s r 0 ≡ (s 0 && not (r 0))
RS_first s r =
    bool_ext
    _
    _
    (λ e.
    let h : OneRS s r 0 = RS_up1 s r 0 e in
    let q : h.0 ≡ 0 = omega (arith, h.1) in
    and_of (s 0) (not (r 0)) (rw (← q) h.2) (not_of (h.3 0 h.1 (omega arith))))
    (λ e.
    RS_of1
    s
    r
    0 (
      0,
      omega arith,
      and_left (s 0) (not (r 0)) e,
      λ n a b. let q : n ≡ 0 = omega arith in rw q (not_up (r 0) (and_right (s 0) (not (r 0)) e)),
    ))

-- SR at the instant after gap t
abbrev at_instant : Signal → Signal → ℕ → Bool
at_instant s r t = s (suc t) || ((not (r t) && SR s r t) && not (r (suc t)))

pub SR_instant : (s r : Signal) (t : ℕ) → t % 2 ≡ 0 → SR s r (suc t) ≡ (s (suc t) || ((not (r t) && SR s r t) && not (r (suc t))))
unfolding opens
SR_instant s r t g = bool_ext _ _ there back
  where
    there : Up (SR s r (suc t)) → Up (at_instant s r t)
    there e =
        ⊎_elim
        (λ u. or_left (s (suc t)) ((not (r t) && SR s r t) && not (r (suc t))) u)
        (λ h.
        or_right
        (s (suc t))
        ((not (r t) && SR s r t) && not (r (suc t)))
        (and_of
        (not (r t) && SR s r t)
        (not (r (suc t)))
        (and_of
        (not (r t))
        (SR s r t)
        (not_of (h.3 t (omega (arith, h.1), omega arith)))
        (SR_of s r t (inr (h.0, omega (arith, h.1), h.2, λ n i. h.3 n (i.0, omega (arith, i.1))))))
        (not_of (h.3 (suc t) (h.1, omega arith)))))
        (SR_up s r (suc t) e)

    extend : Down (r t) → Down (r (suc t)) → UpSR s r t → Up (SR s r (suc t))
    extend d e (inl u) =
        SR_of s r (suc t) (inr
        (t, omega arith, u, λ n i. ⊎_elim (λ l. let q : n ≡ t = omega (arith, i.0) in rw q d) (λ q. rw q e) (le_cases n t i.1)))
    extend d e (inr h) =
        SR_of s r (suc t) (inr
        (h.0, omega (arith, h.1), h.2, λ n i. down_more r (opens h.0) t (λ m a b. h.3 m (a, b)) e n i.0 i.1))

    back : Up (at_instant s r t) → Up (SR s r (suc t))
    back e =
        ⊎_elim
        (λ u. SR_of s r (suc t) (inl u))
        (λ w.
        let v : Up (not (r t) && SR s r t) = and_left (not (r t) && SR s r t) (not (r (suc t))) w in
        extend
        (not_up (r t) (and_left (not (r t)) (SR s r t) v))
        (not_up (r (suc t)) (and_right (not (r t) && SR s r t) (not (r (suc t))) w))
        (SR_up s r t (and_right (not (r t)) (SR s r t) v)))
        (or_cases (s (suc t)) ((not (r t) && SR s r t) && not (r (suc t))) e)

-- SR in the gap after instant t
pub SR_gap : (s r : Signal) (t : ℕ) → t % 2 ≡ 1 → SR s r (suc t) ≡ (s (suc t) || (SR s r t && not (r (suc t))))
unfolding opens
SR_gap s r t g = bool_ext _ _ there back
  where
    -- a moment whose open span begins by suc t: suc t itself, or one at which or after which SR is up at t
    begins : (t1 : ℕ) → opens t1 ≤ suc t → Up (s t1) → ((n : ℕ) → opens t1 ≤ n → n ≤ suc t → Down (r n)) → Up (s (suc t)) ⊎ Up (SR s r t)
    begins t1 b u h =
        ⊎_elim
        (λ l.
        ⊎_elim
        (λ m. inr (SR_of s r t (inr (t1, omega arith, u, λ n i. h n i.0 (omega (arith, i.1))))))
        (λ q. inr (SR_of s r t (inl (let p : t ≡ t1 = omega arith in rw p u))))
        (le_cases t1 (t - 1) (omega arith)))
        (λ q. inl (rw (← q) u))
        (le_cases t1 t (omega arith))

    there : Up (SR s r (suc t)) → Up (s (suc t) || (SR s r t && not (r (suc t))))
    there e =
        ⊎_elim
        (λ u. or_left (s (suc t)) (SR s r t && not (r (suc t))) u)
        (λ h.
        ⊎_elim
        (λ u. or_left (s (suc t)) (SR s r t && not (r (suc t))) u)
        (λ u.
        or_right
        (s (suc t))
        (SR s r t && not (r (suc t)))
        (and_of (SR s r t) (not (r (suc t))) u (not_of (h.3 (suc t) (h.1, omega arith)))))
        (begins h.0 h.1 h.2 (λ n a b. h.3 n (a, b))))
        (SR_up s r (suc t) e)

    extend : Down (r (suc t)) → UpSR s r t → Up (SR s r (suc t))
    extend e (inl u) =
        SR_of s r (suc t) (inr (t, omega arith, u, λ n i. let q : n ≡ suc t = omega (arith, i.0, i.1) in rw q e))
    extend e (inr h) =
        SR_of s r (suc t) (inr
        (h.0, omega (arith, h.1), h.2, λ n i. down_more r (opens h.0) t (λ m a b. h.3 m (a, b)) e n i.0 i.1))

    back : Up (s (suc t) || (SR s r t && not (r (suc t)))) → Up (SR s r (suc t))
    back e =
        ⊎_elim
        (λ u. SR_of s r (suc t) (inl u))
        (λ w.
        extend
        (not_up (r (suc t)) (and_right (SR s r t) (not (r (suc t))) w))
        (SR_up s r t (and_left (SR s r t) (not (r (suc t))) w)))
        (or_cases (s (suc t)) (SR s r t && not (r (suc t))) e)

pub SR_first : (s r : Signal) → SR s r 0 ≡ s 0
SR_first s r =
    bool_ext
    _
    _
    (λ e. ⊎_elim (λ u. u) (λ h. let q : h.0 ≡ 0 = omega (arith, le_opens h.0 0 h.1) in rw (← q) h.2) (SR_up s r 0 e))
    (λ u. SR_of s r 0 (inl u))

-- the two moments after gap k
next_instant : (k : ℕ) → instant (suc k) ≡ suc (gap k)
next_instant k = omega arith

next_gap : (k : ℕ) → gap (suc k) ≡ suc (instant (suc k))
next_gap k = omega arith

SR_at : (s r : Signal) (k : ℕ)
    → SR s r (instant (suc k)) ≡ (s (instant (suc k)) || ((not (r (gap k)) && SR s r (gap k)) && not (r (instant (suc k)))))
SR_at s r k = rw (next_instant k) (SR_instant s r (gap k) (omega arith))

pub SR_after : (s r : Signal) (k : ℕ) → SR s r (gap (suc k)) ≡ (s (gap (suc k)) || (SR s r (instant (suc k)) && not (r (gap (suc k)))))
SR_after s r k =
    subst
    (λ (u : ℕ). SR s r u ≡ (s u || (SR s r (instant (suc k)) && not (r u))))
    (sym (next_gap k))
    (SR_gap s r (instant (suc k)) (omega arith))

pub RS_at : (s r : Signal) (k : ℕ) → RS s r (instant (suc k)) ≡ (not (r (instant (suc k))) && (s (instant (suc k)) || RS s r (gap k)))
RS_at s r k = rw (next_instant k) (RS_next s r (gap k))

pub RS_after : (s r : Signal) (k : ℕ) → RS s r (gap (suc k)) ≡ (not (r (gap (suc k))) && (s (gap (suc k)) || RS s r (instant (suc k))))
RS_after s r k =
    subst
    (λ (u : ℕ). RS s r u ≡ (not (r u) && (s u || RS s r (instant (suc k)))))
    (sym (next_gap k))
    (RS_next s r (instant (suc k)))

-- SR carries what a gap shows unless r is up there; RS carries what a gap shows
first_carried : (a b : Bool) → gap_step a b false ≡ (not b && a)
first_carried a true = refl
first_carried true false = refl
first_carried false false = refl

first_carried_RS : (a b : Bool) → gap_step a b false ≡ (a && not b)
first_carried_RS true true = refl
first_carried_RS false true = refl
first_carried_RS true false = refl
first_carried_RS false false = refl

carried_shown : (a b c : Bool) → gap_step a b c ≡ (not b && (a || (c && not b)))
carried_shown a true c = refl
carried_shown true false c = refl
carried_shown false false true = refl
carried_shown false false false = refl

carried_SR : (s r : Signal) (k : ℕ) → carried true s r k ≡ (not (r (gap k)) && SR s r (gap k))
unfolding carried
carried_SR s r zero = first_carried (s 0) (r 0) ∙ ap (λ (x : Bool). not (r 0) && x) (sym (SR_first s r))
carried_SR s r (suc k) =
    ap (λ (x : Bool). gap_step (s (gap (suc k))) (r (gap (suc k))) (s (instant (suc k)) || (x && not (r (instant (suc k))))))
    (carried_SR s r k)
    ∙ ap (gap_step (s (gap (suc k))) (r (gap (suc k)))) (sym (SR_at s r k))
    ∙ carried_shown (s (gap (suc k))) (r (gap (suc k))) (SR s r (instant (suc k)))
    ∙ ap (λ (x : Bool). not (r (gap (suc k))) && x) (sym (SR_after s r k))

carried_RS : (s r : Signal) (k : ℕ) → carried false s r k ≡ RS s r (gap k)
unfolding carried
carried_RS s r zero = first_carried_RS (s 0) (r 0) ∙ sym (RS_first s r)
carried_RS s r (suc k) =
    ap (λ (x : Bool). gap_step (s (gap (suc k))) (r (gap (suc k))) (not (r (instant (suc k))) && (s (instant (suc k)) || x)))
    (carried_RS s r k)
    ∙ ap (gap_step (s (gap (suc k))) (r (gap (suc k)))) (sym (RS_at s r k))
    ∙ sym (RS_after s r k)

pub latch_at_lem : (setWins : Bool) (s r : Signal) (k : ℕ)
    → latch setWins s r (instant (suc k)) ≡ at_step setWins (s (instant (suc k))) (r (instant (suc k))) (carried setWins s r k)
latch_at_lem true s r k = rw (carried_SR s r k) (SR_at s r k)
latch_at_lem false s r k = rw (carried_RS s r k) (RS_at s r k)

-- SR in a gap is s or what it carries there
shows : (s r : Signal) (k : ℕ) → SR s r (gap k) ≡ (s (gap k) || (not (r (gap k)) && SR s r (gap k)))
shows s r zero = rw (SR_first s r) (tidy (s 0) (r 0))
  where
    tidy : (a b : Bool) → a ≡ (a || (not b && a))
    tidy true b = refl
    tidy false true = refl
    tidy false false = refl
shows s r (suc k) = rw (SR_after s r k) (tidy (s (gap (suc k))) (r (gap (suc k))) (SR s r (instant (suc k))))
  where
    tidy : (a b c : Bool) → (a || (c && not b)) ≡ (a || (not b && (a || (c && not b))))
    tidy true b c = refl
    tidy false true true = refl
    tidy false true false = refl
    tidy false false true = refl
    tidy false false false = refl

pub latch_in : (setWins : Bool) (s r : Signal) (k : ℕ) → latch setWins s r (gap k) ≡ shown setWins (s (gap k)) (carried setWins s r k)
latch_in true s r k = rw (carried_SR s r k) (shows s r k)
latch_in false s r k = sym (carried_RS s r k)

pub latch_steps : LatchSteps
latch_steps =
    record {
      at_instant = latch_at_lem;
      in_gap = latch_in;
      first_sr = SR_first;
      after_sr = SR_after;
      first_rs = RS_first;
      after_rs = RS_after;
    }
