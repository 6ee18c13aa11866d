-- A delay's state at a moment, and how it follows its input to the next one.
use Prim.Native.Nat.{ℕ, ◌+◌, ◌*◌, ◌≤◌, ◌<◌}
use native.Mathlib.Omega.{arith}
use mathlib.Core.Path.{◌≡◌, refl, sym, ◌∙◌, ap, subst}
use mathlib.Core.Bool.{Bool, true, false, not, cond, ◌&&◌, ◌||◌}
use lib.Dec.{ltb, eqb}
use borrow.Author.Tests.{le-leb, lt-leb, le-ltb, eqb-true, eqb-false}
use Rattle.signals.specs.Moment.{M, gap, instant}
use Rattle.signals.specs.Signal.{Signal}
use Rattle.signals.specs.Answers.{sum_of}
use Rattle.signals.specs.declared.Sum.TheVariants as sum
use Rattle.signals.specs.Quantified.{Up, Down}
use Rattle.signals.proofs.Truth.{not_both_lem, and_left, and_right}
use Rattle.timing.specs.Delay.{date_in, timer, pending, reached, risen, timer_next, first_timer, delayed}
use Rattle.timing.specs.declared.Timer.{Timer}
use Rattle.timing.proofs.DelayCases.{next_up, next_waiting, next_new, next_down}
use Rattle.timing.proofs.DelaySignals.{Run, run_first, run_after, run_later, run_up}

-- the instant of a date, or the gap after it
abbrev pub moment_of : Bool → ℕ → ℕ
moment_of true date = instant date
moment_of false date = gap date

-- the state at moment m of a delay E of g: up; waiting, up from the pending moment on, dated n at most; or down with its input
abbrev pub TimedBy : Signal → Signal → ℕ → Bool → Bool → Bool → ℕ → ℕ → Type 0
TimedBy g E n true true at due m = ⊥
TimedBy g E n true false at due m = Up (g m) × Run g E m m
TimedBy g E n false true at due m = Up (g m) × Run g E (moment_of at due) m × (m < moment_of at due) × (due ≤ n)
TimedBy g E n false false at due m = Down (g m)

abbrev pub Timed : Signal → Signal → ℕ → Timer → ℕ → Type 0
Timed g E n s m = TimedBy g E n s.level s.waiting s.at s.due.0 m

-- the one checked sum gives the exact sum
pub sum_exact : (date d : ℕ) → date ≤ M → d ≤ M → date_in (sum_of date d) ≡ date + d
sum_exact date d h k = rw (le-ltb M date h, le-ltb M d k) (go (ltb M (date + d)))
  where
    go : (b : Bool) → date_in (cond b (sum.PastM (date + d)) (sum.On (record { 0 = date + d }))) ≡ date + d
    go true = refl
    go false = refl

reached_by : (s : Timer) (date : ℕ) (at : Bool) → reached s date at ≡ true → moment_of s.at s.due.0 ≤ moment_of at date
unfolding reached
reached_by s date at e = go at s.at (and_right (eqb s.due.0 date) (not at || s.at) e)
  where
    same : s.due.0 ≡ date
    same = eqb-true s.due.0 date (and_left (eqb s.due.0 date) (not at || s.at) e)

    go : (a b : Bool) → Up (not a || b) → moment_of b s.due.0 ≤ moment_of a date
    go true true u = omega (arith, same)
    go true false u = not_both_lem u refl
    go false true u = omega (arith, same)
    go false false u = omega (arith, same)

not_reached : (s : Timer) (date : ℕ) (at : Bool) → reached s date at ≡ false → date ≤ s.due.0 → (Up at → 1 ≤ date)
    → moment_of at date < moment_of s.at s.due.0
unfolding reached
not_reached s date at e l one = go (eqb s.due.0 date) at s.at refl e one
  where
    go : (q a b : Bool) → eqb s.due.0 date ≡ q → q && (not a || b) ≡ false → (Up a → 1 ≤ date)
        → moment_of a date < moment_of b s.due.0
    go true true true p u one = not_both_lem refl u
    go true true false p u one = omega (arith, eqb-true s.due.0 date p, one refl)
    go true false b p u one = not_both_lem refl u
    go false true true p u one = omega (arith, eqb-false s.due.0 date p)
    go false true false p u one = omega (arith, eqb-false s.due.0 date p)
    go false false true p u one = omega (arith, eqb-false s.due.0 date p)
    go false false false p u one = omega (arith, eqb-false s.due.0 date p)

module _ (g E : Signal) (n : ℕ) where
  -- the level is the value of the delay
  pub timed_value : ((t : ℕ) → Down (g t) → Down (E t)) → (s : Timer) (m : ℕ) → Timed g E n s m → E m ≡ s.level
  timed_value down s m h = go s.level s.waiting s.at h
    where
      here : Up (g m) → (t : ℕ) → m ≤ t → t ≤ m → Up (g t)
      here u t a b = let e : t ≡ m = omega arith in rw e u

      go : (l w a : Bool) → TimedBy g E n l w a s.due.0 m → E m ≡ l
      go true true a h = absurd h
      go true false a h = h.1 m (omega arith) (here h.0) ∙ le-leb m m (omega arith)
      go false true a h = h.1 m (omega arith) (here h.0) ∙ lt-leb (moment_of a s.due.0) m h.2
      go false false a h = down m h

  -- a pending moment lies ahead, dated n at most
  pub timed_ahead : (s : Timer) (m : ℕ) → Timed g E n s m → Up s.waiting → (m < moment_of s.at s.due.0) × (s.due.0 ≤ n)
  timed_ahead s m h w = go s.level (subst (λ (x : Bool). TimedBy g E n s.level x s.at s.due.0 m) w h)
    where
      go : (l : Bool) → TimedBy g E n l true s.at s.due.0 m → (m < moment_of s.at s.due.0) × (s.due.0 ≤ n)
      go true h = absurd h
      go false h = (h.2, h.3)

  -- while the input stands still and the pending moment lies ahead, so does the state
  pub timed_still : (s : Timer) (m k : ℕ) → m ≤ k → ((t : ℕ) → m ≤ t → t ≤ k → g t ≡ g m)
      → (Up s.waiting → k < moment_of s.at s.due.0) → Timed g E n s m → Timed g E n s k
  timed_still s m k l still ahead h = go s.level s.waiting s.at ahead h
    where
      ups : Up (g m) → (t : ℕ) → m ≤ t → t ≤ k → Up (g t)
      ups u t a b = still t a b ∙ u

      go : (l w a : Bool) → (Up w → k < moment_of a s.due.0) → TimedBy g E n l w a s.due.0 m → TimedBy g E n l w a s.due.0 k
      go true true a ahead h = h
      go true false a ahead h =
          (ups h.0 k l (omega arith), run_up g E m k l (run_later g E m m k l (ups h.0) h.1))
      go false true a ahead h =
          (ups h.0 k l (omega arith), run_later g E (moment_of a s.due.0) m k l (ups h.0) h.1, ahead refl, h.3)
      go false false a ahead h = still k l (omega arith) ∙ h

  -- a waiting delay at the moment k of a date: its change is made if it has come
  pub timed_risen : (s : Timer) (date : ℕ) (at : Bool) (k : ℕ) → k ≡ moment_of at date → (Up at → 1 ≤ date) → Down s.level
      → Up s.waiting
      → Up (g k) → Run g E (moment_of s.at s.due.0) k → date ≤ s.due.0 → s.due.0 ≤ n → Timed g E n (risen s date at) k
  unfolding risen
  timed_risen s date at k here one low waits up run l bound = go (reached s date at) refl
    where
      go : (b : Bool) → reached s date at ≡ b → Timed g E n (cond b (timer true false date at) s) k
      go true e = (up, run_up g E (moment_of s.at s.due.0) k (rw here (reached_by s date at e)) run)
      go false e =
          subst
          (λ (x : Bool). TimedBy g E n x s.waiting s.at s.due.0 k)
          (sym low)
          (subst
          (λ (x : Bool). TimedBy g E n false x s.at s.due.0 k)
          (sym waits)
          (up, run, rw here (not_reached s date at e l one), bound))

module _ (waits : Bool) (d : ℕ) (g : Signal) (n : ℕ) (short : d ≤ M) where
  pub pending_is : (date : ℕ) (at : Bool) → date ≤ M → pending date at d ≡ timer false true (date + d) at
  unfolding pending
  pending_is date at h = ap (λ (x : ℕ). timer false true x at) (sum_exact date d h short)

  -- a run that begins at the moment k of a date, or in gap 0
  begun_run : (date : ℕ) (at : Bool) (from : ℕ) (pat : Bool) (k : ℕ) → k ≡ moment_of at date → (Up at → 1 ≤ date) → date ≤ M → date + d ≤ n
      → Up (g k) → Run g (delayed waits d g) from k → from ≡ moment_of pat (date + d)
      → Timed g (delayed waits d g) n (risen (pending date pat d) date at) k
  begun_run date at from pat k here one low bound up run e =
      subst
      (λ (s : Timer). Timed g (delayed waits d g) n (risen s date at) k)
      (sym (pending_is date pat low))
      (timed_risen g (delayed waits d g) n (timer false true (date + d) pat) date at k here one refl refl up
      (subst (λ (x : ℕ). Run g (delayed waits d g) x k) e run) (omega arith) bound)

  -- in gap 0
  pub timed_first : d ≤ n → (value : Bool) → g 0 ≡ value → Timed g (delayed waits d g) n (first_timer waits d value) 0
  unfolding first_timer
  timed_first bound true e = go waits refl
    where
      run : (w : Bool) → waits ≡ w → Run g (delayed waits d g) (cond w (instant d) 0) 0
      run w q = subst (λ (x : Bool). Run g (delayed waits d g) (cond x (instant d) 0) 0) q (run_first waits d g)

      go : (w : Bool) → waits ≡ w → Timed g (delayed waits d g) n (cond w (risen (pending 0 true d) 0 false) (timer true false 0 true)) 0
      go true q = begun_run 0 false (instant d) true 0 refl (λ u. not_both_lem u refl) (omega arith) (omega arith) e (run true q)
          (omega arith)
      go false q = (e, run false q)
  timed_first bound false e = e

  -- from moment m to the next, the instant of a date or the gap after it
  pub timed_next : (s : Timer) (m date : ℕ) (at value : Bool) → m + 1 ≡ moment_of at date → (Up at → 1 ≤ date) → g (m + 1) ≡ value
      → (Up s.waiting → date ≤ s.due.0)
      → (Down (g m) → Up (g (m + 1)) → (date ≤ M) × (date + d ≤ n)) → Timed g (delayed waits d g) n s m
      → Timed g (delayed waits d g) n (timer_next s d date at value) (m + 1)
  timed_next s m date at value here one is ahead new h = go value s.level s.waiting refl refl refl
    where
      known : (l w : Bool) → s.level ≡ l → s.waiting ≡ w → TimedBy g (delayed waits d g) n l w s.at s.due.0 m
      known l w p q =
          subst
          (λ (x : Bool). TimedBy g (delayed waits d g) n l x s.at s.due.0 m)
          q
          (subst (λ (x : Bool). TimedBy g (delayed waits d g) n x s.waiting s.at s.due.0 m) p h)

      both : Up (g m) → Up (g (m + 1)) → (t : ℕ) → m ≤ t → t ≤ m + 1 → Up (g t)
      both u v t a b = go (eqb t m) refl
        where
          go : (q : Bool) → eqb t m ≡ q → Up (g t)
          go true q = rw (eqb-true t m q) u
          go false q =
              let e : t ≡ m + 1 = omega (arith, eqb-false t m q) in
              rw e v

      later : (from : ℕ) → Up (g m) → Up (g (m + 1)) → Run g (delayed waits d g) from m → Run g (delayed waits d g) from (m + 1)
      later from u v run = run_later g (delayed waits d g) from m (m + 1) (omega arith) (both u v) run

      begins : m + 1 + 2 * d ≡ moment_of at (date + d)
      begins = shift at here one
        where
          shift : (a : Bool) → m + 1 ≡ moment_of a date → (Up a → 1 ≤ date) → m + 1 + 2 * d ≡ moment_of a (date + d)
          shift true e one = omega (arith, one refl)
          shift false e one = omega arith

      go : (v l w : Bool) → value ≡ v → s.level ≡ l → s.waiting ≡ w → Timed g (delayed waits d g) n (timer_next s d date at value) (m + 1)
      go false l w e p q =
          subst (λ (x : Timer). Timed g (delayed waits d g) n x (m + 1)) (sym (next_down s d date at value e)) (is ∙ e)
      go true true true e p q = absurd (known true true p q)
      go true true false e p q =
          let k = known true false p q in
          subst
          (λ (x : Timer). Timed g (delayed waits d g) n x (m + 1))
          (sym (next_up s d date at value e p))
          (subst
          (λ (x : Bool). TimedBy g (delayed waits d g) n x s.waiting s.at s.due.0 (m + 1))
          (sym p)
          (subst
          (λ (x : Bool). TimedBy g (delayed waits d g) n true x s.at s.due.0 (m + 1))
          (sym q)
          (is ∙ e, run_up g (delayed waits d g) m (m + 1) (omega arith) (later m k.0 (is ∙ e) k.1))))
      go true false true e p q =
          let k = known false true p q in
          subst
          (λ (x : Timer). Timed g (delayed waits d g) n x (m + 1))
          (sym (next_waiting s d date at value e p q))
          (timed_risen g (delayed waits d g) n s date at (m + 1) here one p q (is ∙ e)
          (later (moment_of s.at s.due.0) k.0 (is ∙ e) k.1) (ahead q) k.3)
      go true false false e p q =
          let k = known false false p q in
          let fits = new k (is ∙ e) in
          subst
          (λ (x : Timer). Timed g (delayed waits d g) n x (m + 1))
          (sym (next_new s d date at value e p q))
          (begun_run date at (m + 1 + 2 * d) at (m + 1) here one fits.0 fits.1 (is ∙ e) (run_after waits d g m k) begins)
