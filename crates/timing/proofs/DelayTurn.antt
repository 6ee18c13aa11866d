-- One date of a delay, from gap k to gap e: the state after it, and the values that the delay has on the way.
use Prim.Native.Nat.{ℕ, ◌+◌, ◌-◌, ◌≤◌, ◌<◌}
use native.Mathlib.Omega.{arith}
use mathlib.Core.Path.{◌≡◌, refl, sym, ◌∙◌, ap, subst}
use mathlib.Core.Bool.{Bool, true, false}
use lib.Dec.{ltb}
use borrow.Author.Tests.{ltb-true, ltb-false}
use Rattle.signals.specs.Moment.{M, gap, instant}
use Rattle.signals.specs.Signal.{Signal}
use Rattle.signals.specs.Settled.{SettledFrom}
use Rattle.signals.specs.Quantified.{Up, Down}
use Rattle.signals.proofs.Truth.{not_both_lem}
use Rattle.signals.proofs.Scan.{Held}
use Rattle.timing.specs.Delay.{timer_next, delayed}
use Rattle.timing.specs.declared.Timer.{Timer}
use Rattle.timing.proofs.DelaySignals.{delayed_down}
use Rattle.timing.proofs.DelayTiming.{moment_of, Timed, timed_value, timed_ahead, timed_still, timed_next}

module _ (waits : Bool) (d : ℕ) (g : Signal) (last n : ℕ) (short : d ≤ M) (early : last ≤ M) (far : last + d ≤ n)
    (settled : SettledFrom g last) where
  -- a run begins by the last date
  new_run : (m date : ℕ) (at : Bool) → m + 1 ≡ moment_of at date → Down (g m) → Up (g (m + 1)) → (date ≤ M) × (date + d ≤ n)
  new_run m date at here down up = go (ltb m (gap last)) refl
    where
      in_time : (a : Bool) → m + 1 ≡ moment_of a date → m < gap last → date ≤ last
      in_time true e h = omega arith
      in_time false e h = omega arith

      go : (b : Bool) → ltb m (gap last) ≡ b → (date ≤ M) × (date + d ≤ n)
      go true q = let h = in_time at here (ltb-true m (gap last) q) in omega arith
      go false q =
          let h = ltb-false m (gap last) q in
          not_both_lem up (settled (m + 1) (omega arith) ∙ sym (settled m h) ∙ down)

  module _ (s : Timer) (k e : ℕ) (v a b : Bool) (held : Held g k e v a b) (ahead : Up s.waiting → e ≤ s.due.0)
      (h : Timed g (delayed waits d g) n s (gap k)) where
    before_due : (t : ℕ) → t < instant e → Up s.waiting → t < moment_of s.at s.due.0
    before_due t l w = go s.at (ahead w)
      where
        go : (x : Bool) → e ≤ s.due.0 → t < moment_of x s.due.0
        go true q = omega arith
        go false q = omega arith

    timed_before : (t : ℕ) → gap k ≤ t → t < instant e → Timed g (delayed waits d g) n s t
    timed_before t l u =
        timed_still
        g
        (delayed waits d g)
        n
        s
        (gap k)
        t
        l
        (λ x p q. held.still x p (omega arith) ∙ sym (held.still (gap k) (omega arith) (omega arith)))
        (before_due t u)
        h

    one : 1 ≤ e
    one = omega (arith, held.later)

    pub timed_at : Timed g (delayed waits d g) n (timer_next s d e true a) (instant e)
    timed_at =
        let m : ℕ = instant e - 1 in
        let next : m + 1 ≡ instant e = omega (arith, one) in
        subst
        (λ (x : ℕ). Timed g (delayed waits d g) n (timer_next s d e true a) x)
        next
        (timed_next
        waits
        d
        g
        n
        short
        s
        m
        e
        true
        a
        next
        (λ u. one)
        (ap g next ∙ held.at)
        ahead
        (new_run m e true next)
        (timed_before m (omega (arith, held.later)) (omega (arith, one))))

    due_after : Up (timer_next s d e true a).waiting → e ≤ (timer_next s d e true a).due.0
    due_after w = go (timer_next s d e true a).at (timed_ahead g (delayed waits d g) n (timer_next s d e true a) (instant e) timed_at w).0
      where
        go : (x : Bool) → instant e < moment_of x (timer_next s d e true a).due.0 → e ≤ (timer_next s d e true a).due.0
        go true q = omega arith
        go false q = omega arith

    pub timed_after : Timed g (delayed waits d g) n (timer_next (timer_next s d e true a) d e false b) (gap e)
    timed_after =
        let next : instant e + 1 ≡ gap e = omega (arith, one) in
        subst
        (λ (x : ℕ). Timed g (delayed waits d g) n (timer_next (timer_next s d e true a) d e false b) x)
        next
        (timed_next
        waits
        d
        g
        n
        short
        (timer_next s d e true a)
        (instant e)
        e
        false
        b
        next
        (λ u. one)
        (ap g next ∙ held.after)
        due_after
        (new_run (instant e) e false next)
        timed_at)

    -- the delay holds its level up to the date, and has the two new ones there
    pub delay_held : Held (delayed waits d g) k e s.level (timer_next s d e true a).level
        (timer_next (timer_next s d e true a) d e false b).level
    delay_held =
        record {
          later = held.later;
          still = λ t l u. timed_value g (delayed waits d g) n (delayed_down waits d g) s t (timed_before t l u);
          at = timed_value g (delayed waits d g) n (delayed_down waits d g) (timer_next s d e true a) (instant e) timed_at;
          after = timed_value g (delayed waits d g) n (delayed_down waits d g) (timer_next (timer_next s d e true a) d e false b) (gap e)
              timed_after;
        }
