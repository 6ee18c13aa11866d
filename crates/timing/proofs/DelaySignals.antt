-- A delay of a signal: what it is while its input stays up, from the moment at which the run began; TON and TOF as such delays.
use Prim.Native.Nat.{ℕ, ◌+◌, ◌*◌, ◌≤◌}
use native.Mathlib.Omega.{arith}
use mathlib.Core.Path.{◌≡◌, refl, sym, ◌∙◌, fun_ext}
use mathlib.Core.Bool.{Bool, true, false, not, cond, ◌||◌}
use lib.Dec.{leb}
use borrow.Author.Tests.{leb-true, leb-false, le-leb}
use Rattle.signals.specs.Moment.{instant, started, from_to}
use Rattle.signals.specs.Signal.{Signal, implied, NOT, TON, TOF}
use Rattle.signals.specs.Quantified.{Up, Down, Started, FromTo}
use Rattle.signals.proofs.Truth.{bool_ext, not_both_lem, down_of, not_up, not_of, and_left, and_right, and_of, implied_use}
use Rattle.signals.proofs.Truth.{implied_of, every_up, every_of}
use Rattle.signals.proofs.Agreement.{started_up, started_of, from_to_up, from_to_of, TOF_up, TOF_of}
use Rattle.timing.specs.Delay.{throughout, delayed, level_of, delay_of}

-- the delay with real quantifiers
abbrev pub UpDelayed : Bool → ℕ → Signal → ℕ → Type 0
UpDelayed waits d g t = (Up waits → Started d t) × ((t1 : ℕ) → FromTo d t t1 → Up (g t1))

pub delayed_up : (waits : Bool) (d : ℕ) (g : Signal) (t : ℕ) → Up (delayed waits d g t) → UpDelayed waits d g t
unfolding delayed throughout
delayed_up waits d g t e = (
  λ w. started_up d t (implied_use waits (started d t) (and_left (not waits || started d t) (throughout d g t) e) w),
  λ t1 i.
      implied_use
      (from_to d t t1)
      (g t1)
      (every_up (λ t1. implied (from_to d t t1) (g t1)) t (and_right (not waits || started d t) (throughout d g t) e) t1 i.0)
      (from_to_of d t t1 i),
)

pub delayed_of : (waits : Bool) (d : ℕ) (g : Signal) (t : ℕ) → UpDelayed waits d g t → Up (delayed waits d g t)
unfolding delayed throughout
delayed_of waits d g t h =
    and_of
    (not waits || started d t)
    (throughout d g t)
    (implied_of waits (started d t) (λ w. started_of d t (h.0 w)))
    (every_of
    (λ t1. implied (from_to d t t1) (g t1))
    t
    (λ t1 l. implied_of (from_to d t t1) (g t1) (λ u. h.1 t1 (from_to_up d t t1 u))))

-- as long as g stays up from moment m on, E is up from the moment `from` on
abbrev pub Run : Signal → Signal → ℕ → ℕ → Type 0
Run g E from m = (n : ℕ) → m ≤ n → ((t : ℕ) → m ≤ t → t ≤ n → Up (g t)) → E n ≡ leb from n

module _ (waits : Bool) (d : ℕ) (g : Signal) where
  -- down with its input
  pub delayed_down : (t : ℕ) → Down (g t) → Down (delayed waits d g t)
  delayed_down t e =
      down_of (delayed waits d g t) (λ u. not_both_lem ((delayed_up waits d g t u).1 t (omega arith, omega arith)) e)

  -- the run from gap 0: from instant d on when it waits, else at once
  pub run_first : Run g (delayed waits d g) (cond waits (instant d) 0) 0
  run_first n l up = go waits refl
    where
      go : (w : Bool) → waits ≡ w → delayed waits d g n ≡ leb (cond w (instant d) 0) n
      go true e =
          bool_ext
          (delayed waits d g n)
          (leb (instant d) n)
          (λ u. le-leb (instant d) n (let s = (delayed_up waits d g n u).0 e in omega arith))
          (λ u. delayed_of waits d g n (λ w. (let s = leb-true (instant d) n u in omega arith), λ t1 i. up t1 (omega arith) i.0))
      go false e =
          delayed_of waits d g n (λ w. not_both_lem w e, λ t1 i. up t1 (omega arith) i.0) ∙ sym (le-leb 0 n (omega arith))

  -- a run that begins after moment m: d ticks after it began
  pub run_after : (m : ℕ) → Down (g m) → Run g (delayed waits d g) (m + 1 + 2 * d) (m + 1)
  run_after m e n l up =
      bool_ext
      (delayed waits d g n)
      (leb (m + 1 + 2 * d) n)
      (λ u. late (leb (m + 1 + 2 * d) n) refl u)
      (λ u.
      let h = leb-true (m + 1 + 2 * d) n u in
      delayed_of waits d g n (λ w. omega arith, λ t1 i. up t1 (omega (arith, i.1)) i.0))
    where
      late : (b : Bool) → leb (m + 1 + 2 * d) n ≡ b → Up (delayed waits d g n) → Up b
      late true q u = refl
      late false q u =
          let h = leb-false (m + 1 + 2 * d) n q in
          not_both_lem ((delayed_up waits d g n u).1 m (omega arith, omega arith)) e

-- a run goes on, and may be said to begin where it has got to
pub run_later : (g E : Signal) (from m k : ℕ) → m ≤ k → ((t : ℕ) → m ≤ t → t ≤ k → Up (g t)) → Run g E from m → Run g E from k
run_later g E from m k l still run n h up = run n (omega arith) (λ t a b. go t a b (leb t k) refl)
  where
    go : (t : ℕ) → m ≤ t → t ≤ n → (b : Bool) → leb t k ≡ b → Up (g t)
    go t a b true q = still t a (leb-true t k q)
    go t a b false q = up t (omega (arith, leb-false t k q)) b

-- once up it is up as long as the run lasts
pub run_up : (g E : Signal) (from m : ℕ) → from ≤ m → Run g E from m → Run g E m m
run_up g E from m l run n h up = run n h up ∙ le-leb from n (omega arith) ∙ sym (le-leb m n h)

-- TON is the delay of the level up that waits from gap 0
pub ton_delay : (d : ℕ) → TON d ≡ delay_of true d
unfolding TON delay_of delayed throughout level_of
ton_delay d = refl

-- TOF is down as long as the delay of the level down, which does not wait, is up
pub tof_dual : (d : ℕ) (f : Signal) (t : ℕ) → TOF d f t ≡ not (delayed false d (NOT f) t)
unfolding NOT
tof_dual d f t = bool_ext (TOF d f t) (not (delayed false d (NOT f) t)) there back
  where
    there : Up (TOF d f t) → Up (not (delayed false d (NOT f) t))
    there u =
        let h = TOF_up d f t u in
        not_of (down_of (delayed false d (NOT f) t)
        (λ v. not_both_lem h.2 (not_up (f h.0) ((delayed_up false d (NOT f) t v).1 h.0 h.1))))

    back : Up (not (delayed false d (NOT f) t)) → Up (TOF d f t)
    back u = go (TOF d f t) refl
      where
        go : (b : Bool) → TOF d f t ≡ b → Up b
        go true e = refl
        go false e =
            not_both_lem
            (delayed_of false d (NOT f) t
            (λ w. not_both_lem w refl, λ t1 i. not_of (down_of (f t1) (λ v. not_both_lem (TOF_of d f t (t1, i, v)) e))))
            (not_up (delayed false d (NOT f) t) u)

pub tof_delay : (d : ℕ) → TOF d ≡ delay_of false d
unfolding delay_of level_of NOT
tof_delay d = fun_ext (λ f. fun_ext (λ t. tof_dual d f t))
