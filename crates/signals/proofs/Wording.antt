-- The numbers of moments say what document 01 says of instants and gaps.
use Prim.Native.Nat.{ℕ, ◌+◌, ◌*◌, ◌-◌, ◌/◌, ◌%◌, ◌≤◌, ◌<◌}
use native.Mathlib.Omega.{arith}
use mathlib.Core.Path.{◌≡◌, refl, sym}
use mathlib.Core.Logic.{◌⊎◌, inl, inr, ⊎_elim, ◌≢◌}
use mathlib.Core.Bool.{Bool, true, false}
use lib.Dec.{leb}
use borrow.Author.Tests.{leb-true, leb-false, eqb-true, eqb-false, eq-eqb, ne_eqb}
use Rattle.signals.specs.Moment.{gap, instant, is_gap, tick, just_before, opens}
use Rattle.signals.specs.Quantified.{Up, Down}
use Rattle.signals.specs.Wording.{IsGap, IsInstant, Moments, Spans, Tests, Wording}
use Rattle.signals.proofs.Agreement as agreement

-- the test for a gap
pub is_gap_up : (t : ℕ) → Up (is_gap t) → IsGap t
unfolding is_gap
is_gap_up t e = let h : t % 2 ≡ 0 = eqb-true (t % 2) 0 e in (t / 2, omega arith)

pub is_gap_of : (t : ℕ) → IsGap t → Up (is_gap t)
unfolding is_gap
is_gap_of t g = eq-eqb (t % 2) 0 (odd g.0 g.1)
  where
    odd : (k : ℕ) → t ≡ 2 * k → t % 2 ≡ 0
    odd k e = omega arith

pub is_instant_up : (t : ℕ) → Down (is_gap t) → IsInstant t
unfolding is_gap
is_instant_up t e =
    let h : t % 2 ≢ 0 = eqb-false (t % 2) 0 e in
    ((t + 1) / 2, omega arith, omega arith)

pub is_instant_of : (t : ℕ) → IsInstant t → Down (is_gap t)
unfolding is_gap
is_instant_of t g = ne_eqb (t % 2) 0 (even g.0 g.1 g.2)
  where
    even : (k : ℕ) → 1 ≤ k → t ≡ 2 * k - 1 → t % 2 ≡ 0 → ⊥
    even k l e q = omega arith

pub either : (t : ℕ) → IsGap t ⊎ IsInstant t
either t = go (is_gap t) refl
  where
    go : (b : Bool) → is_gap t ≡ b → IsGap t ⊎ IsInstant t
    go true e = inl (is_gap_up t e)
    go false e = inr (is_instant_up t e)

pub is_gap_gap : (k : ℕ) → Up (is_gap (gap k))
is_gap_gap k = is_gap_of (gap k) (k, refl)

pub is_gap_instant : (k : ℕ) → 1 ≤ k → Down (is_gap (instant k))
is_gap_instant k l = is_instant_of (instant k) (k, l, refl)

pub tick_gap : (k : ℕ) → tick (gap k) ≡ k
unfolding tick
tick_gap k = omega arith

pub tick_instant : (k : ℕ) → 1 ≤ k → tick (instant k) ≡ k
unfolding tick
tick_instant k l = omega arith

pub just_before_instant : (k : ℕ) → 1 ≤ k → just_before (instant k) ≡ gap (k - 1)
unfolding just_before
just_before_instant k l = omega arith

pub moments : Moments
moments =
    record {
      either = either;
      not_both = λ t g i. apart t g.0 i.0 g.1 i.1 i.2;
      one_gap = λ j k e. omega arith;
      one_instant = λ j k l m e. omega arith;
      first = refl;
      instant_next = λ k. omega arith;
      gap_next = λ k. omega arith;
      gap_below = λ k. omega arith;
      instant_below = λ k. omega arith;
      gap_told = λ t. (is_gap_up t, is_gap_of t);
      instant_told = λ t. (is_instant_up t, is_instant_of t);
      gap_tick = tick_gap;
      instant_tick = tick_instant;
    }
  where
    apart : (t j k : ℕ) → t ≡ 2 * j → 1 ≤ k → t ≡ 2 * k - 1 → ⊥
    apart t j k e l q = omega arith

-- where a span opens: at the moment itself when it is a gap, else after it
pub opens_gap : (t : ℕ) → IsGap t → opens t ≡ t
unfolding opens
opens_gap t g = go g.0 g.1
  where
    go : (k : ℕ) → t ≡ 2 * k → opens t ≡ t
    go k e = omega arith

pub opens_instant : (t : ℕ) → IsInstant t → opens t ≡ t + 1
unfolding opens
opens_instant t g = go g.0 g.1 g.2
  where
    go : (k : ℕ) → 1 ≤ k → t ≡ 2 * k - 1 → opens t ≡ t + 1
    go k l e = omega arith

-- at or after t1 is after it or it
pub split : (t1 n : ℕ) → t1 ≤ n → (t1 < n) ⊎ (n ≡ t1)
split t1 n l = go (leb n t1) refl
  where
    go : (b : Bool) → leb n t1 ≡ b → (t1 < n) ⊎ (n ≡ t1)
    go true e = inr (omega (arith, leb-true n t1 e))
    go false e = inl (omega (arith, leb-false n t1 e))

-- at or after the opening of t1 is after t1, or t1 itself and a gap
pub opens_up : (t1 n : ℕ) → opens t1 ≤ n → (t1 < n) ⊎ ((n ≡ t1) × IsGap t1)
opens_up t1 n l = ⊎_elim gapped (λ i. inl (omega (arith, opens_instant t1 i))) (either t1)
  where
    gapped : IsGap t1 → (t1 < n) ⊎ ((n ≡ t1) × IsGap t1)
    gapped g = ⊎_elim (λ m. inl m) (λ e. inr (e, g)) (split t1 n (omega (arith, opens_gap t1 g)))

pub opens_of : (t1 n : ℕ) → (t1 < n) ⊎ ((n ≡ t1) × IsGap t1) → opens t1 ≤ n
unfolding opens
opens_of t1 n (inl l) = omega arith
opens_of t1 n (inr h) = omega (arith, opens_gap t1 h.1)

pub spans : Spans
spans =
    record {
      previous = just_before_instant;
      open_span = λ t1 t n. (
        λ i. ⊎_elim (λ l. inl (l, i.1)) (λ e. inr (e.0, e.1, omega arith)) (opens_up t1 n i.0),
        ⊎_elim
            (λ l. (opens_of t1 n (inl l.0), l.1))
            (λ h. (opens_of t1 n (inr (h.0, h.1)), omega arith)),
      );
      closed_span = λ t1 t n. (
        λ i. ⊎_elim (λ l. inl (l, i.1)) (λ e. inr (e, omega arith)) (split t1 n i.0),
        ⊎_elim (λ l. (omega arith, l.1)) (λ h. (omega arith, omega arith)),
      );
      before = λ t1 t. (
        λ l. ⊎_elim (λ m. inl m) (λ e. inr (sym e.0, e.1)) (opens_up t1 t l),
        λ h. opens_of t1 t (⊎_elim (λ m. inl m) (λ e. inr (sym e.0, e.1)) h),
      );
      started_instant = λ d k l. omega arith;
      started_gap = λ d k. omega arith;
      instant_instants = λ d k j l m. omega arith;
      instant_gaps = λ d k j l. omega arith;
      gap_gaps = λ d k j. omega arith;
      gap_instants = λ d k j l. omega arith;
    }

pub tests : Tests
tests =
    record {
      open_span = λ t1 t n. (agreement.in_open_up t1 t n, agreement.in_open_of t1 t n);
      closed_span = λ t1 t n. (agreement.in_closed_up t1 t n, agreement.in_closed_of t1 t n);
      started_test = λ d t. (agreement.started_up d t, agreement.started_of d t);
      from_to_test = λ d t t1. (agreement.from_to_up d t t1, agreement.from_to_of d t t1);
    }

pub wording : Wording
wording = record { moments = moments; spans = spans; tests = tests }
