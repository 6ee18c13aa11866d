-- The operations that compute agree with their sentences; TP follows in `Pulses`. For each: `-up` reads the sentence off, `-of` makes the
-- signal up from it.
use Prim.Native.Nat.{ℕ, ◌+◌, ◌*◌, ◌≤◌, ◌<◌}
use native.Mathlib.Omega.{arith}
use mathlib.Core.Path.{◌≡◌, refl}
use mathlib.Core.Logic.{inl, inr, ⊎_elim}
use mathlib.Core.Bool.{Bool, true, false, not, ◌&&◌}
use lib.Dec.{leb}
use borrow.Author.Tests.{leb-true, leb-false, le-leb}
use Rattle.signals.specs.Moment.{is_gap, just_before, opens, in_open, in_closed, started, from_to}
use Rattle.signals.specs.Signal.{Signal, Table, implied, some, every, NOT, connective, AND, OR, rising, falling, SR, RS, TON, TOF}
use Rattle.signals.specs.Quantified.{Up, Down, InOpen, InClosed, Before, Started, FromTo, UpNOT, UpConnective, UpAND, UpOR, UpRising}
use Rattle.signals.specs.Quantified.{UpFalling, UpSR, UpRS, UpTON, UpTOF}
use Rattle.signals.proofs.Truth.{not_up, not_of, and_left, and_right, and_of, or_cases, or_left, or_right, implied_use, implied_of}
use Rattle.signals.proofs.Truth.{some_up, some_of, every_up, every_of}

-- the spans of moments
pub in_open_up : (t1 t n : ℕ) → Up (in_open t1 t n) → InOpen t1 t n
unfolding in_open
in_open_up t1 t n e =
    (leb-true (opens t1) n (and_left (leb (opens t1) n) (leb n t) e), leb-true n t (and_right (leb (opens t1) n) (leb n t) e))

pub in_open_of : (t1 t n : ℕ) → InOpen t1 t n → Up (in_open t1 t n)
unfolding in_open
in_open_of t1 t n h = and_of (leb (opens t1) n) (leb n t) (le-leb (opens t1) n h.0) (le-leb n t h.1)

pub in_closed_up : (t1 t n : ℕ) → Up (in_closed t1 t n) → InClosed t1 t n
unfolding in_closed
in_closed_up t1 t n e =
    (leb-true t1 n (and_left (leb t1 n) (leb n t) e), leb-true n t (and_right (leb t1 n) (leb n t) e))

pub in_closed_of : (t1 t n : ℕ) → InClosed t1 t n → Up (in_closed t1 t n)
unfolding in_closed
in_closed_of t1 t n h = and_of (leb t1 n) (leb n t) (le-leb t1 n h.0) (le-leb n t h.1)

pub started_up : (d t : ℕ) → Up (started d t) → Started d t
unfolding started
started_up d t e = leb-true (2 * d) (t + 1) e

pub started_of : (d t : ℕ) → Started d t → Up (started d t)
unfolding started
started_of d t h = le-leb (2 * d) (t + 1) h

pub from_to_up : (d t t1 : ℕ) → Up (from_to d t t1) → FromTo d t t1
unfolding from_to
from_to_up d t t1 e =
    (leb-true t1 t (and_left (leb t1 t) (leb t (t1 + 2 * d)) e), leb-true t (t1 + 2 * d) (and_right (leb t1 t) (leb t (t1 + 2 * d)) e))

pub from_to_of : (d t t1 : ℕ) → FromTo d t t1 → Up (from_to d t t1)
unfolding from_to
from_to_of d t t1 h = and_of (leb t1 t) (leb t (t1 + 2 * d)) (le-leb t1 t h.0) (le-leb t (t1 + 2 * d) h.1)

-- a moment lies at or before the one that its open span begins with
pub le_opens : (t1 t : ℕ) → Before t1 t → t1 ≤ t
unfolding opens
le_opens t1 t h = omega arith

-- NOT, the connectives, AND and OR
pub NOT_up : (f : Signal) (t : ℕ) → Up (NOT f t) → UpNOT f t
unfolding NOT
NOT_up f t e = not_up (f t) e

pub NOT_of : (f : Signal) (t : ℕ) → UpNOT f t → Up (NOT f t)
unfolding NOT
NOT_of f t e = not_of e

pub connective_up : (table : Table) (f g : Signal) (t : ℕ) → Up (connective table f g t) → UpConnective table f g t
unfolding connective
connective_up table f g t e p q a b = rw (← a, ← b) e

pub connective_of : (table : Table) (f g : Signal) (t : ℕ) → UpConnective table f g t → Up (connective table f g t)
unfolding connective
connective_of table f g t h = h (f t) (g t) refl refl

pub AND_up : (f g : Signal) (t : ℕ) → Up (AND f g t) → UpAND f g t
unfolding AND
AND_up f g t e = (and_left (f t) (g t) e, and_right (f t) (g t) e)

pub AND_of : (f g : Signal) (t : ℕ) → UpAND f g t → Up (AND f g t)
unfolding AND
AND_of f g t h = and_of (f t) (g t) h.0 h.1

pub OR_up : (f g : Signal) (t : ℕ) → Up (OR f g t) → UpOR f g t
unfolding OR
OR_up f g t e = or_cases (f t) (g t) e

pub OR_of : (f g : Signal) (t : ℕ) → UpOR f g t → Up (OR f g t)
unfolding OR
OR_of f g t (inl a) = or_left (f t) (g t) a
OR_of f g t (inr b) = or_right (f t) (g t) b

-- edges
pub rising_up : (f : Signal) (t : ℕ) → Up (rising f t) → UpRising f t
unfolding rising
rising_up f t e =
    let w : Up (f t && not (f (just_before t))) = and_right (not (is_gap t)) (f t && not (f (just_before t))) e in (
      not_up (is_gap t) (and_left (not (is_gap t)) (f t && not (f (just_before t))) e),
      and_left (f t) (not (f (just_before t))) w,
      not_up (f (just_before t)) (and_right (f t) (not (f (just_before t))) w),
    )

pub rising_of : (f : Signal) (t : ℕ) → UpRising f t → Up (rising f t)
unfolding rising
rising_of f t h =
    and_of
    (not (is_gap t))
    (f t && not (f (just_before t)))
    (not_of h.0)
    (and_of (f t) (not (f (just_before t))) h.1 (not_of h.2))

pub falling_up : (f : Signal) (t : ℕ) → Up (falling f t) → UpFalling f t
unfolding falling
falling_up f t e =
    let w : Up (not (f t) && f (just_before t)) = and_right (not (is_gap t)) (not (f t) && f (just_before t)) e in (
      not_up (is_gap t) (and_left (not (is_gap t)) (not (f t) && f (just_before t)) e),
      not_up (f t) (and_left (not (f t)) (f (just_before t)) w),
      and_right (not (f t)) (f (just_before t)) w,
    )

pub falling_of : (f : Signal) (t : ℕ) → UpFalling f t → Up (falling f t)
unfolding falling
falling_of f t h =
    and_of
    (not (is_gap t))
    (not (f t) && f (just_before t))
    (not_of h.0)
    (and_of (not (f t)) (f (just_before t)) (not_of h.1) h.2)

-- SR and RS: a moment of s before t whose span, given by a test, has no r
abbrev Held : (ℕ → ℕ → Bool) → Signal → Signal → ℕ → Type 0
Held span s r t = (t1 : ℕ) × Before t1 t × Up (s t1) × ((n : ℕ) → n ≤ t → Up (span t1 n) → Down (r n))

abbrev held : (ℕ → ℕ → Bool) → Signal → Signal → ℕ → ℕ → Bool
held span s r t t1 = leb (opens t1) t && (s t1 && every (λ n. implied (span t1 n) (not (r n))) t)

held_up : (span : ℕ → ℕ → Bool) (s r : Signal) (t : ℕ) → Up (some (held span s r t) t) → Held span s r t
held_up span s r t e =
    let (t1, l, w) = some_up (held span s r t) t e in
    let v : Bool = every (λ n. implied (span t1 n) (not (r n))) t in
    let w2 : Up (s t1 && v) = and_right (leb (opens t1) t) (s t1 && v) w in (
      t1,
      leb-true (opens t1) t (and_left (leb (opens t1) t) (s t1 && v) w),
      and_left (s t1) v w2,
      λ n l m. not_up (r n)
          (implied_use (span t1 n) (not (r n)) (every_up (λ n. implied (span t1 n) (not (r n))) t (and_right (s t1) v w2) n l) m),
    )

held_of : (span : ℕ → ℕ → Bool) (s r : Signal) (t : ℕ) → Held span s r t → Up (some (held span s r t) t)
held_of span s r t h =
    let t1 : ℕ = h.0 in
    let v : Bool = every (λ n. implied (span t1 n) (not (r n))) t in
    some_of
    (held span s r t)
    t
    t1
    (le_opens t1 t h.1)
    (and_of
    (leb (opens t1) t)
    (s t1 && v)
    (le-leb (opens t1) t h.1)
    (and_of
    (s t1)
    v
    h.2
    (every_of
    (λ n. implied (span t1 n) (not (r n)))
    t
    (λ n l. implied_of (span t1 n) (not (r n)) (λ u. not_of (h.3 n l u))))))

pub SR_up : (s r : Signal) (t : ℕ) → Up (SR s r t) → UpSR s r t
unfolding SR
SR_up s r t e =
    ⊎_elim
    (λ a. inl a)
    (λ b.
    let w : Held (λ t1 n. in_open t1 t n) s r t = held_up (λ t1 n. in_open t1 t n) s r t b in
    inr (w.0, w.1, w.2, λ n i. w.3 n i.1 (in_open_of w.0 t n i)))
    (or_cases (s t) (some (held (λ t1 n. in_open t1 t n) s r t) t) e)

pub SR_of : (s r : Signal) (t : ℕ) → UpSR s r t → Up (SR s r t)
unfolding SR
SR_of s r t (inl a) = or_left (s t) (some (held (λ t1 n. in_open t1 t n) s r t) t) a
SR_of s r t (inr h) =
    or_right
    (s t)
    (some (held (λ t1 n. in_open t1 t n) s r t) t)
    (held_of (λ t1 n. in_open t1 t n) s r t (h.0, h.1, h.2, λ n l i. h.3 n (in_open_up h.0 t n i)))

pub RS_up : (s r : Signal) (t : ℕ) → Up (RS s r t) → UpRS s r t
unfolding RS
RS_up s r t e =
    ⊎_elim
    (λ a. inl (and_left (s t) (not (r t)) a, not_up (r t) (and_right (s t) (not (r t)) a)))
    (λ b.
    let w : Held (λ t1 n. in_closed t1 t n) s r t = held_up (λ t1 n. in_closed t1 t n) s r t b in
    inr (w.0, w.1, w.2, λ n i. w.3 n i.1 (in_closed_of w.0 t n i)))
    (or_cases (s t && not (r t)) (some (held (λ t1 n. in_closed t1 t n) s r t) t) e)

pub RS_of : (s r : Signal) (t : ℕ) → UpRS s r t → Up (RS s r t)
unfolding RS
RS_of s r t (inl a) =
    or_left
    (s t && not (r t))
    (some (held (λ t1 n. in_closed t1 t n) s r t) t)
    (and_of (s t) (not (r t)) a.0 (not_of a.1))
RS_of s r t (inr h) =
    or_right
    (s t && not (r t))
    (some (held (λ t1 n. in_closed t1 t n) s r t) t)
    (held_of (λ t1 n. in_closed t1 t n) s r t (h.0, h.1, h.2, λ n l i. h.3 n (in_closed_up h.0 t n i)))

-- RS with one quantifier: some t1 ≤ t has s(t1) and r is down on all of [t1,t]
abbrev pub OneRS : Signal → Signal → ℕ → Type 0
OneRS s r t = (t1 : ℕ) × (t1 ≤ t) × Up (s t1) × ((n : ℕ) → t1 ≤ n → n ≤ t → Down (r n))

pub RS_up1 : (s r : Signal) (t : ℕ) → Up (RS s r t) → OneRS s r t
RS_up1 s r t e =
    ⊎_elim
    (λ a. (t, omega arith, a.0, λ n l m. let q : n ≡ t = omega arith in rw q a.1))
    (λ h. (h.0, le_opens h.0 t h.1, h.2, λ n l m. h.3 n (l, m)))
    (RS_up s r t e)

-- a moment at or before t with nothing of it before t is t's own
same : (t1 t : ℕ) → t1 ≤ t → t < opens t1 → t1 ≡ t
unfolding opens
same t1 t l h = omega arith

pub RS_of1 : (s r : Signal) (t : ℕ) → OneRS s r t → Up (RS s r t)
RS_of1 s r t h = go (leb (opens h.0) t) refl
  where
    go : (b : Bool) → leb (opens h.0) t ≡ b → Up (RS s r t)
    go true e = RS_of s r t (inr (h.0, leb-true (opens h.0) t e, h.2, λ n i. h.3 n i.0 i.1))
    go false e =
        let q : h.0 ≡ t = same h.0 t h.1 (leb-false (opens h.0) t e) in
        RS_of s r t (inl (rw (← q) h.2, h.3 t h.1 (omega arith)))

-- timers
pub TON_up : (d : ℕ) (f : Signal) (t : ℕ) → Up (TON d f t) → UpTON d f t
unfolding TON
TON_up d f t e =
    let v : Bool = every (λ t1. implied (from_to d t t1) (f t1)) t in (
      started_up d t (and_left (started d t) v e),
      λ t1 i.
          implied_use
          (from_to d t t1)
          (f t1)
          (every_up (λ t1. implied (from_to d t t1) (f t1)) t (and_right (started d t) v e) t1 i.0)
          (from_to_of d t t1 i),
    )

pub TON_of : (d : ℕ) (f : Signal) (t : ℕ) → UpTON d f t → Up (TON d f t)
unfolding TON
TON_of d f t h =
    and_of
    (started d t)
    (every (λ t1. implied (from_to d t t1) (f t1)) t)
    (started_of d t h.0)
    (every_of
    (λ t1. implied (from_to d t t1) (f t1))
    t
    (λ t1 l. implied_of (from_to d t t1) (f t1) (λ u. h.1 t1 (from_to_up d t t1 u))))

pub TOF_up : (d : ℕ) (f : Signal) (t : ℕ) → Up (TOF d f t) → UpTOF d f t
unfolding TOF
TOF_up d f t e =
    let (t1, l, w) = some_up (λ t1. from_to d t t1 && f t1) t e in
    (t1, from_to_up d t t1 (and_left (from_to d t t1) (f t1) w), and_right (from_to d t t1) (f t1) w)

pub TOF_of : (d : ℕ) (f : Signal) (t : ℕ) → UpTOF d f t → Up (TOF d f t)
unfolding TOF
TOF_of d f t h =
    some_of
    (λ t1. from_to d t t1 && f t1)
    t
    h.0
    h.1.0
    (and_of (from_to d t h.0) (f h.0) (from_to_of d t h.0 h.1) h.2)
