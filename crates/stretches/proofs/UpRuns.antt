-- Runs of up gaps: how long one lasts from a gap on, and where the run that a gap is in begins.
use Prim.Native.Nat.{ℕ, zero, suc, ◌+◌, ◌-◌, ◌≤◌, ◌<◌}
use native.Mathlib.Omega.{arith}
use mathlib.Core.Path.{◌≡◌, refl, subst}
use mathlib.Core.Bool.{Bool, true, false, not, cond, ◌&&◌}
use mathlib.Core.Logic.{◌⊎◌, inl, inr}
use Rattle.signals.specs.Moment.{gap}
use Rattle.signals.specs.Signal.{Signal}
use Rattle.signals.specs.Quantified.{Up, Down}
use Rattle.signals.proofs.Truth.{at_or_after, and_left, and_right, and_of, not_up, not_of, not_both_lem}
use Rattle.stretches.specs.Stretches.{begins, up_for}

-- the gap that begins a stretch is up, and the one before it is down
pub begins_up : (f : Signal) (k : ℕ) → Up (begins f k) → Up (f (gap k))
unfolding begins
begins_up f zero e = e
begins_up f (suc k) e = and_left (f (gap (suc k))) _ e

pub begins_down : (f : Signal) (k : ℕ) → Up (begins f (suc k)) → Down (f (gap k))
unfolding begins
begins_down f k e = not_up (f (gap k)) (and_right (f (gap (suc k))) (not (f (gap k))) e)

-- after a gap that is down, a gap begins a stretch exactly where it is up
pub begins_of : (f : Signal) (k : ℕ) → 1 ≤ k → Down (f (gap (k - 1))) → begins f k ≡ f (gap k)
unfolding begins
begins_of f zero l d = absurd (omega arith)
begins_of f (suc k) l d =
    let e : suc k - 1 ≡ k = omega arith in
    go (f (gap (suc k))) (f (gap k)) (subst (λ (i : ℕ). Down (f (gap i))) e d)
  where
    go : (a b : Bool) → Down b → a && not b ≡ a
    go true b d = not_of d
    go false b d = refl

-- the gaps from a to k are up
abbrev pub UpFrom : Signal → ℕ → ℕ → Type 0
UpFrom f a k = (j : ℕ) → a ≤ j → j ≤ k → Up (f (gap j))

-- of n gaps no more than n are counted
pub up_for_most : (f : Signal) (k n : ℕ) → up_for f k n ≤ n
unfolding up_for
up_for_most f k zero = omega arith
up_for_most f k (suc n) = go (f (gap k)) (up_for_most f (suc k) n)
  where
    go : (b : Bool) → up_for f (suc k) n ≤ n → cond b (suc (up_for f (suc k) n)) 0 ≤ suc n
    go true h = omega (arith, h)
    go false h = omega arith

-- those counted are up
pub up_for_up : (f : Signal) (k n j : ℕ) → k ≤ j → j < k + up_for f k n → Up (f (gap j))
unfolding up_for
up_for_up f k zero j a b = absurd (omega arith)
up_for_up f k (suc n) j a b = go (f (gap k)) refl b (up_for_up f (suc k) n j) (at_or_after (suc k) j)
  where
    go : (v : Bool) → f (gap k) ≡ v → j < k + cond v (suc (up_for f (suc k) n)) 0
        → (suc k ≤ j → j < suc k + up_for f (suc k) n → Up (f (gap j))) → (suc k ≤ j) ⊎ (j < suc k) → Up (f (gap j))
    go false e h r c = absurd (omega (arith, h))
    go true e h r (inl l) = r l (omega (arith, h))
    go true e h r (inr l) = let q : k ≡ j = omega (arith, l) in subst (λ (i : ℕ). Up (f (gap i))) q e

-- and the gap after them is down, where it is one of the n
pub up_for_ends : (f : Signal) (k n : ℕ) → up_for f k n < n → Down (f (gap (k + up_for f k n)))
unfolding up_for
up_for_ends f k zero h = absurd (omega arith)
up_for_ends f k (suc n) h = go (f (gap k)) refl h (up_for_ends f (suc k) n)
  where
    go : (v : Bool) → f (gap k) ≡ v → cond v (suc (up_for f (suc k) n)) 0 < suc n
        → (up_for f (suc k) n < n → Down (f (gap (suc k + up_for f (suc k) n))))
        → Down (f (gap (k + cond v (suc (up_for f (suc k) n)) 0)))
    go false e l r = let q : k ≡ k + 0 = omega arith in subst (λ (i : ℕ). Down (f (gap i))) q e
    go true e l r =
        let q : suc k + up_for f (suc k) n ≡ k + suc (up_for f (suc k) n) = omega arith in
        subst (λ (i : ℕ). Down (f (gap i))) q (r (omega (arith, l)))

-- as many are counted as are up in a row, if one that is down follows or the n end
pub up_for_is : (f : Signal) (k n m : ℕ) → ((j : ℕ) → k ≤ j → j < k + m → Up (f (gap j))) → m ≤ n → (m < n → Down (f (gap (k + m))))
    → up_for f k n ≡ m
up_for_is f k n m u l d = go (at_or_after (up_for f k n) m) (at_or_after m (up_for f k n))
  where
    go : (up_for f k n ≤ m) ⊎ (m < up_for f k n) → (m ≤ up_for f k n) ⊎ (up_for f k n < m) → up_for f k n ≡ m
    go (inl a) (inl b) = omega (arith, a, b)
    go (inr a) b = not_both_lem (up_for_up f k n (k + m) (omega arith) (omega (arith, a))) (d (omega (arith, a, up_for_most f k n)))
    go (inl a) (inr b) = not_both_lem (u (k + up_for f k n) (omega arith) (omega (arith, b))) (up_for_ends f k n (omega (arith, b, l)))

-- the first gap of the run of up gaps that gap k is in
pub back : Signal → ℕ → ℕ
back f zero = 0
back f (suc k) = cond (f (gap k)) (back f k) (suc k)

pub back_most : (f : Signal) (k : ℕ) → back f k ≤ k
unfolding back
back_most f zero = omega arith
back_most f (suc k) = go (f (gap k)) (back_most f k)
  where
    go : (b : Bool) → back f k ≤ k → cond b (back f k) (suc k) ≤ suc k
    go true h = omega (arith, h)
    go false h = omega arith

pub back_begins : (f : Signal) (k : ℕ) → Up (f (gap k)) → Up (begins f (back f k))
unfolding back begins
back_begins f zero u = u
back_begins f (suc k) u = go (f (gap k)) refl (back_begins f k)
  where
    go : (b : Bool) → f (gap k) ≡ b → (Up (f (gap k)) → Up (begins f (back f k))) → Up (begins f (cond b (back f k) (suc k)))
    go true e r = r e
    go false e r = and_of (f (gap (suc k))) (not (f (gap k))) u (not_of e)

pub back_up : (f : Signal) (k : ℕ) → Up (f (gap k)) → UpFrom f (back f k) k
unfolding back
back_up f zero u j a b = let q : 0 ≡ j = omega arith in subst (λ (i : ℕ). Up (f (gap i))) q u
back_up f (suc k) u j a b = go (f (gap k)) refl a (λ e. back_up f k e j) (at_or_after j k)
  where
    here : k < j → Up (f (gap j))
    here l = let q : suc k ≡ j = omega (arith, l) in subst (λ (i : ℕ). Up (f (gap i))) q u

    go : (v : Bool) → f (gap k) ≡ v → cond v (back f k) (suc k) ≤ j → (Up (f (gap k)) → back f k ≤ j → j ≤ k → Up (f (gap j)))
        → (j ≤ k) ⊎ (k < j) → Up (f (gap j))
    go true e h r (inl l) = r e h l
    go true e h r (inr l) = here l
    go false e h r c = here (omega (arith, h))
