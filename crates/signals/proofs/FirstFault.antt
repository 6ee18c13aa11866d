-- The first of two faults, 0 being none.
use Prim.Native.Nat.{ℕ, ◌<◌}
use native.Mathlib.Omega.{arith}
use mathlib.Core.Path.{◌≡◌, refl, sym, ◌∙◌}
use mathlib.Core.Bool.{Bool, true, false, cond}
use lib.Dec.{eqb}
use borrow.Author.Tests.{eqb-true, eqb-false, eq-eqb, ne_eqb}
use Rattle.signals.specs.Answers.{first_of}

pub first_is : (f g : ℕ) → (f ≡ 0 → ⊥) → first_of f g ≡ f
unfolding first_of
first_is f g h = rw (ne_eqb f 0 h)

pub first_some : (f g n : ℕ) → f ≡ n → 0 < n → first_of f g ≡ n
first_some f g n e l = first_is f g (λ z. omega arith) ∙ e

pub next_is : (f g : ℕ) → f ≡ 0 → first_of f g ≡ g
unfolding first_of
next_is f g h = rw (eq-eqb f 0 h)

pub both_none : (f g : ℕ) → first_of f g ≡ 0 → (f ≡ 0) × (g ≡ 0)
unfolding first_of
both_none f g h = go (eqb f 0) refl h
  where
    go : (t : Bool) → eqb f 0 ≡ t → cond t g f ≡ 0 → (f ≡ 0) × (g ≡ 0)
    go true e z = (eqb-true f 0 e, z)
    go false e z = absurd (eqb-false f 0 e z)

pub first_with_none : (f : ℕ) → first_of f 0 ≡ f
unfolding first_of
first_with_none f = go (eqb f 0) refl
  where
    go : (t : Bool) → eqb f 0 ≡ t → cond t 0 f ≡ f
    go true e = sym (eqb-true f 0 e)
    go false e = refl

pub first_assoc : (f g h : ℕ) → first_of (first_of f g) h ≡ first_of f (first_of g h)
unfolding first_of
first_assoc f g h = go (eqb f 0) refl
  where
    go : (t : Bool) → eqb f 0 ≡ t → cond (eqb (cond t g f) 0) h (cond t g f) ≡ cond t (cond (eqb g 0) h g) f
    go true e = refl
    go false e = rw e
