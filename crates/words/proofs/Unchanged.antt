-- A word that changes nothing by its last two bits.
use Prim.Native.Nat.{ℕ, ◌/◌, ◌%◌}
use native.Mathlib.Omega.{arith}
use mathlib.Core.Path.{◌≡◌, refl}
use mathlib.Core.Bool.{Bool, true, false, ◌&&◌, beq}
use lib.Dec.{eqb}
use borrow.Author.Tests.{eqb-true, eqb-false, eq-eqb, ne_eqb}
use Rattle.signals.specs.Words.{value_at, value_after, changes_nothing}

pub both_up : (w : ℕ) → eqb (w % 4) 3 ≡ changes_nothing true w
unfolding changes_nothing value_at value_after
both_up w = go (eqb (w / 2 % 2) 1) (eqb (w % 2) 1) refl refl
  where
    go : (a b : Bool) → eqb (w / 2 % 2) 1 ≡ a → eqb (w % 2) 1 ≡ b → eqb (w % 4) 3 ≡ (beq a true && beq b true)
    go true true p q = eq-eqb (w % 4) 3 (omega (arith, eqb-true (w / 2 % 2) 1 p, eqb-true (w % 2) 1 q))
    go true false p q = ne_eqb (w % 4) 3 (λ e. eqb-false (w % 2) 1 q (omega arith))
    go false true p q = ne_eqb (w % 4) 3 (λ e. eqb-false (w / 2 % 2) 1 p (omega arith))
    go false false p q = ne_eqb (w % 4) 3 (λ e. eqb-false (w / 2 % 2) 1 p (omega arith))

pub both_down : (w : ℕ) → eqb (w % 4) 0 ≡ changes_nothing false w
unfolding changes_nothing value_at value_after
both_down w = go (eqb (w / 2 % 2) 1) (eqb (w % 2) 1) refl refl
  where
    go : (a b : Bool) → eqb (w / 2 % 2) 1 ≡ a → eqb (w % 2) 1 ≡ b → eqb (w % 4) 0 ≡ (beq a false && beq b false)
    go true true p q = ne_eqb (w % 4) 0 (λ e. omega (arith, eqb-true (w / 2 % 2) 1 p))
    go true false p q = ne_eqb (w % 4) 0 (λ e. omega (arith, eqb-true (w / 2 % 2) 1 p))
    go false true p q = ne_eqb (w % 4) 0 (λ e. omega (arith, eqb-true (w % 2) 1 q))
    go false false p q =
        let p' : (w / 2 % 2 ≡ 1) → ⊥ = eqb-false (w / 2 % 2) 1 p in
        let q' : (w % 2 ≡ 1) → ⊥ = eqb-false (w % 2) 1 q in
        eq-eqb (w % 4) 0 (omega arith)
