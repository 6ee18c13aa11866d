-- Tests and checks that give a fault.
use Prim.Native.Nat.{ℕ, ◌<◌}
use native.Mathlib.Omega.{arith}
use mathlib.Core.Path.{◌≡◌, refl}
use mathlib.Core.Bool.{Bool, true, false, cond}
use mathlib.Core.Logic.{◌⊎◌, inl, inr}
use lib.Dec.{eqb}
use borrow.Author.Tests.{eqb-true, eqb-false}

-- a test that gives a fault did not
pub passed : (b : Bool) (n x : ℕ) → 0 < n → cond b n x ≡ 0 → (b ≡ false) × (x ≡ 0)
passed true n x l e = absurd (omega arith)
passed false n x l e = (refl, e)

-- none or some
pub zero_or_not : (n : ℕ) → (n ≡ 0) ⊎ (¬ (n ≡ 0))
zero_or_not n = go (eqb n 0) refl
  where
    go : (b : Bool) → eqb n 0 ≡ b → (n ≡ 0) ⊎ (¬ (n ≡ 0))
    go true q = inl (eqb-true n 0 q)
    go false q = inr (eqb-false n 0 q)
