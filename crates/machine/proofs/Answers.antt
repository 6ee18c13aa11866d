-- What an answer with a count and one with a fault say of a call's fault and words.
use Prim.Native.Nat.{ℕ}
use native.Mathlib.Omega.{arith}
use mathlib.Core.Path.{◌≡◌, refl, ◌∙◌}
use mathlib.Core.Bool.{Bool, true, false, cond}
use mathlib.Core.List.{List}
use lib.Dec.{eqb}
use lib.ListN.{length}
use borrow.Author.Tests.{eqb-true, eqb-false}
use Rattle.signals.specs.Answers.{written_of}
use Rattle.signals.specs.declared.Written.TheVariants.{Count, Refused}

pub counted : (f : ℕ) (l : List ℕ) (n : ℕ) → written_of f l ≡ Count n → (f ≡ 0) × (n ≡ length l)
unfolding written_of
counted f l n e = go (eqb f 0) refl e
  where
    go : (b : Bool) → eqb f 0 ≡ b → cond b (Count (length l)) (Refused f) ≡ Count n → (f ≡ 0) × (n ≡ length l)
    go true q z = (eqb-true f 0 q, cc)
    go false q z = absurd (let x : ◌≡◌ {A = ℕ} 0 1 = cc in omega arith)

pub refused_by : (f : ℕ) (l : List ℕ) (g : ℕ) → written_of f l ≡ Refused g → (f ≡ g) × (g ≡ 0 → ⊥)
unfolding written_of
refused_by f l g e = go (eqb f 0) refl e
  where
    go : (b : Bool) → eqb f 0 ≡ b → cond b (Count (length l)) (Refused f) ≡ Refused g → (f ≡ g) × (g ≡ 0 → ⊥)
    go true q z = absurd (let x : ◌≡◌ {A = ℕ} 0 1 = cc in omega arith)
    go false q z = let s : f ≡ g = cc in (s, λ h. eqb-false f 0 q (s ∙ h))
