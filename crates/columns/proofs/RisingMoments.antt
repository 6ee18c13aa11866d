-- 20: going along the moments finds one that is not after the one before it exactly when there is one.
use Prim.Native.Nat.{ℕ, zero, suc, ◌≤◌, ◌<◌}
use native.Mathlib.Omega.{arith}
use mathlib.Core.Path.{◌≡◌, refl, sym}
use mathlib.Core.Bool.{Bool, true, false, ◌||◌}
use mathlib.Core.List.{List, [], ◌∷◌}
use mathlib.Core.Logic.{inl, inr, ⊎_elim}
use lib.Dec.{leb, ltb}
use lib.ListN.{length, get_or}
use borrow.Author.Tests.{leb-true, leb-false, ltb-true, ltb-false}
use Rattle.signals.specs.Checks.{Check, NoFault}
use Rattle.signals.specs.Quantified.{Up, Down}
use Rattle.signals.proofs.Truth.{true_false, or_cases, neither_left, neither_right}
use Rattle.signals.proofs.Checks.{check_by}
use Rattle.columns.specs.Columns.{most_moments, not_after, not_rising, order_fault}
use Rattle.columns.specs.Sentences.{Breaks20}

-- a moment is not after the one before it
abbrev pub Falls : List ℕ → Type 0
Falls ms = (i : ℕ) × (suc i < length ms) × (get_or ms (suc i) 0 ≤ get_or ms i 0)

falls_later : (m : ℕ) (ms : List ℕ) → Falls ms → Falls (m ∷ ms)
falls_later m ms (i, l, f) = (suc i, omega (arith, l), f)

after_up : (last : ℕ) (ms : List ℕ) → Up (not_after last ms) → Falls (last ∷ ms)
unfolding not_after
after_up last [] u = true_false (sym u)
after_up last (m ∷ ms) u =
    ⊎_elim
    (λ e. (0, omega arith, leb-true m last e))
    (λ e. falls_later last (m ∷ ms) (after_up m ms e))
    (or_cases (leb m last) (not_after m ms) u)

after_down : (last : ℕ) (ms : List ℕ) → Down (not_after last ms) → ¬ Falls (last ∷ ms)
unfolding not_after
after_down last [] d (i, l, f) = omega (arith, l)
after_down last (m ∷ ms) d (zero, l, f) = omega (arith, f, leb-false m last (neither_left (leb m last) (not_after m ms) d))
after_down last (m ∷ ms) d (suc i, l, f) =
    after_down m ms (neither_right (leb m last) (not_after m ms) d) (i, omega (arith, l), f)

rising_up : (ms : List ℕ) → Up (not_rising ms) → Falls ms
unfolding not_rising
rising_up [] u = true_false (sym u)
rising_up (m ∷ ms) u = after_up m ms u

pub rising_down : (ms : List ℕ) → Down (not_rising ms) → ¬ Falls ms
unfolding not_rising
rising_down [] d (i, l, f) = omega (arith, l)
rising_down (m ∷ ms) d f = after_down m ms d f

pub falls_is : (ms : List ℕ) → Falls ms → not_rising ms ≡ true
falls_is ms f = go (not_rising ms) refl
  where
    go : (b : Bool) → not_rising ms ≡ b → b ≡ true
    go true e = refl
    go false e = absurd (rising_down ms e f)

pub falls_not : (ms : List ℕ) → ¬ Falls ms → not_rising ms ≡ false
falls_not ms n = go (not_rising ms) refl
  where
    go : (b : Bool) → not_rising ms ≡ b → b ≡ false
    go true e = absurd (n (rising_up ms e))
    go false e = refl

-- 20 of the moments, and nothing else
pub order_judged : (ms : List ℕ) → Check 20 (Breaks20 ms) NoFault (order_fault ms)
unfolding order_fault
order_judged ms =
    check_by 20 0 (Breaks20 ms) NoFault (ltb most_moments (length ms) || not_rising ms) broken
    (λ e. ⊎_elim
    (rising_down ms (neither_right (ltb most_moments (length ms)) (not_rising ms) e))
    (λ l. omega (arith, l, ltb-false most_moments (length ms) (neither_left (ltb most_moments (length ms)) (not_rising ms) e))))
    (λ e. refl)
  where
    broken : Up (ltb most_moments (length ms) || not_rising ms) → Breaks20 ms
    broken u =
        ⊎_elim
        (λ e. inr (ltb-true most_moments (length ms) e))
        (λ e. inl (rising_up ms e))
        (or_cases (ltb most_moments (length ms)) (not_rising ms) u)

pub rises : (ms : List ℕ) → order_fault ms ≡ 0 → ¬ Breaks20 ms
rises ms z = go (order_judged ms)
  where
    go : Check 20 (Breaks20 ms) NoFault (order_fault ms) → ¬ Breaks20 ms
    go (inl (b, e)) = absurd (omega (arith, z, e))
    go (inr (n, e)) = n
