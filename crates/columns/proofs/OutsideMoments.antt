-- 9: a moment that is instant 0 or has a date above M, and the first of such faults along the moments.
use Prim.Native.Nat.{ℕ, zero, suc}
use native.Mathlib.Omega.{arith}
use mathlib.Core.Path.{◌≡◌, refl, ◌∙◌}
use mathlib.Core.Bool.{Bool, true, false, cond, ◌||◌}
use mathlib.Core.List.{List, [], ◌∷◌}
use mathlib.Core.Logic.{inl, inr, ⊎_elim}
use lib.Dec.{ltb, eqb}
use borrow.Author.Tests.{ltb-true, ltb-false, eqb-true, eqb-false}
use Rattle.signals.specs.Moment.{M}
use Rattle.signals.specs.Answers.{first_of}
use Rattle.signals.specs.Checks.{Check, NoFault}
use Rattle.signals.proofs.Truth.{or_cases, neither_left, neither_right}
use Rattle.signals.proofs.Checks.{check_by}
use Rattle.signals.proofs.FirstFault.{first_some, next_is}
use Rattle.questions.specs.Questions.{instant_fault, gap_fault}
use Rattle.columns.specs.Numbers.{instant_number, gap_number, is_gap_number, date_in}
use Rattle.columns.specs.Columns.{moment_fault, moments_fault}
use Rattle.columns.specs.Sentences.{Outside, Breaks9}
use Rattle.columns.proofs.MomentNumbers.{gap_number_lem, instant_number_lem}

-- a gap's fault, and an instant's
gap_judged : (m k : ℕ) → m ≡ gap_number k → Check 9 (Outside m) NoFault (gap_fault k)
unfolding gap_fault
gap_judged m k q =
    check_by 9 0 (Outside m) NoFault (ltb M k)
    (λ e. inr (omega (arith, q, ltb-true M k e)))
    (λ e. ⊎_elim (λ z. omega (arith, q, z)) (λ l. omega (arith, q, l, ltb-false M k e)))
    (λ e. refl)

instant_judged : (m k : ℕ) → m ≡ instant_number k → Check 9 (Outside m) NoFault (instant_fault k)
unfolding instant_fault
instant_judged m k q = check_by 9 0 (Outside m) NoFault (eqb k 0 || ltb M k) broken free (λ e. refl)
  where
    broken : (eqb k 0 || ltb M k) ≡ true → Outside m
    broken u =
        ⊎_elim
        (λ e. inl (omega (arith, q, eqb-true k 0 e)))
        (λ e. inr (omega (arith, q, ltb-true M k e)))
        (or_cases (eqb k 0) (ltb M k) u)

    free : (eqb k 0 || ltb M k) ≡ false → ¬ Outside m
    free d =
        ⊎_elim
        (λ z. eqb-false k 0 (neither_left (eqb k 0) (ltb M k) d) (omega (arith, q, z)))
        (λ l. omega (arith, q, l, ltb-false M k (neither_right (eqb k 0) (ltb M k) d)))

pub moment_judged : (m : ℕ) → Check 9 (Outside m) NoFault (moment_fault m)
unfolding moment_fault
moment_judged m = go (is_gap_number m) refl
  where
    go : (b : Bool) → is_gap_number m ≡ b → Check 9 (Outside m) NoFault (cond b (gap_fault (date_in m)) (instant_fault (date_in m)))
    go true e = gap_judged m (date_in m) (gap_number_lem m e)
    go false e = instant_judged m (date_in m) (instant_number_lem m e)

pub moments_judged : (ms : List ℕ) → Check 9 (Breaks9 ms) NoFault (moments_fault ms)
unfolding moments_fault
moments_judged [] = inr ((λ (i, l, o). omega (arith, l)), refl)
moments_judged (m ∷ ms) = go (moment_judged m) (moments_judged ms)
  where
    go : Check 9 (Outside m) NoFault (moment_fault m) → Check 9 (Breaks9 ms) NoFault (moments_fault ms)
        → Check 9 (Breaks9 (m ∷ ms)) NoFault (first_of (moment_fault m) (moments_fault ms))
    go (inl (o, e)) later = inl ((0, omega arith, o), first_some (moment_fault m) (moments_fault ms) 9 e (omega arith))
    go (inr (n, z)) (inl ((i, l, o), e)) = inl ((suc i, omega (arith, l), o), next_is (moment_fault m) (moments_fault ms) z ∙ e)
    go (inr (n, z)) (inr (ns, zs)) = inr (none, next_is (moment_fault m) (moments_fault ms) z ∙ zs)
      where
        none : ¬ Breaks9 (m ∷ ms)
        none (zero, l, o) = n o
        none (suc i, l, o) = ns (i, omega (arith, l), o)
