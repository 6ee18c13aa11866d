-- The faults of tidying are given exactly when their sentences hold and none before them does.
use Prim.Native.Nat.{ℕ, zero, suc, ◌≤◌, ◌<◌}
use native.Mathlib.Omega.{arith}
use mathlib.Core.Path.{◌≡◌, refl}
use mathlib.Core.Logic.{inl, inr}
use mathlib.Core.List.{List, [], ◌∷◌}
use mathlib.Core.Bool.{Bool, true, false}
use lib.Dec.{leb}
use borrow.Author.Tests.{leb-true, leb-false}
use Rattle.signals.specs.Words.{date_of, dates_fault, tidy_fault}
use Rattle.signals.specs.Checks.{Check, NoFault}
use Rattle.signals.specs.ListFaults.{Breaks3, TidyFaultIs, TidyFaultsExact}
use Rattle.signals.proofs.WordFaults.{Low, low_of, of_low}
use Rattle.signals.proofs.HeadFaults.{head_checks}
use Rattle.signals.proofs.Checks.{Single, none_single, check_single, exactly}

-- what the fault of the dates says of the words after the first
abbrev Says : ℕ → ℕ → List ℕ → Type 0
Says zero k ws = (i : ℕ) → ¬ Low k ws i
Says (suc zero) k ws = ⊥
Says (suc (suc zero)) k ws = ⊥
Says (suc (suc (suc zero))) k ws = (i : ℕ) × Low k ws i
Says (suc (suc (suc (suc n)))) k ws = ⊥

none_low : (k w : ℕ) (ws : List ℕ) → k < date_of w → ((i : ℕ) → ¬ Low (date_of w) ws i) → (i : ℕ) → ¬ Low k (w ∷ ws) i
none_low k w ws l h zero b = omega (arith, b.1)
none_low k w ws l h (suc i) b = h i (omega (arith, b.0), b.1)

says_cons : (n k w : ℕ) (ws : List ℕ) → k < date_of w → Says n (date_of w) ws → Says n k (w ∷ ws)
says_cons zero k w ws l h = none_low k w ws l h
says_cons (suc zero) k w ws l h = absurd h
says_cons (suc (suc zero)) k w ws l h = absurd h
says_cons (suc (suc (suc zero))) k w ws l h = (suc h.0, (omega (arith, h.1.0), h.1.1))
says_cons (suc (suc (suc (suc n)))) k w ws l h = absurd h

says_dates : (k : ℕ) (ws : List ℕ) → Says (dates_fault k ws) k ws
unfolding dates_fault
says_dates k [] = λ i h. omega (arith, h.0)
says_dates k (w ∷ ws) = go (leb (date_of w) k) refl (says_dates (date_of w) ws)
  where
    go : (t : Bool) → leb (date_of w) k ≡ t → Says (dates_fault (date_of w) ws) (date_of w) ws → Says (dates_fault k (w ∷ ws)) k (w ∷ ws)
    go true p rec = rw p (0, (omega arith, leb-true (date_of w) k p))
    go false p rec = rw p (says_cons (dates_fault (date_of w) ws) k w ws (leb-false (date_of w) k p) rec)

all_rise : (h : ℕ) (ws : List ℕ) → ((i : ℕ) → ¬ Low 0 ws i) → (i : ℕ) → ¬ Breaks3 (h ∷ ws) i
all_rise h ws s zero b = omega (arith, b.0)
all_rise h ws s (suc i) b = s i (low_of h ws i b)

date_checks : (h : ℕ) (ws : List ℕ) (n : ℕ) → Says n 0 ws → Check 3 ((i : ℕ) × Breaks3 (h ∷ ws) i) NoFault n
date_checks h ws zero s = inr ((λ b. all_rise h ws s b.0 b.1), refl)
date_checks h ws (suc zero) s = absurd s
date_checks h ws (suc (suc zero)) s = absurd s
date_checks h ws (suc (suc (suc zero))) s = inl ((suc s.0, of_low h ws s.0 s.1), refl)
date_checks h ws (suc (suc (suc (suc n)))) s = absurd s

given : (l : List ℕ) → TidyFaultIs l (tidy_fault l)
unfolding tidy_fault
given [] = inl (inl refl, refl)
given (h ∷ ws) =
    head_checks h ws (dates_fault 0 ws) (Check 3 ((i : ℕ) × Breaks3 (h ∷ ws) i) NoFault)
    (date_checks h ws (dates_fault 0 ws) (says_dates 0 ws))

single : (l : List ℕ) → Single (TidyFaultIs l)
single l = check_single (check_single (check_single none_single))

pub tidy_faults_exact : TidyFaultsExact
tidy_faults_exact l = exactly (TidyFaultIs l) (tidy_fault l) (single l) (given l)

pub tidy_fault_range : (l : List ℕ) → tidy_fault l ≤ 3
tidy_fault_range l = go (tidy_fault l) (given l)
  where
    go : (n : ℕ) → TidyFaultIs l n → n ≤ 3
    go n (inl a) = omega (arith, a.1)
    go n (inr (b, inl a)) = omega (arith, a.1)
    go n (inr (b, inr (c, inl a))) = omega (arith, a.1)
    go n (inr (b, inr (c, inr (d, a)))) = omega (arith, a)
