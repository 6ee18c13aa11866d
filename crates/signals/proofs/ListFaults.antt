-- Faults 1 to 4 are given exactly when their sentences hold and none before them does.
use Prim.Native.Nat.{ℕ, zero, suc, ◌≤◌, ◌<◌}
use native.Mathlib.Omega.{arith}
use mathlib.Core.Path.{◌≡◌, refl}
use mathlib.Core.Bool.{Bool, true, false}
use mathlib.Core.Logic.{◌⊎◌, inl, inr}
use mathlib.Core.List.{List, [], ◌∷◌}
use lib.Dec.{ltb}
use borrow.Author.Tests.{ltb-true, ltb-false}
use Rattle.signals.specs.Words.{head_value, words_fault, list_fault}
use Rattle.signals.specs.Checks.{Check, NoFault}
use Rattle.signals.specs.ListFaults.{Breaks3, Breaks4, First3, First4, ListFaultIs, ListFaultsExact}
use Rattle.signals.proofs.Checks.{Single, none_single, check_single, exactly}
use Rattle.signals.proofs.HeadFaults.{head_checks}
use Rattle.signals.proofs.WordFaults.{Fine, Says, says_words, low_of, of_low, idle_of, of_idle, of_fine}

order : (a b : ℕ) → (a < b) ⊎ ((b < a) ⊎ (a ≡ b))
order a b = go (ltb a b) (ltb b a) refl refl
  where
    go : (t u : Bool) → ltb a b ≡ t → ltb b a ≡ u → (a < b) ⊎ ((b < a) ⊎ (a ≡ b))
    go true u p q = inl (ltb-true a b p)
    go false true p q = inr (inl (ltb-true b a q))
    go false false p q = inr (inr (omega (arith, ltb-false a b p, ltb-false b a q)))

module _ (h : ℕ) (ws : List ℕ) where
  none3 : ((i : ℕ) → Fine 0 (head_value h) ws i) → ¬ First3 (h ∷ ws)
  none3 f (zero, b, s) = omega (arith, b.0)
  none3 f (suc i, b, s) = (f i).0 (low_of h ws i b)

  none4 : ((i : ℕ) → Fine 0 (head_value h) ws i) → ¬ First4 (h ∷ ws)
  none4 f (zero, b, s) = omega (arith, b.0)
  none4 f (suc i, b, s) = (f i).1 (idle_of h ws i b)

  -- where the first such word breaks 4 and not 3, none breaks 3 first
  not3 : (i : ℕ) → Breaks4 (h ∷ ws) (suc i) → (¬ Breaks3 (h ∷ ws) (suc i))
      → ((j : ℕ) → j < suc i → (¬ Breaks3 (h ∷ ws) j) × (¬ Breaks4 (h ∷ ws) j)) → ¬ First3 (h ∷ ws)
  not3 i b c before (j, d, s) = go (order j (suc i))
    where
      go : (j < suc i) ⊎ ((suc i < j) ⊎ (j ≡ suc i)) → ⊥
      go (inl l) = (before j l).0 d
      go (inr (inl l)) = (s (suc i) l).1 b
      go (inr (inr e)) = c (rw e at d)

  word_checks : (n : ℕ) → Says n 0 (head_value h) ws → Check 3 (First3 (h ∷ ws)) (Check 4 (First4 (h ∷ ws)) NoFault) n
  word_checks zero s = inr (none3 s, inr (none4 s, refl))
  word_checks (suc zero) s = absurd s
  word_checks (suc (suc zero)) s = absurd s
  word_checks (suc (suc (suc zero))) s = inl ((suc s.0, of_low h ws s.0 s.1, of_fine h ws s.0 s.2), refl)
  word_checks (suc (suc (suc (suc zero)))) s =
      let b = of_idle h ws s.0 s.1 in
      let before = of_fine h ws s.0 s.3 in
      inr (not3 s.0 b (λ c. s.2 (low_of h ws s.0 c)) before, inl ((suc s.0, b, before), refl))
  word_checks (suc (suc (suc (suc (suc n))))) s = absurd s

given : (l : List ℕ) → ListFaultIs l (list_fault l)
unfolding list_fault
given [] = inl (inl refl, refl)
given (h ∷ ws) =
    head_checks
    h
    ws
    (words_fault 0 (head_value h) ws)
    (Check 3 (First3 (h ∷ ws)) (Check 4 (First4 (h ∷ ws)) NoFault))
    (word_checks h ws (words_fault 0 (head_value h) ws) (says_words 0 (head_value h) ws))

single : (l : List ℕ) → Single (ListFaultIs l)
single l = check_single (check_single (check_single (check_single none_single)))

pub list_faults_exact : ListFaultsExact
list_faults_exact l = exactly (ListFaultIs l) (list_fault l) (single l) (given l)

pub list_fault_range : (l : List ℕ) → list_fault l ≤ 4
list_fault_range l = go (list_fault l) (given l)
  where
    go : (n : ℕ) → ListFaultIs l n → n ≤ 4
    go n (inl a) = omega (arith, a.1)
    go n (inr (b, inl a)) = omega (arith, a.1)
    go n (inr (b, inr (c, inl a))) = omega (arith, a.1)
    go n (inr (b, inr (c, inr (d, inl a)))) = omega (arith, a.1)
    go n (inr (b, inr (c, inr (d, inr (e, a))))) = omega (arith, a)
