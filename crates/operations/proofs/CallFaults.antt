-- Faults 5 to 8 of a call are given exactly when their sentences hold and none before them does.
use Prim.Native.Nat.{ℕ, zero, suc, ◌≤◌}
use native.Mathlib.Omega.{arith}
use mathlib.Core.Path.{◌≡◌, refl}
use mathlib.Core.Logic.{◌⊎◌, inl, inr}
use mathlib.Core.Bool.{Bool, true, false, cond}
use mathlib.Core.List.{List, [], ◌∷◌}
use lib.Dec.{ltb}
use lib.ListN.{length}
use borrow.Author.Tests.{lt-ltb, ltb-true, ltb-false}
use Rattle.signals.specs.Moment.{M}
use Rattle.signals.specs.Signal.{Signal}
use Rattle.signals.specs.Words.{date_of, list_fault, most_words}
use Rattle.signals.specs.Answers.{first_of}
use Rattle.signals.specs.Checks.{Check, FaultCheck}
use Rattle.signals.specs.Quantified.{Up}
use Rattle.signals.specs.Normal.{Accepted}
use Rattle.signals.proofs.Truth.{not_both_lem, or_cases, or_left, or_right}
use Rattle.signals.proofs.FirstFault.{first_assoc}
use Rattle.signals.proofs.Checks.{Single, none_single, check_single, fault_check, passed_check, exactly}
use Rattle.signals.proofs.ListFaults.{list_fault_range}
use Rattle.operations.specs.Calls.{changes_after_m, part_fault, room_fault, answer_fault, length_fault}
use Rattle.signals.specs.Words.{pair_fault}
use Rattle.operations.specs.Calls.{exact_of_one, exact_of_two, exact_of_delay, fault_of_one, fault_of_two, fault_of_delay}
use Rattle.operations.specs.CallFaults.{Breaks5, Breaks6, Breaks7, Breaks8, AnswerChecks, CallFaultsExact}

-- the test for 6 says what its sentence says
pub late_up : (l : List ℕ) → Up (changes_after_m l) → Breaks6 l
unfolding changes_after_m
late_up [] u = not_both_lem u refl
late_up (w ∷ ws) u = go (or_cases (ltb M (date_of w)) (changes_after_m ws) u) (λ v. late_up ws v)
  where
    go : Up (ltb M (date_of w)) ⊎ Up (changes_after_m ws) → (Up (changes_after_m ws) → Breaks6 ws) → Breaks6 (w ∷ ws)
    go (inl v) rec = (0, omega arith, ltb-true M (date_of w) v)
    go (inr v) rec = let b = rec v in (suc b.0, omega arith, b.2)

pub late_of : (l : List ℕ) → Breaks6 l → Up (changes_after_m l)
unfolding changes_after_m
late_of [] b = absurd (omega (arith, b.1))
late_of (w ∷ ws) (zero, l, h) = or_left (ltb M (date_of w)) (changes_after_m ws) (lt-ltb M (date_of w) h)
late_of (w ∷ ws) (suc i, l, h) = or_right (ltb M (date_of w)) (changes_after_m ws) (late_of ws (i, omega arith, h))

answer_checks : (exact : List ℕ) (n : ℕ) → AnswerChecks exact n (answer_fault exact n)
unfolding answer_fault part_fault room_fault first_of
answer_checks exact n = go (ltb most_words (length exact)) (changes_after_m exact) (ltb n (length exact)) refl refl refl
  where
    not_long_lem : ltb most_words (length exact) ≡ false → ¬ Breaks5 exact
    not_long_lem p b = omega (arith, ltb-false most_words (length exact) p)

    not_late_lem : changes_after_m exact ≡ false → ¬ Breaks6 exact
    not_late_lem q b = not_both_lem (late_of exact b) q

    go : (t u v : Bool) → ltb most_words (length exact) ≡ t → changes_after_m exact ≡ u → ltb n (length exact) ≡ v
        → AnswerChecks exact n (answer_fault exact n)
    go true u v p q r = inl (ltb-true most_words (length exact) p, rw p)
    go false true v p q r = inr (not_long_lem p, inl (late_up exact q, rw (p, q)))
    go false false true p q r = inr (not_long_lem p, inr (not_late_lem q, inl (ltb-true n (length exact) r, rw (p, q, r))))
    go false false false p q r =
        inr (not_long_lem p, inr (not_late_lem q, inr ((λ b. omega (arith, ltb-false n (length exact) r)), rw (p, q, r))))

answer_single : (exact : List ℕ) (n : ℕ) → Single (AnswerChecks exact n)
answer_single exact n = check_single (check_single (check_single none_single))

length_check : (d : ℕ) (later : ℕ → Type 0) (rest : ℕ) → later rest → Check 8 (Breaks8 d) later (first_of (length_fault d) rest)
unfolding length_fault first_of
length_check d later rest h = go (ltb M d) refl
  where
    go : (t : Bool) → ltb M d ≡ t → Check 8 (Breaks8 d) later (first_of (length_fault d) rest)
    go true e = inl (ltb-true M d e, rw e)
    go false e = inr ((λ b. omega (arith, ltb-false M d e)), rw e h)

of_one : (operation : Signal → Signal) (a : List ℕ) (n : ℕ)
    → FaultCheck (list_fault a) (AnswerChecks (exact_of_one operation a) n) (fault_of_one operation a n)
unfolding fault_of_one
of_one operation a n =
    fault_check (list_fault a) (answer_fault (exact_of_one operation a) n) (AnswerChecks (exact_of_one operation a) n)
    (λ z. answer_checks (exact_of_one operation a) n)

of_two : (operation : Signal → Signal → Signal) (a b : List ℕ) (n : ℕ)
    → FaultCheck (list_fault a) (FaultCheck (list_fault b) (AnswerChecks (exact_of_two operation a b) n)) (fault_of_two operation a b n)
unfolding fault_of_two pair_fault
of_two operation a b n =
    rw (first_assoc (list_fault a) (list_fault b) (answer_fault (exact_of_two operation a b) n))
    (fault_check (list_fault a) (first_of (list_fault b) (answer_fault (exact_of_two operation a b) n)) (FaultCheck (list_fault b) answer)
    (λ z. fault_check (list_fault b) (answer_fault (exact_of_two operation a b) n) answer
    (λ y. answer_checks (exact_of_two operation a b) n)))
  where
    answer : ℕ → Type 0
    answer = AnswerChecks (exact_of_two operation a b) n

of_delay : (operation : Signal → Signal) (d : ℕ) (a : List ℕ) (n : ℕ)
    → FaultCheck (list_fault a) (Check 8 (Breaks8 d) (AnswerChecks (exact_of_delay operation d a) n)) (fault_of_delay operation d a n)
unfolding fault_of_delay
of_delay operation d a n =
    fault_check (list_fault a) (first_of (length_fault d) (answer_fault (exact_of_delay operation d a) n)) (Check 8 (Breaks8 d) answer)
    (λ z. length_check d answer (answer_fault (exact_of_delay operation d a) n) (answer_checks (exact_of_delay operation d a) n))
  where
    answer : ℕ → Type 0
    answer = AnswerChecks (exact_of_delay operation d a) n

pub call_faults_exact : CallFaultsExact
call_faults_exact =
    record {
      one = λ o a n. exactly _ _ (check_single (answer_single (exact_of_one o a) n)) (of_one o a n);
      two = λ o a b n. exactly _ _ (check_single (check_single (answer_single (exact_of_two o a b) n))) (of_two o a b n);
      delay = λ o d a n. exactly _ _ (check_single (check_single (answer_single (exact_of_delay o d a) n))) (of_delay o d a n);
    }

-- what a fault says, by the checks that it passed
pub record Passed (exact : List ℕ) (n : ℕ) : Type 0 where
  pub few : ¬ Breaks5 exact
  pub early : ¬ Breaks6 exact
  pub fits : ¬ Breaks7 exact n

-- a fault that is none of 1 to 4 is not an operand's
list_passed : (a : List ℕ) (later : ℕ → Type 0) (fault : ℕ) → (fault ≡ 0) ⊎ (5 ≤ fault) → FaultCheck (list_fault a) later fault
    → Accepted a × later fault
list_passed a later fault w h = passed_check (list_fault a) fault later (other w) h
  where
    other : (fault ≡ 0) ⊎ (5 ≤ fault) → ¬ (list_fault a ≡ 0) → ¬ (fault ≡ list_fault a)
    other (inl z) o e = o (omega arith)
    other (inr l) o e = omega (arith, list_fault_range a)

answer_passed : (exact : List ℕ) (n : ℕ) → AnswerChecks exact n 0 → Passed exact n
answer_passed exact n (inl a) = absurd (omega (arith, a.1))
answer_passed exact n (inr (a, inl b)) = absurd (omega (arith, b.1))
answer_passed exact n (inr (a, inr (b, inl c))) = absurd (omega (arith, c.1))
answer_passed exact n (inr (a, inr (b, inr (c, z)))) = record { few = a; early = b; fits = c }

answer_5 : (exact : List ℕ) (n : ℕ) → AnswerChecks exact n 5 → Breaks5 exact
answer_5 exact n (inl a) = a.0
answer_5 exact n (inr (a, inl b)) = absurd (omega (arith, b.1))
answer_5 exact n (inr (a, inr (b, inl c))) = absurd (omega (arith, c.1))
answer_5 exact n (inr (a, inr (b, inr (c, z)))) = absurd (omega (arith, z))

answer_6 : (exact : List ℕ) (n : ℕ) → AnswerChecks exact n 6 → Breaks6 exact
answer_6 exact n (inl a) = absurd (omega (arith, a.1))
answer_6 exact n (inr (a, inl b)) = b.0
answer_6 exact n (inr (a, inr (b, inl c))) = absurd (omega (arith, c.1))
answer_6 exact n (inr (a, inr (b, inr (c, z)))) = absurd (omega (arith, z))

pub one_passed : (operation : Signal → Signal) (a : List ℕ) (n : ℕ) → fault_of_one operation a n ≡ 0
    → Accepted a × Passed (exact_of_one operation a) n
one_passed operation a n e =
    let h = list_passed a (AnswerChecks (exact_of_one operation a) n) 0 (inl refl) ((call_faults_exact.one operation a n 0).0 e) in
    (h.0, answer_passed (exact_of_one operation a) n h.1)

pub two_passed : (operation : Signal → Signal → Signal) (a b : List ℕ) (n : ℕ) → fault_of_two operation a b n ≡ 0
    → (Accepted a × Accepted b) × Passed (exact_of_two operation a b) n
two_passed operation a b n e =
    let h = list_passed a (FaultCheck (list_fault b) (AnswerChecks (exact_of_two operation a b) n)) 0 (inl refl)
    ((call_faults_exact.two operation a b n 0).0 e) in
    let k = list_passed b (AnswerChecks (exact_of_two operation a b) n) 0 (inl refl) h.1 in
    ((h.0, k.0), answer_passed (exact_of_two operation a b) n k.1)

pub delay_passed : (operation : Signal → Signal) (d : ℕ) (a : List ℕ) (n : ℕ) → fault_of_delay operation d a n ≡ 0
    → (Accepted a × (¬ Breaks8 d)) × Passed (exact_of_delay operation d a) n
delay_passed operation d a n e =
    go (list_passed a (Check 8 (Breaks8 d) (AnswerChecks (exact_of_delay operation d a) n)) 0 (inl refl)
    ((call_faults_exact.delay operation d a n 0).0 e))
  where
    go : Accepted a × Check 8 (Breaks8 d) (AnswerChecks (exact_of_delay operation d a) n) 0
        → (Accepted a × (¬ Breaks8 d)) × Passed (exact_of_delay operation d a) n
    go (s, inl b) = absurd (omega (arith, b.1))
    go (s, inr (b, h)) = ((s, b), answer_passed (exact_of_delay operation d a) n h)

pub one_5 : (operation : Signal → Signal) (a : List ℕ) (n : ℕ) → fault_of_one operation a n ≡ 5 → Accepted a
    × Breaks5 (exact_of_one operation a)
one_5 operation a n e =
    let h = list_passed a (AnswerChecks (exact_of_one operation a) n) 5 (inr (omega arith)) ((call_faults_exact.one operation a n 5).0 e) in
    (h.0, answer_5 (exact_of_one operation a) n h.1)

pub one_6 : (operation : Signal → Signal) (a : List ℕ) (n : ℕ) → fault_of_one operation a n ≡ 6 → Breaks6 (exact_of_one operation a)
one_6 operation a n e =
    answer_6 (exact_of_one operation a) n
    (list_passed a (AnswerChecks (exact_of_one operation a) n) 6 (inr (omega arith)) ((call_faults_exact.one operation a n 6).0 e)).1

pub two_6 : (operation : Signal → Signal → Signal) (a b : List ℕ) (n : ℕ) → fault_of_two operation a b n ≡ 6
    → Breaks6 (exact_of_two operation a b)
two_6 operation a b n e =
    let h = list_passed a (FaultCheck (list_fault b) (AnswerChecks (exact_of_two operation a b) n)) 6 (inr (omega arith))
    ((call_faults_exact.two operation a b n 6).0 e) in
    answer_6 (exact_of_two operation a b) n (list_passed b (AnswerChecks (exact_of_two operation a b) n) 6 (inr (omega arith)) h.1).1

-- an answer without 5 and 6
pub part_none : (exact : List ℕ) → part_fault exact ≡ 0 → (length exact ≤ most_words) × (changes_after_m exact ≡ false)
unfolding part_fault
part_none exact = go (ltb most_words (length exact)) (changes_after_m exact) refl
  where
    go : (b c : Bool) → ltb most_words (length exact) ≡ b → ◌≡◌ {A = ℕ} (cond b 5 (cond c 6 0)) 0 → (length exact ≤ most_words) ×
        (c ≡ false)
    go true c e z = absurd (omega arith)
    go false true e z = absurd (omega arith)
    go false false e z = (ltb-false most_words (length exact) e, refl)
