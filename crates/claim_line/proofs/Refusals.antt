-- The numbers with which a claim that has the work words it needs can be refused.
use Prim.Native.Nat.{ℕ, ◌≤◌}
use native.Mathlib.Omega.{arith}
use mathlib.Core.Path.{◌≡◌, refl, sym, ap, ◌∙◌}
use mathlib.Core.Bool.{Bool, true, false, cond}
use mathlib.Core.Logic.{◌⊎◌, inl, inr}
use mathlib.Core.List.{List}
use mathlib.Core.Option.{Option, none, some}
use lib.Dec.{eqb}
use borrow.Author.Tests.{eqb-false}
use Rattle.signals.specs.Moment.{is_gap, tick}
use Rattle.signals.specs.Answers.{Span, end_of, fails_in, judged_by, verdict_for, fault_of_verdict}
use Rattle.signals.specs.declared.Verdict.{Verdict}
use Rattle.signals.specs.declared.Verdict.TheVariants.{Holds, FailsAt, FailsAfter, Refused}
use Rattle.grammar.specs.Formula.{formula_tree}
use Rattle.format.specs.Reading.{sheet_fault}
use Rattle.calls.specs.Calls.{needed_work, claim_fault, claim_fails, claim_verdict, claim_answer}
use Rattle.signals.specs.Checks.{Check, FaultCheck, NoFault}
use Rattle.calls.specs.Tabled.{Breaks18, ReadingChecks, WorkingChecks, ClaimFaultIs}
use Rattle.calls.proofs.OneEngine.{one_fault}

-- one of 5, 6, 8 and 10 to 17
abbrev pub Given : ℕ → Type 0
Given n = (5 ≤ n) × (n ≤ 17) × (n ≡ 7 → ⊥) × (n ≡ 9 → ⊥)

-- checks that give no other fault
abbrev Only : (ℕ → Type 0) → Type 0
Only P = (n : ℕ) → P n → (n ≡ 0) ⊎ Given n

only_none : Only NoFault
only_none n e = inl e

given : (k n : ℕ) → Given k → n ≡ k → Given n
given k n g e = rw e g

only_check : (k : ℕ) (Broken : Type 0) (later : ℕ → Type 0) → Given k → Only later → Only (Check k Broken later)
only_check k Broken later g h n (inl a) = inr (given k n g a.1)
only_check k Broken later g h n (inr a) = h n a.1

-- a check that cannot be broken
only_passed : (k : ℕ) (Broken : Type 0) (later : ℕ → Type 0) → (¬ Broken) → Only later → Only (Check k Broken later)
only_passed k Broken later p h n (inl a) = absurd (p a.0)
only_passed k Broken later p h n (inr a) = h n a.1

only_reading : (sheet formula : List ℕ) (later : ℕ → Type 0) → Only later → Only (ReadingChecks sheet formula later)
only_reading sheet formula later h =
    only_check 10 _ _ (omega arith, omega arith, λ e. omega arith, λ e. omega arith)
    (only_check 11 _ _ (omega arith, omega arith, λ e. omega arith, λ e. omega arith)
    (only_check 8 _ _ (omega arith, omega arith, λ e. omega arith, λ e. omega arith)
    (only_check 12 _ _ (omega arith, omega arith, λ e. omega arith, λ e. omega arith)
    (only_check 13 _ later (omega arith, omega arith, λ e. omega arith, λ e. omega arith) h))))

only_working : (sheet formula : List ℕ) (later : ℕ → Type 0) → Only later → Only (WorkingChecks sheet formula later)
only_working sheet formula later h =
    only_check 5 _ _ (omega arith, omega arith, λ e. omega arith, λ e. omega arith)
    (only_check 6 _ later (omega arith, omega arith, λ e. omega arith, λ e. omega arith) h)

only_sheet : (sheet : List ℕ) (later : ℕ → Type 0) → Only later → Only (FaultCheck (sheet_fault sheet) later)
only_sheet sheet later h n (inr a) = h n a.1
only_sheet sheet later h n (inl a) = go (one_fault.sheets sheet)
  where
    go : (sheet_fault sheet ≡ 0) ⊎ ((14 ≤ sheet_fault sheet) × (sheet_fault sheet ≤ 17)) → (n ≡ 0) ⊎ Given n
    go (inl z) = absurd (a.0 z)
    go (inr b) = inr (omega (arith, a.1, b.0), omega (arith, a.1, b.1), λ e. omega (arith, a.1, b.0), λ e. omega (arith, a.1, b.0))

only_claim : (sheet F G : List ℕ) → Only (ClaimFaultIs sheet F G (needed_work sheet))
only_claim sheet F G =
    only_sheet sheet _
    (only_reading sheet F _
    (only_reading sheet G _
    (only_passed 18 (Breaks18 sheet (needed_work sheet)) _ (λ l. omega arith)
    (only_working sheet F _ (only_working sheet G NoFault only_none)))))

-- a verdict is no refusal
abbrev refusing : Verdict → ℕ
refusing Holds = 0
refusing (FailsAt k end) = 0
refusing (FailsAfter k end) = 0
refusing (Refused n) = 1

failing : (s : Span) → refusing (fails_in s) ≡ 0
unfolding fails_in
failing s = go (is_gap s.first)
  where
    go : (b : Bool)
        → refusing (cond b (FailsAfter (tick s.first) (end_of s.last)) (FailsAt (tick s.first) (end_of s.last))) ≡ 0
    go true = refl
    go false = refl

judging : (first : Option Span) → refusing (judged_by first) ≡ 0
judging none = refl
judging (some s) = failing s

pub refused_given : (sheet F G : List ℕ) (n : ℕ) → claim_answer sheet F G (needed_work sheet) ≡ Refused n → Given n
unfolding claim_answer verdict_for
refused_given sheet F G n e = go (eqb fault 0) refl e (only_claim sheet F G fault (one_fault.claim sheet F G (needed_work sheet)))
  where
    fault : ℕ
    fault = claim_fault sheet F G (needed_work sheet)

    v : Verdict
    v = claim_verdict sheet (formula_tree F) (formula_tree G)

    go : (b : Bool) → eqb fault 0 ≡ b → cond b v (Refused fault) ≡ Refused n → (fault ≡ 0) ⊎ Given fault → Given n
    go true q r h =
        let z : ◌≡◌ {A = ℕ} 0 1 = sym (judging (claim_fails sheet (formula_tree F) (formula_tree G))) ∙ ap refusing r in
        absurd (omega arith)
    go false q r (inl z) = absurd (eqb-false fault 0 q z)
    go false q r (inr h) = given fault n h (sym (ap fault_of_verdict r))
