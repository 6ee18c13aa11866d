-- The faults of the column's call in their order: the list's, 20, 9, then 7.
use Prim.Native.Nat.{ℕ, ◌≤◌, ◌<◌}
use native.Mathlib.Omega.{arith}
use mathlib.Core.Path.{refl, sym, subst}
use mathlib.Core.Bool.{cond}
use mathlib.Core.List.{List}
use mathlib.Core.Logic.{inl, inr}
use lib.Dec.{ltb}
use lib.ListN.{length}
use borrow.Author.Tests.{ltb-true, ltb-false}
use Rattle.signals.specs.Words.{list_fault}
use Rattle.signals.specs.Answers.{first_of}
use Rattle.signals.specs.Checks.{Check, NoFault}
use Rattle.signals.proofs.Checks.{none_single, check_single, check_by, fault_check, exactly}
use Rattle.signals.proofs.ListFaults.{list_fault_range}
use Rattle.signals.proofs.FirstFault.{first_some, next_is}
use Rattle.columns.specs.Columns.{order_fault, moments_fault, column_fault}
use Rattle.columns.specs.Sentences.{Breaks20, Breaks9, ColumnFaultIs, ColumnFaultsExact}
use Rattle.columns.proofs.RisingMoments.{order_judged}
use Rattle.columns.proofs.OutsideMoments.{moments_judged}

-- a check with a fault of its own, then what is judged after it
judged_then : (number own rest : ℕ) (Broken : Type 0) (later : ℕ → Type 0) → 0 < number → Check number Broken NoFault own → later rest
    → Check number Broken later (first_of own rest)
judged_then number own rest Broken later l (inl (b, e)) h = inl (b, first_some own rest number e l)
judged_then number own rest Broken later l (inr (n, z)) h = inr (n, subst later (sym (next_is own rest z)) h)

pub column_faults_exact : ColumnFaultsExact
unfolding column_fault
column_faults_exact l ms room =
    exactly (ColumnFaultIs l ms room) (column_fault l ms room)
    (check_single (check_single (check_single (check_single none_single))))
    (fault_check (list_fault l) (first_of (order_fault ms) (first_of (moments_fault ms) short))
    (Check 20 (Breaks20 ms) (Check 9 (Breaks9 ms) Short))
    (λ z. judged_then 20 (order_fault ms) (first_of (moments_fault ms) short) (Breaks20 ms) (Check 9 (Breaks9 ms) Short) (omega arith)
    (order_judged ms)
    (judged_then 9 (moments_fault ms) short (Breaks9 ms) Short (omega arith) (moments_judged ms)
    (check_by 7 0 (room < length ms) NoFault (ltb room (length ms)) (ltb-true room (length ms))
    (λ e b. omega (arith, b, ltb-false room (length ms) e)) (λ e. refl)))))
  where
    short : ℕ
    short = cond (ltb room (length ms)) 7 0

    Short : ℕ → Type 0
    Short = Check 7 (room < length ms) NoFault

pub column_fault_range : (l ms : List ℕ) (room : ℕ) → column_fault l ms room ≤ 20
column_fault_range l ms room = go ((column_faults_exact l ms room (column_fault l ms room)).0 refl)
  where
    go : ColumnFaultIs l ms room (column_fault l ms room) → column_fault l ms room ≤ 20
    go (inl (n, e)) = omega (arith, e, list_fault_range l)
    go (inr (a, inl (b, e))) = omega (arith, e)
    go (inr (a, inr (b, inl (c, e)))) = omega (arith, e)
    go (inr (a, inr (b, inr (c, inl (d, e))))) = omega (arith, e)
    go (inr (a, inr (b, inr (c, inr (d, e))))) = omega (arith, e)
