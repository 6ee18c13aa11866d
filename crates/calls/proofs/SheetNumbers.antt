-- Of a call's faults 14 to 17 are the sheet's, and no others are.
use Prim.Native.Nat.{ℕ, ◌≤◌}
use native.Mathlib.Omega.{arith}
use mathlib.Core.Path.{◌≡◌, sym, ◌∙◌}
use mathlib.Core.Logic.{inl, inr, ◌↔◌}
use mathlib.Core.List.{List}
use Rattle.calls.specs.Tabled.{Breaks7, Breaks18, ReadingChecks, WorkingChecks, CallFaultIs, ClaimFaultIs}
use Rattle.signals.specs.Checks.{FaultCheck, Check, NoFault}
use Rattle.slices.specs.Bytes.{Bytes}
use Rattle.format.specs.Reading.{sheet_fault}
use Rattle.format.specs.Sentences.{SheetFaultIs}
use Rattle.format.proofs.ExactSheets.{sheet_faults_exact}

-- none of the numbers 14 to 17
abbrev Other : (ℕ → Type 0) → Type 0
Other P = (n : ℕ) → P n → 14 ≤ n → n ≤ 17 → ⊥

other_none : Other NoFault
other_none n e l m = omega arith

-- a check whose number is another
other_check : (k : ℕ) (Broken : Type 0) (later : ℕ → Type 0) → (14 ≤ k → k ≤ 17 → ⊥) → Other later → Other (Check k Broken later)
other_check k Broken later o h n (inl a) l m = o (omega (arith, a.1)) (omega (arith, a.1))
other_check k Broken later o h n (inr a) l m = h n a.1 l m

other_reading : (sheet formula : List ℕ) (later : ℕ → Type 0) → Other later → Other (ReadingChecks sheet formula later)
other_reading sheet formula later h =
    other_check 10 _ _ (λ l m. omega arith)
    (other_check 11 _ _ (λ l m. omega arith)
    (other_check 8 _ _ (λ l m. omega arith)
    (other_check 12 _ _ (λ l m. omega arith) (other_check 13 _ later (λ l m. omega arith) h))))

other_working : (sheet formula : List ℕ) (later : ℕ → Type 0) → Other later → Other (WorkingChecks sheet formula later)
other_working sheet formula later h = other_check 5 _ _ (λ l m. omega arith) (other_check 6 _ later (λ l m. omega arith) h)

-- a fault from 14 to 17 is the sheet's
from_sheet : (sheet : List ℕ) (later : ℕ → Type 0) (fault n : ℕ) → Other later → FaultCheck (sheet_fault sheet) later fault
    → 14 ≤ n → n ≤ 17 → (fault ≡ n) ↔ (sheet_fault sheet ≡ n)
from_sheet sheet later fault n o (inl a) l m = (λ e. sym a.1 ∙ e, λ e. a.1 ∙ e)
from_sheet sheet later fault n o (inr a) l m =
    (λ e. absurd (o fault a.1 (omega arith) (omega arith)), λ e. absurd (a.0 (λ z. omega arith)))

sentence : (sheet : List ℕ) (fault n : ℕ) → Bytes sheet → 14 ≤ n → (fault ≡ n) ↔ (sheet_fault sheet ≡ n) → (fault ≡ n) ↔ SheetFaultIs
    sheet n
sentence sheet fault n b l h =
    let x = sheet_faults_exact sheet b n in
    (λ e. x.0 (h.0 e), λ s. h.1 (x.1 s))

pub call_sheet : (sheet formula : List ℕ) (work room fault n : ℕ) → CallFaultIs sheet formula work room fault → Bytes sheet → 14 ≤ n
    → n ≤ 17
    → (fault ≡ n) ↔ SheetFaultIs sheet n
call_sheet sheet formula work room fault n h b l m =
    sentence sheet fault n b l
    (from_sheet sheet _ fault n
    (other_reading sheet formula _
    (other_check 18 (Breaks18 sheet work) _ (λ l m. omega arith)
    (other_working sheet formula _ (other_check 7 (Breaks7 sheet formula room) NoFault (λ l m. omega arith) other_none))))
    h l m)

pub claim_sheet : (sheet F G : List ℕ) (work fault n : ℕ) → ClaimFaultIs sheet F G work fault → Bytes sheet → 14 ≤ n → n ≤ 17
    → (fault ≡ n) ↔ SheetFaultIs sheet n
claim_sheet sheet F G work fault n h b l m =
    sentence sheet fault n b l
    (from_sheet sheet _ fault n
    (other_reading sheet F _
    (other_reading sheet G _
    (other_check 18 (Breaks18 sheet work) _ (λ l m. omega arith) (other_working sheet F _ (other_working sheet G NoFault other_none)))))
    h l m)
