-- The single call on a moment: the fault of the list, then 9 of that moment, then the value that a column has there.
use Prim.Native.Nat.{ℕ}
use native.Mathlib.Omega.{arith}
use mathlib.Core.Path.{◌≡◌, refl, sym, ◌∙◌, ap}
use mathlib.Core.Bool.{Bool, true, false, cond}
use mathlib.Core.List.{List, [], ◌∷◌}
use mathlib.Core.Logic.{inl, inr, ◌↔◌}
use borrow.Author.Tests.{ne_eqb}
use Rattle.signals.specs.Moment.{gap, instant}
use Rattle.signals.specs.Words.{list_fault, signal_of}
use Rattle.signals.specs.Answers.{first_of, fault_of_told, told_value, told_of}
use Rattle.signals.specs.Checks.{Check, NoFault}
use Rattle.signals.specs.declared.Told.TheVariants as told
use Rattle.signals.proofs.FirstFault.{first_is, next_is, first_with_none}
use Rattle.signals.proofs.AnswersSay.{told_says}
use Rattle.questions.specs.Questions.{instant_fault, gap_fault, value_at_of, value_in_of}
use Rattle.columns.specs.Numbers.{instant_number, gap_number, is_gap_number, date_in, moment_of}
use Rattle.columns.specs.Columns.{not_after, not_rising, order_fault, moment_fault, moments_fault, column_fault}
use Rattle.columns.specs.Sentences.{Outside, single_call}
use Rattle.columns.proofs.MomentNumbers.{instant_read, gap_read}
use Rattle.columns.proofs.OutsideMoments.{moment_judged}

pub single_calls : (l : List ℕ) (k : ℕ)
    → (single_call l (instant_number k) ≡ value_at_of l k) × (single_call l (gap_number k) ≡ value_in_of l k)
unfolding single_call
single_calls l k =
    (rw ((instant_read k).0, (instant_read k).1), rw ((gap_read k).0, (gap_read k).1))

single_is : (l : List ℕ) (m : ℕ) → single_call l m ≡ told_of (first_of (list_fault l) (moment_fault m)) (signal_of l (moment_of m))
unfolding single_call value_in_of value_at_of moment_fault moment_of
single_is l m = go (is_gap_number m)
  where
    go : (b : Bool)
        → cond b
        (told_of (first_of (list_fault l) (gap_fault (date_in m))) (signal_of l (gap (date_in m))))
        (told_of (first_of (list_fault l) (instant_fault (date_in m))) (signal_of l (instant (date_in m))))
        ≡ told_of
        (first_of (list_fault l) (cond b (gap_fault (date_in m)) (instant_fault (date_in m))))
        (signal_of l (cond b (gap (date_in m)) (instant (date_in m))))
    go true = refl
    go false = refl

-- a column of this moment alone
pub single_column : (l : List ℕ) (m : ℕ) → column_fault l (m ∷ []) 1 ≡ fault_of_told (single_call l m)
unfolding column_fault order_fault not_rising not_after moments_fault first_of
single_column l m =
    ap (first_of (list_fault l)) (first_with_none (first_of (moment_fault m) 0) ∙ first_with_none (moment_fault m))
    ∙ sym (ap fault_of_told (single_is l m) ∙ told_says.fault (first_of (list_fault l) (moment_fault m)) (signal_of l (moment_of m)))

pub single_listed : (l : List ℕ) (m : ℕ) → ¬ (list_fault l ≡ 0) → single_call l m ≡ told.Refused (list_fault l)
unfolding told_of
single_listed l m n =
    single_is l m ∙ ap (λ (f : ℕ). told_of f (signal_of l (moment_of m))) (first_is (list_fault l) (moment_fault m) n)
    ∙ rw (ne_eqb (list_fault l) 0 n)

-- of an accepted list
single_judged : (l : List ℕ) (m : ℕ) → list_fault l ≡ 0 → single_call l m ≡ told_of (moment_fault m) (signal_of l (moment_of m))
single_judged l m z =
    single_is l m ∙ ap (λ (f : ℕ). told_of f (signal_of l (moment_of m))) (next_is (list_fault l) (moment_fault m) z)

pub single_value : (l : List ℕ) (m : ℕ) → list_fault l ≡ 0 → moment_fault m ≡ 0 → single_call l m ≡ told_value (signal_of l (moment_of m))
unfolding told_of
single_value l m z f = single_judged l m z ∙ ap (λ (f : ℕ). told_of f (signal_of l (moment_of m))) f

pub single_outside : (l : List ℕ) (m : ℕ) → list_fault l ≡ 0 → Outside m ↔ (single_call l m ≡ told.Refused 9)
unfolding told_of
single_outside l m z = go (moment_judged m)
  where
    fault : single_call l m ≡ told.Refused 9 → moment_fault m ≡ 9
    fault e =
        sym (told_says.fault (moment_fault m) (signal_of l (moment_of m))) ∙ ap fault_of_told (sym (single_judged l m z) ∙ e)

    go : Check 9 (Outside m) NoFault (moment_fault m) → Outside m ↔ (single_call l m ≡ told.Refused 9)
    go (inl (o, e)) = (λ x. single_judged l m z ∙ ap (λ (f : ℕ). told_of f (signal_of l (moment_of m))) e, λ x. o)
    go (inr (n, e)) = (λ o. absurd (n o), λ x. absurd (omega (arith, e, fault x)))
