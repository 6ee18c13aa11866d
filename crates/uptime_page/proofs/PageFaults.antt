-- The faults of the program's input in their order: those of a lookup, then 19.
use Prim.Native.Nat.{ℕ, ◌≤◌}
use native.Mathlib.Omega.{arith}
use mathlib.Core.Path.{◌≡◌, refl, sym, ap, ◌∙◌}
use mathlib.Core.Bool.{Bool, true, false, cond}
use mathlib.Core.List.{List}
use mathlib.Core.Logic.{◌⊎◌, inl, inr}
use lib.Dec.{ltb}
use borrow.Author.Tests.{ltb-true, ltb-false, le-ltb}
use Rattle.signals.specs.Moment.{M}
use Rattle.signals.specs.Checks.{Check, NoFault, Exactly}
use Rattle.signals.proofs.Checks.{none_single, check_single, exactly}
use Rattle.signals.proofs.FirstFault.{next_is}
use Rattle.signals.proofs.Truth.{true_false}
use Rattle.format.specs.Reading.{sheet_fault}
use Rattle.format.specs.Calls.{lookup_fault}
use Rattle.format.proofs.FaultNumbers.{sheet_of}
use Rattle.stretches.specs.Calls.{horizon_fault}
use Rattle.stretches.proofs.CallFaults.{lookup_then}
use Rattle.texts.specs.Lengths.{is_length, value}
use Rattle.texts.proofs.DecimalRight.{decimal_right}
use Rattle.inputs.specs.Input.{first_line, second_line, sheet_in}
use Rattle.uptime_page.specs.Printing.{horizon_text_fault, page_fault}
use Rattle.uptime_page.specs.PageSays.{IsHorizon, PageFaultIs}

-- a text that writes H
module _ (text : List ℕ) (H : ℕ) (h : IsHorizon text H) where
  pub horizon_value : value text ≡ H
  horizon_value = ap value h.1 ∙ decimal_right.writes H (omega (arith, h.0))

  horizon_length : is_length text ≡ true
  horizon_length = ap is_length h.1 ∙ decimal_right.well_formed H (omega (arith, h.0))

  pub horizon_fine : horizon_text_fault text ≡ 0
  unfolding horizon_text_fault horizon_fault
  horizon_fine = rw (horizon_length, horizon_value, le-ltb M H h.0)

horizon_check : (text : List ℕ) → Check 19 (¬ ((H : ℕ) × IsHorizon text H)) NoFault (horizon_text_fault text)
unfolding horizon_text_fault horizon_fault
horizon_check text = go (is_length text) (ltb M (value text)) refl refl
  where
    go : (a b : Bool) → is_length text ≡ a → ltb M (value text) ≡ b
        → Check 19 (¬ ((H : ℕ) × IsHorizon text H)) NoFault (cond a (cond b 19 0) 19)
    go true true d e = inl ((λ w. omega (arith, horizon_value text w.0 w.1, w.1.0, ltb-true M (value text) e)), refl)
    go true false d e =
        let l = ltb-false M (value text) e in
        inr ((λ none. none (value text, (l, sym (decimal_right.only text d (omega arith))))), refl)
    go false b d e = inl ((λ w. true_false (sym (horizon_length text w.0 w.1) ∙ d)), refl)

given : (input : List ℕ) → PageFaultIs input (page_fault input)
unfolding page_fault
given input =
    lookup_then (sheet_in input) (first_line input) (horizon_text_fault (second_line input))
    (Check 19 (¬ ((H : ℕ) × IsHorizon (second_line input) H)) NoFault) (horizon_check (second_line input))

pub page_faults : (input : List ℕ) → Exactly (PageFaultIs input) (page_fault input)
page_faults input =
    exactly (PageFaultIs input) (page_fault input) (check_single (check_single (check_single (check_single none_single)))) (given input)

-- no fault where the name is found and H is written
pub page_fine : (input : List ℕ) (H : ℕ) → lookup_fault (sheet_in input) (first_line input) ≡ 0 → IsHorizon (second_line input) H
    → page_fault input ≡ 0
unfolding page_fault
page_fine input H z h = next_is _ (horizon_text_fault (second_line input)) z ∙ horizon_fine (second_line input) H h

-- which numbers there are
pub page_numbers : (input : List ℕ) → ¬ (page_fault input ≡ 0)
    → (13 ≤ page_fault input) × (page_fault input ≤ 19) × ¬ (page_fault input ≡ 18)
page_numbers input some = go (given input)
  where
    n : ℕ
    n = page_fault input

    go : PageFaultIs input n → (13 ≤ n) × (n ≤ 19) × ¬ (n ≡ 18)
    go (inl a) = by (sheet_of (sheet_in input))
      where
        by : (sheet_fault (sheet_in input) ≡ 0) ⊎ ((14 ≤ sheet_fault (sheet_in input)) × (sheet_fault (sheet_in input) ≤ 17))
            → (13 ≤ n) × (n ≤ 19) × ¬ (n ≡ 18)
        by (inl z) = absurd (a.0 z)
        by (inr b) = (omega (arith, a.1, b.0), omega (arith, a.1, b.1), λ e. omega (arith, e, a.1, b.1))
    go (inr (a, inl b)) = (omega (arith, b.1), omega (arith, b.1), λ e. omega (arith, e, b.1))
    go (inr (a, inr (b, inl c))) = (omega (arith, c.1), omega (arith, c.1), λ e. omega (arith, e, c.1))
    go (inr (a, inr (b, inr (c, inl d)))) = (omega (arith, d.1), omega (arith, d.1), λ e. omega (arith, e, d.1))
    go (inr (a, inr (b, inr (c, inr d)))) = absurd (some d.1)
