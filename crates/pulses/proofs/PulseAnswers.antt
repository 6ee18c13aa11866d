-- What is delivered of the pulses of an accepted list is what the call gives.
use Prim.Native.Nat.{ℕ, ◌*◌, ◌≤◌}
use native.Mathlib.Omega.{arith}
use mathlib.Core.Path.{◌≡◌, ap}
use mathlib.Core.List.{List}
use lib.ListN.{length}
use Rattle.slices.specs.Bytes.{Words}
use Rattle.signals.specs.Moment.{M}
use Rattle.signals.specs.Signal.{TP}
use Rattle.signals.specs.Words.{most_words, list_fault}
use Rattle.signals.specs.Answers.{written_of, output_of}
use Rattle.signals.specs.declared.Written.{Written}
use Rattle.operations.specs.Calls.{exact_of_delay, answer_fault}
use Rattle.building.specs.Building.{Delivers}
use Rattle.building.specs.declared.Made.{Made}
use Rattle.building.proofs.Built.{Built}
use Rattle.building.proofs.Delivering.{delivered}
use Rattle.lent_slots.specs.Lent.{Ended, ended_by}
use Rattle.pulsing.specs.Turns.{pulse_engine}
use Rattle.pulsing.proofs.PulsedExact.{pulsed_exact}
use Rattle.pulsing.proofs.FewWords.{few_words}

pub pulse_answers : (d : ℕ) (l : List ℕ) → list_fault l ≡ 0 → d ≤ M → Words l → (old : List ℕ) (made : Made) (slot : List ℕ)
    → ended_by made slot ≡ pulse_engine d l old → (made.count ≤ most_words → made.count ≤ length old) → length slot ≡ length old
    → (out : List ℕ) (answer : Written) (after : List ℕ) → Delivers made slot out answer after
    → let exact = exact_of_delay (TP d) d l in
    (answer ≡ written_of (answer_fault exact (length out)) exact) × (after ≡ output_of (answer_fault exact (length out)) exact out)
pulse_answers d l accepted short small old made slot e holds full out answer after =
    let built : Built (exact_of_delay (TP d) d l) old slot made =
    rw (ap (λ (x : Ended). x.made) e, ap (λ (x : Ended). x.slot) e) (pulsed_exact d l old accepted short small) in
    delivered (exact_of_delay (TP d) d l) old slot made built
    (λ h. omega (arith, built.count_is, holds (omega (arith, built.count_is)))) full out answer after

-- the answer of a short list stands in a short slot
pub short_answer : (d : ℕ) (l old : List ℕ) (n : ℕ) {made : Made} {slot : List ℕ} → 1 ≤ length l → 2 * length l ≤ n
    → ended_by made slot ≡ pulse_engine d l old → made.count ≤ n
short_answer d l old n h short e = rw (ap (λ (x : Ended). x.made) e) (omega (arith, few_words d l old h))
