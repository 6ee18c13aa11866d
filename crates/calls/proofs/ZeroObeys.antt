-- The engine that gives [0] for all formulas obeys every law.
use Prim.Native.Nat.{ℕ}
use mathlib.Core.Path.{◌≡◌, refl, sym, ◌∙◌}
use mathlib.Core.List.{List, [], ◌∷◌}
use lib.ListN.{length}
use borrow.Author.Tests.{eq-eqb}
use Rattle.signals.specs.Answers.{count_in, written_of, output_of}
use Rattle.calls.specs.Calls.{call_fault}
use Rattle.calls.specs.Demand3.{Served, words_given}
use Rattle.calls.specs.WrongEngines.{zero_answer, zero_output, gives_zero, ZeroObeysEveryLaw}
use Rattle.calls.proofs.NotRefused.{fault_shown}
use Rattle.calls.proofs.Demand3.{demand3}

-- a call of it without a fault gives the word 0
zero_count : (sheet F : List ℕ) (work : ℕ) (old : List ℕ) → Served gives_zero sheet F work old → count_in (zero_answer sheet F work old) ≡ 1
unfolding zero_answer written_of
zero_count sheet F work old e =
    let z : call_fault sheet F work (length old) ≡ 0 = sym (fault_shown (call_fault sheet F work (length old)) (0 ∷ [])) ∙ e in
    rw (eq-eqb (call_fault sheet F work (length old)) 0 z) refl

zero_given : (sheet F : List ℕ) (work : ℕ) (old : List ℕ) → Served gives_zero sheet F work old
    → words_given gives_zero sheet F work old ≡ 0 ∷ []
unfolding zero_answer zero_output written_of output_of
zero_given sheet F work old e =
    let z : call_fault sheet F work (length old) ≡ 0 = sym (fault_shown (call_fault sheet F work (length old)) (0 ∷ [])) ∙ e in
    rw (eq-eqb (call_fault sheet F work (length old)) 0 z) refl

pub zero_obeys : ZeroObeysEveryLaw
zero_obeys =
    record {
      words = λ F G f g d e w v r sheet a b.
          record {
            count = λ workF workG oldF oldG x y. zero_count sheet F workF oldF x ∙ sym (zero_count sheet G workG oldG y);
            words = λ workF workG oldF oldG x y. zero_given sheet F workF oldF x ∙ sym (zero_given sheet G workG oldG y);
          };
      verdicts = λ F G H f g d e w v r sheet a b c.
          let t = demand3.third F G H f g d e w v r sheet a b c in
          record { as_first = t.as_first; as_second = t.as_second };
    }
