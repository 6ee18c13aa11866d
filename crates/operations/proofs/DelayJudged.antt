-- A delay's faults in their order: list, 8, then those of the answer.
use Prim.Native.Nat.{ℕ, ◌≤◌, ◌<◌}
use mathlib.Core.Path.{◌≡◌, sym, ◌∙◌}
use mathlib.Core.List.{List}
use borrow.Author.Tests.{lt-ltb, le-ltb}
use Rattle.signals.specs.Moment.{M}
use Rattle.signals.specs.Signal.{Signal}
use Rattle.signals.specs.Words.{list_fault}
use Rattle.signals.specs.Answers.{first_of}
use Rattle.signals.proofs.FirstFault.{first_assoc, first_is, next_is}
use Rattle.operations.specs.Calls.{length_fault, answer_fault, exact_of_delay, fault_of_delay}

pub fault_order : (operation : Signal → Signal) (d : ℕ) (l : List ℕ) (n : ℕ)
    → first_of (first_of (list_fault l) (length_fault d)) (answer_fault (exact_of_delay operation d l) n) ≡ fault_of_delay operation d l n
unfolding fault_of_delay
fault_order operation d l n = first_assoc (list_fault l) (length_fault d) (answer_fault (exact_of_delay operation d l) n)

-- the code's tests
pub list_first_lem : (f : ℕ) (l : List ℕ) (d : ℕ) → f ≡ list_fault l → (f ≡ 0 → ⊥) → f ≡ first_of (list_fault l) (length_fault d)
list_first_lem f l d e n = e ∙ sym (first_is (list_fault l) (length_fault d) (λ z. n (e ∙ z)))

pub length_next : (f : ℕ) (l : List ℕ) (d : ℕ) → f ≡ list_fault l → f ≡ 0 → M < d → 8 ≡ first_of (list_fault l) (length_fault d)
unfolding length_fault
length_next f l d e z h = sym (next_is (list_fault l) (length_fault d) (sym e ∙ z) ∙ rw (lt-ltb M d h))

pub neither : (f : ℕ) (l : List ℕ) (d : ℕ) → f ≡ list_fault l → f ≡ 0 → d ≤ M → 0 ≡ first_of (list_fault l) (length_fault d)
unfolding length_fault
neither f l d e z h = sym (next_is (list_fault l) (length_fault d) (sym e ∙ z) ∙ rw (le-ltb M d h))
