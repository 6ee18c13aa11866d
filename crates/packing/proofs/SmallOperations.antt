-- The answers of the operations on lists are small.
use Prim.Native.Nat.{ℕ, ◌<◌}
use native.Mathlib.Omega.{arith}
use mathlib.Core.Path.{◌≡◌}
use mathlib.Core.Bool.{cond}
use mathlib.Core.List.{List}
use lib.Dec.{ltb}
use lib.ListN.{length}
use Rattle.signals.specs.Moment.{M}
use Rattle.signals.specs.Signal.{Signal}
use Rattle.signals.specs.Words.{list_fault, most_words}
use Rattle.signals.specs.Answers.{written_of}
use Rattle.operations.specs.Calls.{changes_after_m, answer_fault, length_fault, fault_of_one, exact_of_one, fault_of_two, exact_of_two}
use Rattle.operations.specs.Calls.{fault_of_delay}
use Rattle.operations.specs.Calls.{exact_of_delay, part_fault, room_fault}
use Rattle.signals.specs.Words.{pair_fault}
use Rattle.packing.proofs.SmallAnswers.{SmallWritten, choice, first_small, list_small, written_small}
use Rattle.operations.proofs.CallFaults.{part_none}
use Rattle.signals.specs.Answers.{first_of}
use Rattle.signals.proofs.FirstFault.{both_none}

answer_small : (exact : List ℕ) (n : ℕ) → answer_fault exact n < 65536
unfolding answer_fault part_fault room_fault
answer_small exact n =
    first_small (part_fault exact) (room_fault exact n)
    (choice (ltb most_words (length exact)) 5 _ (omega arith) (choice (changes_after_m exact) 6 0 (omega arith) (omega arith)))
    (choice (ltb n (length exact)) 7 0 (omega arith) (omega arith))

answer_short : (exact : List ℕ) (n : ℕ) → answer_fault exact n ≡ 0 → length exact < 65536
unfolding answer_fault
answer_short exact n z = omega (arith, (part_none exact (both_none (part_fault exact) (room_fault exact n) z).0).0)

pub one_small : (operation : Signal → Signal) (a : List ℕ) (n : ℕ)
    → SmallWritten (written_of (fault_of_one operation a n) (exact_of_one operation a))
unfolding fault_of_one
one_small operation a n =
    written_small _ _ (first_small (list_fault a) _ (list_small a) (answer_small (exact_of_one operation a) n))
    (λ z. answer_short (exact_of_one operation a) n (both_none (list_fault a) _ z).1)

pub two_small : (operation : Signal → Signal → Signal) (a b : List ℕ) (n : ℕ)
    → SmallWritten (written_of (fault_of_two operation a b n) (exact_of_two operation a b))
unfolding fault_of_two pair_fault
two_small operation a b n =
    written_small _ _
    (first_small (first_of (list_fault a) (list_fault b)) _
    (first_small (list_fault a) (list_fault b) (list_small a) (list_small b))
    (answer_small (exact_of_two operation a b) n))
    (λ z. answer_short (exact_of_two operation a b) n (both_none (first_of (list_fault a) (list_fault b)) _ z).1)

pub delay_small : (operation : Signal → Signal) (d : ℕ) (a : List ℕ) (n : ℕ)
    → SmallWritten (written_of (fault_of_delay operation d a n) (exact_of_delay operation d a))
unfolding fault_of_delay length_fault
delay_small operation d a n =
    written_small _ _
    (first_small (list_fault a) _ (list_small a)
    (first_small (cond (ltb M d) 8 0) _ (choice (ltb M d) 8 0 (omega arith) (omega arith)) (answer_small (exact_of_delay operation d a) n)))
    (λ z. answer_short (exact_of_delay operation d a) n (both_none (cond (ltb M d) 8 0) _ (both_none (list_fault a) _ z).1).1)
