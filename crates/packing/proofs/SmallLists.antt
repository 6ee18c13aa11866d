-- The answers of the questions on lists are small.
use Prim.Native.Nat.{ℕ, ◌<◌}
use native.Mathlib.Omega.{arith}
use mathlib.Core.Bool.{Bool, true, false, cond, ◌||◌}
use mathlib.Core.List.{List}
use lib.Dec.{eqb, ltb}
use lib.ListN.{length}
use Rattle.signals.specs.Moment.{M}
use Rattle.signals.specs.Words.{list_fault, tidy_fault}
use Rattle.signals.specs.Answers.{written_of}
use Rattle.signals.specs.Words.{tidied}
use Rattle.signals.specs.declared.Told.TheVariants as told
use Rattle.signals.proofs.TidyFaults.{tidy_fault_range}
use Rattle.signals.proofs.Tidying.{tidying}
use Rattle.signals.specs.Words.{pair_fault}
use Rattle.questions.specs.Questions.{instant_fault, gap_fault, value_at_of, value_in_of, equal_of, implies_of}
use Rattle.tidying.specs.Calls.{tidying_fault}
use Rattle.format.proofs.Accepting.{listed_some}
use Rattle.packing.proofs.SmallAnswers.{SmallWritten, SmallTold, SmallVerdict, choice, first_small, list_small, written_small}
use Rattle.packing.proofs.SmallAnswers.{answer_small}
use Rattle.signals.specs.Answers.{first_of, told_value, told_of}
use Rattle.signals.proofs.FirstFault.{both_none}

pair_small : (a b : List ℕ) → pair_fault a b < 65536
unfolding pair_fault
pair_small a b = first_small (list_fault a) (list_fault b) (list_small a) (list_small b)

told_small : (fault : ℕ) (v : Bool) → fault < 65536 → SmallTold (told_of fault v)
unfolding told_of
told_small fault v h = go (eqb fault 0) v
  where
    go : (t w : Bool) → SmallTold (cond t (told_value w) (told.Refused fault))
    go true true = omega arith
    go true false = omega arith
    go false w = h

pub value_at_small : (l : List ℕ) (k : ℕ) → SmallTold (value_at_of l k)
unfolding value_at_of instant_fault
value_at_small l k =
    told_small _ _
    (first_small (list_fault l) _ (list_small l) (choice (eqb k 0 || ltb M k) 9 0 (omega arith) (omega arith)))

pub value_in_small : (l : List ℕ) (k : ℕ) → SmallTold (value_in_of l k)
unfolding value_in_of gap_fault
value_in_small l k =
    told_small _ _ (first_small (list_fault l) _ (list_small l) (choice (ltb M k) 9 0 (omega arith) (omega arith)))

pub equal_small : (a b : List ℕ) → SmallTold (equal_of a b)
unfolding equal_of
equal_small a b = told_small _ _ (pair_small a b)

pub implies_small : (a b : List ℕ) → SmallVerdict (implies_of a b)
unfolding implies_of
implies_small a b = answer_small _ _ (pair_small a b)

pub tidy_small : (l : List ℕ) (n : ℕ) → SmallWritten (written_of (tidying_fault l n) (tidied l))
unfolding tidying_fault first_of
tidy_small l n =
    written_small _ _
    (choice (eqb (tidy_fault l) 0) (cond (ltb n (length (tidied l))) 7 0) (tidy_fault l)
    (choice (ltb n (length (tidied l))) 7 0 (omega arith) (omega arith))
    (omega (arith, tidy_fault_range l)))
    (λ z. omega (arith, (listed_some (tidied l) (tidying.accepted l (both_none (tidy_fault l) _ z).0)).1))
