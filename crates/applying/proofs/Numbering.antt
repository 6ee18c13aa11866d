-- The answer of an operation on accepted lists as the part's: 5 for one that is too long, 6 for one that is too late.
use Prim.Native.Nat.{ℕ}
use mathlib.Core.Path.{◌≡◌, refl}
use mathlib.Core.Bool.{Bool, true, false, cond}
use mathlib.Core.List.{List}
use lib.Dec.{ltb, eqb}
use lib.ListN.{length}
use Rattle.signals.specs.Answers.{written_of}
use Rattle.signals.specs.declared.Written.TheVariants.{Count, Refused}
use Rattle.operations.specs.Calls.{changes_after_m, part_fault}
use Rattle.building.specs.Slots.{built_answer}
use Rattle.building.specs.declared.SlotAnswer.TheVariants.{Stands, TooLong, TooLate}
use Rattle.applying.specs.PartCalls.{part_answer}
use Rattle.signals.specs.Words.{most_words}

pub numbered : (exact : List ℕ) → part_answer (built_answer exact) ≡ written_of (part_fault exact) exact
unfolding built_answer part_fault written_of
numbered exact = go (ltb most_words (length exact)) (changes_after_m exact)
  where
    go : (b c : Bool)
        → part_answer (cond b TooLong (cond c TooLate (Stands (length exact))))
        ≡ cond (eqb (cond b 5 (cond c 6 0)) 0) (Count (length exact)) (Refused (cond b 5 (cond c 6 0)))
    go true c = refl
    go false true = refl
    go false false = refl
