-- The answer of a question by the tests that the code makes: the list's fault, then 9, then the value.
use Prim.Native.Nat.{ℕ, zero, suc}
use mathlib.Core.Path.{◌≡◌, refl}
use mathlib.Core.Bool.{Bool, true, false, cond, ◌||◌}
use mathlib.Core.List.{List}
use lib.Dec.{eqb, ltb}
use native.Mathlib.Omega.{arith}
use borrow.Author.Tests.{ne_eqb}
use Rattle.signals.specs.Moment.{M, gap, instant}
use Rattle.signals.specs.Words.{list_fault, signal_of}
use Rattle.signals.specs.declared.Told.TheVariants.{Refused}
use Rattle.questions.specs.Questions.{instant_fault, gap_fault, value_at_of, value_in_of}
use Rattle.signals.specs.Answers.{first_of, told_value, told_of}

told_is : (f : ℕ) (late v : Bool)
    → told_of (first_of f (cond late 9 0)) v ≡ cond (eqb f 0) (cond late (Refused 9) (told_value v)) (Refused f)
unfolding first_of told_of
told_is zero true v = refl
told_is zero false v = refl
told_is (suc f) late v = simp (ne_eqb (suc f) 0 (λ e. omega arith))

pub value_at_is : (l : List ℕ) (k : ℕ) → value_at_of l k
    ≡ cond (eqb (list_fault l) 0) (cond (eqb k 0 || ltb M k) (Refused 9) (told_value (signal_of l (instant k)))) (Refused (list_fault l))
unfolding value_at_of instant_fault
value_at_is l k = told_is (list_fault l) (eqb k 0 || ltb M k) (signal_of l (instant k))

pub value_in_is : (l : List ℕ) (k : ℕ) → value_in_of l k
    ≡ cond (eqb (list_fault l) 0) (cond (ltb M k) (Refused 9) (told_value (signal_of l (gap k)))) (Refused (list_fault l))
unfolding value_in_of gap_fault
value_in_is l k = told_is (list_fault l) (ltb M k) (signal_of l (gap k))
