-- The operation of a code word on accepted lists is judged to have no fault but 5 and 6, those of the part that it stands for.
use Prim.Native.Nat.{ℕ, ◌/◌, ◌%◌, ◌≤◌}
use native.Mathlib.Omega.{arith}
use mathlib.Core.Path.{◌≡◌, refl, ◌∙◌, ap}
use mathlib.Core.Bool.{Bool, true, false, cond}
use mathlib.Core.List.{List}
use lib.Dec.{eqb}
use borrow.Author.Tests.{le-ltb}
use Rattle.signals.specs.Moment.{M}
use Rattle.signals.specs.Words.{list_fault, pair_fault}
use Rattle.signals.specs.Answers.{first_of}
use Rattle.signals.proofs.FirstFault.{next_is}
use Rattle.operations.specs.Calls.{length_fault}
use Rattle.grammar.specs.Kinds as kinds
use Rattle.grammar.specs.Tree.{Unary, invert, rise, fall, ton, tof, tp}
use Rattle.grammar.specs.Code.{ticks_of}
use Rattle.code_words.specs.CodeWords.{operands_of}
use Rattle.applying.specs.PartCalls.{unary_of, binary_in, unary_fault, unary_exact, binary_exact, judged_for, exact_for}
use Rattle.machine.proofs.PartCodes.{arity_one, arity_two}

-- the operands of a part are accepted, and so is its length
pub pair_ok : (a b : List ℕ) → list_fault a ≡ 0 → list_fault b ≡ 0 → pair_fault a b ≡ 0
unfolding pair_fault
pair_ok a b x y = next_is (list_fault a) (list_fault b) x ∙ y

delay_ok : (a : List ℕ) (d : ℕ) → list_fault a ≡ 0 → d ≤ M → first_of (list_fault a) (length_fault d) ≡ 0
unfolding length_fault
delay_ok a d x y = next_is (list_fault a) _ x ∙ rw (le-ltb M d y)

pub unary_ok : (o : Unary) (a : List ℕ) → list_fault a ≡ 0 → ticks_of o ≤ M → unary_fault o a ≡ 0
unary_ok invert a x y = x
unary_ok rise a x y = x
unary_ok fall a x y = x
unary_ok (ton d) a x y = delay_ok a d x y
unary_ok (tof d) a x y = delay_ok a d x y
unary_ok (tp d) a x y = delay_ok a d x y

-- 32 bits hold it
whole_length : (k n : ℕ) → ticks_of (unary_of k n) ≤ M → unary_of k (n % 4294967296) ≡ unary_of k n
unfolding unary_of
whole_length k n h = go (eqb k kinds.NOT) (eqb k kinds.RISING) (eqb k kinds.FALLING) (eqb k kinds.TON) (eqb k kinds.TOF) h
  where
    named : (a b c d e : Bool) → ℕ → Unary
    named a b c d e n = cond a invert (cond b rise (cond c fall (cond d (ton n) (cond e (tof n) (tp n)))))

    go : (a b c d e : Bool) → ticks_of (named a b c d e n) ≤ M → named a b c d e (n % 4294967296) ≡ named a b c d e n
    go true b c d e h = refl
    go false true c d e h = refl
    go false false true d e h = refl
    go false false false true e h = ap ton (omega arith)
    go false false false false true h = ap tof (omega arith)
    go false false false false false h = ap tp (omega arith)

-- what a code word asks for, by the number of its operands
module _ (w : ℕ) (a b : List ℕ) where
  pub judged_one : operands_of w ≡ 1 → list_fault a ≡ 0 → ticks_of (unary_of (w % 16) (w / 16)) ≤ M → judged_for w a b ≡ 0
  unfolding judged_for
  judged_one e x y = rw (arity_one (w % 16) e, whole_length (w % 16) (w / 16) y) (unary_ok (unary_of (w % 16) (w / 16)) a x y)

  pub exact_one : operands_of w ≡ 1 → ticks_of (unary_of (w % 16) (w / 16)) ≤ M → exact_for w a b ≡ unary_exact
      (unary_of (w % 16) (w / 16)) a
  unfolding exact_for
  exact_one e y = rw (arity_one (w % 16) e, whole_length (w % 16) (w / 16) y)

  pub judged_two : operands_of w ≡ 2 → list_fault a ≡ 0 → list_fault b ≡ 0 → judged_for w a b ≡ 0
  unfolding judged_for
  judged_two e x y = rw (arity_two (w % 16) e) (pair_ok a b x y)

  pub exact_two : operands_of w ≡ 2 → exact_for w a b ≡ binary_exact (binary_in w) a b
  unfolding exact_for
  exact_two e = rw (arity_two (w % 16) e)
