-- Storing a list's elements one after the other.
use Prim.Native.Nat.{ℕ, ◌≤◌}
use native.Mathlib.Nat.{zero-add}
use native.Mathlib.Omega.{arith}
use mathlib.Core.Path.{◌≡◌, refl, ◌∙◌}
use mathlib.Core.List.{List, ◌++◌}
use lib.ListN.{length, drop}
use lib.Dec.{eqb}
use lib.Seq.{sets, sets-eq, length-sets}
use borrow.Author.Tests.{eq-eqb}
use Rattle.grammar.specs.Formula.{formula_fault, code_of, code_after}
use Rattle.grammar.proofs.Bytes.{by_cond}

-- where there is room for them, they take the place of as many at the front
pub sets_front : (words l : List ℕ) → length words ≤ length l → sets l 0 words ≡ words ++ drop (length words) l
sets_front words l h = sets-eq words l 0 (omega arith) ∙ rw (zero-add (length words)) refl

-- the code words after a call of `read`: as many as before; without a fault, the formula's words at the front
pub code_after_length : (text old : List ℕ) → length (code_after text old) ≡ length old
unfolding code_after
code_after_length text old =
    by_cond (λ (l : List ℕ). length l ≡ length old) (eqb (formula_fault text) 0) (λ e. length-sets old 0 (code_of text)) (λ e. refl)

pub code_after_front : (text old : List ℕ) → formula_fault text ≡ 0 → length (code_of text) ≤ length old →
    code_after text old ≡ code_of text ++ drop (length (code_of text)) old
unfolding code_after
code_after_front text old e h = rw (eq-eqb (formula_fault text) 0 e) (sets_front (code_of text) old h)
