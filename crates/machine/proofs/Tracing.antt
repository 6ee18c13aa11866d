-- A tree's parts in working-out order make its subtrees in that order, on a stack that never runs out and stays low.
use Prim.Native.Nat.{ℕ, suc, ◌+◌, ◌≤◌}
use native.Mathlib.Omega.{arith}
use mathlib.Core.Path.{◌≡◌, refl, sym, ◌∙◌, ap}
use mathlib.Core.List.{List, [], ◌∷◌, ◌++◌, append_assoc, append-nil}
use lib.ListN.{length}
use Rattle.grammar.specs.Tree.{Tree, leaf, unary, binary}
use Rattle.grammar.specs.Code.{Part, operand, one, two, code, work, top}
use Rattle.grammar.proofs.Working.{worked as work-code}
use Rattle.grammar.specs.Parts.{parts}

-- one part worked out on a stack of trees
abbrev pub worked : Part → List Tree → List Tree
worked (operand l) st = leaf l ∷ st
worked (one o) [] = []
worked (one o) (t ∷ st) = unary o t ∷ st
worked (two o) [] = []
worked (two o) (u ∷ []) = []
worked (two o) (u ∷ t ∷ st) = binary o t u ∷ st

-- the stack has the part's operands
abbrev pub Enough : Part → List Tree → Type 0
Enough (operand l) st = Unit {0}
Enough (one o) [] = ⊥
Enough (one o) (t ∷ st) = Unit {0}
Enough (two o) [] = ⊥
Enough (two o) (u ∷ []) = ⊥
Enough (two o) (u ∷ t ∷ st) = Unit {0}

-- the trees that parts make, one after the other
unfoldable pub trace : List Part → List Tree → List Tree
trace [] st = []
trace (p ∷ ps) st = top (worked p st) ∷ trace ps (worked p st)

pub traced : (t : Tree) (ps : List Part) (st : List Tree) → trace (code t ++ ps) st ≡ parts t ++ trace ps (t ∷ st)
unfolding trace code parts
traced (leaf l) ps st = refl
traced (unary o t) ps st =
    ap (λ l. trace l st) (append_assoc (code t) (one o ∷ []) ps)
    ∙ traced t (one o ∷ ps) st
    ∙ sym (append_assoc (parts t) (unary o t ∷ []) (trace ps (unary o t ∷ st)))
traced (binary o t u) ps st =
    ap (λ l. trace l st) (append_assoc (code t) (code u ++ (two o ∷ [])) ps ∙ ap (λ l. code t ++ l) (append_assoc (code u) (two o ∷ []) ps))
    ∙ traced t (code u ++ (two o ∷ ps)) st
    ∙ ap (λ l. parts t ++ l) (traced u (two o ∷ ps) (t ∷ st))
    ∙ ap (λ l. parts t ++ l) (sym (append_assoc (parts u) (binary o t u ∷ []) (trace ps (binary o t u ∷ st))))
    ∙ sym (append_assoc (parts t) (parts u ++ (binary o t u ∷ [])) (trace ps (binary o t u ∷ st)))

pub trace_code : (t : Tree) → trace (code t) [] ≡ parts t
unfolding trace
trace_code t = ap (λ l. trace l []) (sym (append-nil (code t))) ∙ traced t [] [] ∙ append-nil (parts t)

pub work_all : (t : Tree) → work (code t) [] ≡ t ∷ []
unfolding work
work_all t = ap (λ l. work l []) (sym (append-nil (code t))) ∙ work-code t [] []

-- one part
pub work_step : (p : Part) (ps : List Part) (st : List Tree) (t : Tree) → work (p ∷ ps) st ≡ t ∷ [] → Enough p st ×
    (work ps (worked p st) ≡ t ∷ [])
unfolding work
work_step (operand l) ps st t e = (tt, e)
work_step (one o) ps [] t e = absurd (let z : ◌≡◌ {A = ℕ} 0 1 = ap length e in omega arith)
work_step (one o) ps (u ∷ st) t e = (tt, e)
work_step (two o) ps [] t e = absurd (let z : ◌≡◌ {A = ℕ} 0 1 = ap length e in omega arith)
work_step (two o) ps (u ∷ []) t e = absurd (let z : ◌≡◌ {A = ℕ} 0 1 = ap length e in omega arith)
work_step (two o) ps (u ∷ v ∷ st) t e = (tt, e)

-- the stack is at most as high as there are parts left to take it down
pub low_enough : (ps : List Part) (st : List Tree) → length st ≤ length (work ps st) + length ps
unfolding work
low_enough [] st = omega arith
low_enough (operand l ∷ ps) st = let h = low_enough ps (leaf l ∷ st) in omega arith
low_enough (one o ∷ ps) [] = omega arith
low_enough (one o ∷ ps) (t ∷ st) = let h = low_enough ps (unary o t ∷ st) in omega arith
low_enough (two o ∷ ps) [] = omega arith
low_enough (two o ∷ ps) (u ∷ []) = omega arith
low_enough (two o ∷ ps) (u ∷ t ∷ st) = let h = low_enough ps (binary o t u ∷ st) in omega arith

-- and at most one higher after a part
pub grows_by_one : (p : Part) (st : List Tree) → length (worked p st) ≤ suc (length st)
grows_by_one (operand l) st = omega arith
grows_by_one (one o) [] = omega arith
grows_by_one (one o) (t ∷ st) = omega arith
grows_by_one (two o) [] = omega arith
grows_by_one (two o) (u ∷ []) = omega arith
grows_by_one (two o) (u ∷ t ∷ st) = omega arith
