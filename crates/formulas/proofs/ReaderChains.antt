-- The paths through the readers of a chain of operands with an operator between them: + of products, and . of factors.
use Prim.Native.Nat.{ℕ, suc, ◌+◌, ◌*◌, ◌-◌, ◌<◌}
use native.Mathlib.Omega.{arith}
use mathlib.Core.Path.{◌≡◌, refl, ap, ◌∙◌}
use mathlib.Core.Bool.{false}
use mathlib.Core.List.{List}
use lib.Dec.{eqb}
use lib.ListN.{length}
use borrow.Author.Tests.{eq-eqb}
use Rattle.grammar.specs.Reader.{State, stepped, put}
use Rattle.grammar.specs.Formula.{coded}
use Rattle.marks.specs.declared.Mark.{Mark}
use Rattle.marks.specs.Marks.{next_mark}
use Rattle.moves.specs.Moves.{put_code, put_words}
use Rattle.formulas.specs.Readers.{view_of, Ready, Done}
use Rattle.grammar.proofs.Branches.{Chain}
use Rattle.formulas.proofs.Doing.{view_next, put_is, ready_on, starting, turned, calling, putting, finishing}
use Rattle.formulas.proofs.ReaderPaths.{Step, before, one_on, past, own_byte}

module _ {text : List ℕ} {deep byte kind level : ℕ} {operand rest whole : ℕ → State ℕ → State ℕ}
    (C : Chain coded text deep byte kind level operand rest whole)
    {old : List ℕ} {m : Mark} (g : Ready text old m deep) where
  pub first_needs : {t : ℕ} → 5 * (length text - m.at) + deep + suc level ≡ t →
      (5 * (length text - m.at) + deep + level < t) × Ready text old m deep
  first_needs e = (omega arith, g)

  pub after_first : {t : ℕ} {mid : List ℕ} {x : Mark} → 5 * (length text - m.at) + deep + suc level ≡ t →
      Done operand level text m old mid x →
      (5 * (length text - x.at) + deep + 1 < t) × Ready text mid x deep
  after_first e p = (omega (arith, p.on, p.within, C.above), ready_on g p)

  pub whole_path : {mid new : List ℕ} {x r : Mark} → Done operand level text m old mid x → Done rest 1 text x mid new r →
      Done whole (suc level) text m old new r
  whole_path p s = finishing (calling p s (omega (arith, p.on, p.within, C.above))) (λ n out. C.begins n (view_of m out))

  pub rest_end : eqb (next_mark text m) byte ≡ false → Done rest 1 text m old old m
  rest_end e = finishing (starting 0 g) (λ n out. C.goes_on n (view_of m out) ∙ rw (view_next text m out, e) refl)

-- past the operator's byte
module _ {text : List ℕ} {deep byte kind level : ℕ} {operand rest whole : ℕ → State ℕ → State ℕ}
    (C : Chain coded text deep byte kind level operand rest whole)
    {old : List ℕ} {m : Mark} {t : ℕ} {x : Mark} (k : Step text old m deep 1 t byte x) where
  pub operand_needs : (5 * (length text - x.at) + deep + level < t) × Ready text old x deep
  operand_needs = (omega (arith, one_on k, before k, C.below, k.falls), ready_on k.ready (past k 0))

  -- an operand after it, to y
  module _ {mid : List ℕ} {y : Mark} (p : Done operand level text x old mid y) where
    read : Done (λ n s. operand n (stepped 1 s)) 0 text m old mid y
    read = calling (past k 0) p (omega (arith, one_on k, before k, C.below))

    -- and the operator put out, to z
    module _ {mid2 : List ℕ} {z : Mark} (w : (z ≡ put_words y deep 0) × (mid2 ≡ put_code y kind mid)) where
      joined : Done (λ n s. put kind deep 0 (operand n (stepped 1 s))) 0 text m old mid2 z
      joined = turned w.1 w.0 (putting kind deep 0 k.ready read (own_byte k p))

      beyond : m.at < z.at
      beyond = omega (arith, ap (λ (j : Mark). j.at) w.0 ∙ (put_is y deep 0).at, p.on, one_on k)

      pub rest_needs : (5 * (length text - z.at) + deep + 1 < t) × Ready text mid2 z deep
      rest_needs = (omega (arith, beyond, joined.within, k.falls), ready_on k.ready joined)

      pub rest_path : {new : List ℕ} {r : Mark} → Done rest 1 text z mid2 new r → Done rest 1 text m old new r
      rest_path s =
          finishing (calling joined s (omega (arith, beyond, joined.within)))
          (λ n out. C.goes_on n (view_of m out) ∙ rw (view_next text m out, eq-eqb _ _ k.next) refl)
