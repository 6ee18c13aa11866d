-- `moves::pass` meets its contract.
use borrow.Author.Tests.{eqb-true, ltb-true}
use native.Mathlib.Omega.{arith}
use mathlib.Core.Path.{◌≡◌, sym, ◌∙◌}
use Rattle.marks.specs.Marks.{next_mark, lent}
use Rattle.marks.proofs.Marking.{inside, lent_most}
use Rattle.moves.proofs.pass.Goals as goal
use Rattle.moves.proofs.pass.Goals.{then-b-gt0, else-b-gt0}

-- the byte is next, so the mark stands before the text's end
pub overflow_add-m : goal.overflow_add-m
overflow_add-m c =
    let a = c.args in
    let text = lent a.text.now a.bytes in
    elim c.if-b-gt0.branch [
      | then-b-gt0 w ↦
          let e : next_mark text a.m.now ≡ a.b = sym w.next.ensures ∙ eqb-true _ _ (sym w.is_next-is ∙ c.if-is_next.true) in
          let i = inside text a.m.now a.b e (omega (arith, w.if-b-gt0.true)) in
          omega (arith, i.before, lent_most a.text.now a.bytes)
      | else-b-gt0 w ↦ absurd (omega (arith, ltb-true 0 a.b (sym w.is_next-is ∙ c.if-is_next.true), w.if-b-gt0.false))
    ]
