-- `tokens::leaf_end` meets its contract: a byte that is next stands before the text's end.
use native.Mathlib.Omega.{arith}
use mathlib.Core.Path.{sym}
use Rattle.marks.specs.Marks.{lent}
use Rattle.marks.proofs.Marking.{inside, lent_most}
use Rattle.tokens.proofs.leaf_end.Goals as goal

pub overflow_add-result : goal.overflow_add-result
overflow_add-result c =
    let a = c.args in
    let i = inside (lent a.text.now a.bytes) a.m.now _ (sym c.next.ensures) (omega arith) in
    omega (arith, i.before, lent_most a.text.now a.bytes)
