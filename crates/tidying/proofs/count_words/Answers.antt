-- `tidying::count_words` meets its contract: what is counted and what is left to count make the whole.
use native.Mathlib.Omega.{arith}
use Rattle.tidying.proofs.Turns.{change_le, above_le, count_start, count_turn, count_end}
use Rattle.tidying.proofs.count_words.Goals as goal

pub loop-i-init : goal.loop-i-init
loop-i-init c = count_start _ c.requires

pub overflow_add-kept : goal.overflow_add-kept
overflow_add-kept c =
    let at = c.loop-i in
    omega (arith, change_le _ _ _ c.changes-kept.ensures, at.invariant.few.0, at.invariant.short, at.invariant.within)

pub overflow_add-wrong : goal.overflow_add-wrong
overflow_add-wrong c =
    let at = c.loop-i in
    omega (arith, above_le _ _ _ c.not_above-wrong.ensures, at.invariant.few.1, at.invariant.short, at.invariant.within)

pub loop-i-preserved : goal.loop-i-preserved
loop-i-preserved c =
    let at = c.loop-i in
    let some = c.loop-i-test.true in
    count_turn _ _ _ _ at.invariant some _ _ c.changes-kept.ensures c.not_above-wrong.ensures

pub returns : goal.returns
returns c = count_end _ _ _ _ c.loop-i.invariant c.loop-i-test.false
