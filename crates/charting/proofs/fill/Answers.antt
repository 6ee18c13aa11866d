-- `charting::fill` meets its contract: the words of the moments so far are written, and the reader is behind the next moment's date.
use native.Mathlib.Omega.{arith}
use Rattle.charting.proofs.Filling.{filling_start, filling_next, filling_end}
use Rattle.charting.proofs.fill.Goals as goal

pub loop-i-init : goal.loop-i-init
loop-i-init c =
    let pre = c.requires in
    filling_start _ _ _ pre.list_value pre.moments_value pre.moments_in_bounds

pub bounds-out-i : goal.bounds-out-i
bounds-out-i c =
    omega (arith, c.loop-i-test.true, c.loop-i.invariant.long, c.requires.moments_in_bounds)

pub loop-i-preserved : goal.loop-i-preserved
loop-i-preserved c =
    let pre = c.requires in
    filling_next _ _ _ pre.list_value pre.moments_value pre.moments_in_bounds _ _ _ _ c.loop-i.invariant c.loop-i-test.true _ _ _
    c.along-behind.ensures c.past-step.ensures c.word_of.ensures

pub returns : goal.returns
returns c =
    let pre = c.requires in
    let end = filling_end _ _ _ pre.list_value pre.moments_value pre.moments_in_bounds _ _ _ _ c.loop-i.invariant c.loop-i-test.false in
    record { value = end.0; out_after = end.1 }
