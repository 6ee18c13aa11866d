-- `texts::last_digits` meets its contract: the digits still to be put and those that stand at the end of the array are the number's.
use native.Mathlib.Omega.{arith}
use mathlib.Core.Path.{◌≡◌}
use Rattle.texts.proofs.Digits.{put_first, put_place, put_next, put_all}
use Rattle.texts.proofs.last_digits.Goals as goal

pub loop-left-init : goal.loop-left-init
loop-left-init c = put_first c.args.n c.args.text.now (omega arith) c.requires

pub overflow_sub-at : goal.overflow_sub-at
overflow_sub-at c =
    let l = c.loop-left in
    put_place c.args.n l.text l.left l.at l.invariant c.loop-left-test.true

pub loop-left-preserved : goal.loop-left-preserved
loop-left-preserved c =
    let l = c.loop-left in
    put_next c.args.n l.text l.left l.at l.invariant c.loop-left-test.true

pub returns : goal.returns
returns c =
    let l = c.loop-left in
    let e : l.left ≡ 0 = omega arith in
    (l.invariant.within, l.invariant.size, put_all c.args.n l.text l.left l.at e l.invariant)
