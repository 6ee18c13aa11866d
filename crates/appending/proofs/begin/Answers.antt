-- `appending::begin` meets its contract.
use native.Mathlib.Omega.{arith}
use mathlib.Core.Path.{◌∙◌}
use Rattle.slices.proofs.Placing.{put_fits}
use Rattle.format.proofs.Filling.{begin_short, begin_put}
use Rattle.appending.proofs.begin.Goals as goal

pub returns-then-out-lt-FIRST_AT : goal.returns-then-out-lt-FIRST_AT
returns-then-out-lt-FIRST_AT c = begin_short c.args.out.now c.if-out-lt-FIRST_AT.true

pub returns : goal.returns
returns c =
    let if1 = c.if-out-lt-FIRST_AT in
    let args = c.args in
    let put = c.put in
    let put16 = c.put16 in
    let put162 = c.put16-2 in
    begin_put args.out.now put.new.out put16.new.out put162.new.out if1.false (put.ensures ∙ put_fits _ _ _ (omega arith))
    put16.ensures put162.ensures
