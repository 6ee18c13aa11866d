-- `copying::copy` meets its contract.
use Rattle.std.proofs.Common.{arith, length-set}
use Rattle.copying.proofs.Copying.{copy_next, copy_done}
use Rattle.copying.proofs.copy.Goals as goal

pub loop-i-preserved : goal.loop-i-preserved
loop-i-preserved g c =
    let loop = c.loop-i in (
      simp length-set loop.invariant.0,
      copy_next c.args.items.now c.args.out.now loop.out loop.i c.index-items-i.result loop.invariant.1 (omega arith) (omega arith)
          c.index-items-i.is,
    )

pub returns : goal.returns
returns g c = copy_done c.args.items.now c.args.out.now c.loop-i.out c.loop-i.i c.loop-i.invariant.1 (omega arith)
