-- `edges::turn_words` meets its contract: the words before i are there and the rest is as it was.
use native.Mathlib.Omega.{arith}
use Rattle.edges.proofs.Turned.{put_first, put_next, put_all}
use Rattle.edges.proofs.turn_words.Goals as goal

pub loop-i-init : goal.loop-i-init
loop-i-init c = put_first _ _ c.requires.0 (omega (arith, c.requires.0, c.requires.2))

pub loop-i-preserved : goal.loop-i-preserved
loop-i-preserved c = put_next _ _ _ c.loop-i.i (omega arith) (omega arith) (omega (arith, c.requires.2)) c.loop-i.invariant

pub returns : goal.returns
returns c = put_all _ _ _ c.loop-i.i (omega (arith, c.requires.0)) c.loop-i.invariant
