-- `appending::put_words` meets its contract: so far the first i words are written.
use Rattle.format.proofs.Placing.{words_turn, words_none}
use Rattle.appending.proofs.put_words.Goals as goal

pub loop-i-init : goal.loop-i-init
loop-i-init c = words_none c.args.out.now c.args.at c.args.list.now c.requires

pub loop-i-preserved : goal.loop-i-preserved
loop-i-preserved c =
    words_turn c.args.out.now c.args.at c.args.list.now c.requires c.loop-i.i c.loop-i.out c.put32.new.out c.loop-i-test.true
    c.loop-i.invariant c.put32.ensures
