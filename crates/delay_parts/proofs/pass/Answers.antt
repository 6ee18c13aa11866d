-- `delay_parts::pass` settles what comes before the word, and follows its two values.
use Rattle.signals.specs.Words.{date_of, value_at, value_after}
use Rattle.delaying.specs.Turns.{state_of}
use Rattle.delaying.proofs.WordTests.{passes}
use Rattle.delay_parts.proofs.pass.Goals as goal

pub returns : goal.returns
unfolding date_of value_at value_after
returns c =
    let going = c.settle-before.result in
    passes _ _ _ _ (state_of going.timer going.made c.settle-before.new.slot) c.settle-before.ensures _ _ _ _ _ _ _ _
    c.on_level-here.ensures c.on_level-next.ensures c.follow-now_at.ensures c.follow-now_after.ensures
    c.on_level-at.ensures c.on_level-after.ensures c.emit.ensures
