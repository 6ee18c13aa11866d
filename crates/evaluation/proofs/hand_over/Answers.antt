-- `evaluation::hand_over` meets its contract: 7, or the list at the front of the output.
use Rattle.evaluation.proofs.Copying.{no_room, handed}
use Rattle.evaluation.proofs.hand_over.Goals as goal

pub returns-then-out-count : goal.returns-then-out-count
returns-then-out-count c = no_room _ _ _ c.length_of-count.ensures c.if-out-count.true

pub copy_words-requires : goal.copy_words-requires
copy_words-requires c = (c.length_of-count.ensures, c.if-out-count.false)

pub returns : goal.returns
returns c = handed _ _ _ _ c.length_of-count.ensures
    c.if-out-count.false c.copy_words.ensures
