-- `lists::words_fault`: the words after the first are judged by what it holds.
use Rattle.lists.proofs.Judging.{from_head}
use Rattle.lists.proofs.words_fault.Goals as goal

pub loop-w-init : goal.loop-w-init
loop-w-init c = from_head _ c.requires
