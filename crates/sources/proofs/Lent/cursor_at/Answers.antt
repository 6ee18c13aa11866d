-- `sources::Lent::cursor_at` reads the next word.
use Rattle.sources.specs.Sources.{cursor_at}
use Rattle.sources.proofs.Lent.cursor_at.Goals as goal

pub returns : goal.returns
unfolding cursor_at
returns c = rw c.next_word-word.ensures
