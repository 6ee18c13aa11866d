-- `sources::Lent::start` reads past the first word.
use Rattle.signals.specs.Words.{value_after}
use Rattle.sources.proofs.Going.{started}
use Rattle.sources.proofs.Lent.start.Goals as goal

pub returns : goal.returns
unfolding value_after
returns c = started _ _ _ c.next_word-first.ensures c.cursor_at.ensures
