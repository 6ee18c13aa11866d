-- `sources::Lent::past` passes a word of the date, and reads the next one only then.
use mathlib.Core.Path.{sym}
use Rattle.signals.specs.Words.{value_at, value_after}
use Rattle.sources.proofs.Going.{taken_is, past_kept}
use Rattle.sources.proofs.Lent.past.Goals as goal

pub returns-then-at-date : goal.returns-then-at-date
unfolding value_at value_after
returns-then-at-date c = taken_is _ _ _ _ c.if-at-date.true (rw c.from.ensures at c.cursor_at.ensures)

pub returns : goal.returns
unfolding value_at value_after
returns c = sym (past_kept _ _ _ c.if-at-date.false)
