-- `reading::past_at` passes a word of that date.
use Rattle.std.proofs.Common.{rules}
use Rattle.signals.specs.Words.{date_of, value_at, value_after}
use Rattle.signals.specs.Passing.{is_next, at_date, after_date, passed_date}
use Rattle.reading.proofs.past_at.Goals as goal

pub returns-then-w-date : goal.returns-then-w-date
unfolding is_next at_date after_date passed_date date_of value_at value_after
returns-then-w-date c = search rules

pub returns-in-Some : goal.returns-in-Some
unfolding is_next at_date after_date passed_date date_of value_at value_after
returns-in-Some c = search rules

pub returns : goal.returns
unfolding is_next at_date after_date passed_date date_of value_at value_after
returns c = search rules
