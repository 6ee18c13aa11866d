-- `verdict_line::push_answer` meets its contract.
use Rattle.std.proofs.Common.{rules}
use Rattle.verdict_line.specs.Line.{holds_text, fails_at_text, fails_after_text, refused_text}
use Rattle.verdict_line.proofs.push_answer.Goals as goal

pub returns-in-Holds : goal.returns-in-Holds
unfolding holds_text
returns-in-Holds c = search rules

pub returns-in-FailsAt : goal.returns-in-FailsAt
unfolding fails_at_text
returns-in-FailsAt c = search rules

pub returns-in-FailsAfter : goal.returns-in-FailsAfter
unfolding fails_after_text
returns-in-FailsAfter c = search rules

pub returns-in-Refused : goal.returns-in-Refused
unfolding refused_text
returns-in-Refused c = search rules
