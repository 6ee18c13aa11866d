-- `applying::timed_at` numbers the answer of a timer.
use mathlib.Core.Path.{refl}
use Rattle.applying.proofs.PartsMade.{timer_part}
use Rattle.applying.proofs.Operators.{a_delay, a_pulse}
use Rattle.applying.proofs.timed_at.Goals as goal

pub returns-then-kind : goal.returns-then-kind
returns-then-kind c =
    timer_part _ _ _ _ _ _ c.part_answer.ensures _ _ _ _ (a_delay _ _ c.if-kind.true) refl
    c.requires c.delay_at.ensures

pub returns : goal.returns
returns c =
    timer_part _ _ _ _ _ _ c.part_answer-2.ensures _ _ _ _ (a_pulse _ _ c.if-kind.false) refl
    c.requires c.pulse_at.ensures
