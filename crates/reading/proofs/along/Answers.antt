-- `reading::along` meets its contract: what is gone along from the words passed is what is gone along from those passed first.
use native.Mathlib.Omega.{arith}
use mathlib.Core.Path.{refl, ◌∙◌}
use Rattle.reading.proofs.AlongWords.{Turned, turn, found}
use Rattle.reading.proofs.along.Goals as goal
use Rattle.reading.proofs.along.Goals.{After-next_date-next-in-loop-next}

pub loop-next-init : goal.loop-next-init
loop-next-init c = (refl, c.next_date-next.ensures)

after_turn : (c : After-next_date-next-in-loop-next)
    →
    Turned c.args.words.now c.args.date.0 c.loop-next.count
    c.past-step.result.passed
after_turn c =
    turn _ _ _ _ c.past-step.result c.loop-next.invariant.1 c.loop-next-test.true
    (omega arith) c.past-step.ensures

pub loop-next-smaller : goal.loop-next-smaller
loop-next-smaller c = omega (
  arith,
  (after_turn (goal.at.loop-next-smaller c).After-next_date-next-in-loop-next).left,
  (after_turn (goal.at.loop-next-smaller c).After-next_date-next-in-loop-next).one,
)

pub loop-next-preserved : goal.loop-next-preserved
loop-next-preserved c = (
  (after_turn (goal.at.loop-next-preserved c).After-next_date-next-in-loop-next).on ∙ c.loop-next.invariant.0,
  c.next_date-next-in-loop-next.ensures,
)

pub returns : goal.returns
returns c =
    let here = c.loop-next in
    found _ _ _ _ here.invariant.1 c.loop-next-test.false ∙ here.invariant.0
