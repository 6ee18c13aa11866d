-- `uptimes::pass` meets its contract.
use mathlib.Core.Path.{◌∙◌}
use Rattle.uptimes.specs.Turns.{state_of}
use Rattle.uptimes.proofs.Turning.{stays_up, falls, was_down}
use Rattle.uptimes.proofs.pass.Goals as goal

pub returns-then-not-before : goal.returns-then-not-before
returns-then-not-before c = was_down _ _ _ (state_of _ _) c.if-not-before.true

pub returns-then-after : goal.returns-then-after
returns-then-after c = stays_up _ _ _ (state_of _ _) c.if-not-before.false c.if-after.true

pub returns-else-after : goal.returns-else-after
returns-else-after c =
    c.end_before.ensures ∙ falls _ _ _ (state_of _ _) c.if-not-before.false c.if-after.false
