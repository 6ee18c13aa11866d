-- `delay_parts::delay_at` meets its contract: it begins where it may, and then the engine builds its answer in the slot.
use mathlib.Core.Path.{sym, ◌∙◌}
use Rattle.lent_slots.proofs.MayBuild.{may_all, at_rest, at_work}
use Rattle.delay_parts.proofs.delay_at.Goals as goal

pub run-requires : goal.run-requires
run-requires c = let z = may_all _ _ _ _ (sym c.begins.ensures ∙ c.if-begins.true) in (z.1, z.2)

pub returns-then-begins : goal.returns-then-begins
returns-then-begins c =
    at_work _ _ _ _ _ _ _ _ _ c.begins.ensures c.if-begins.true _ _ c.run.ensures _
    c.finish.ensures

pub returns : goal.returns
returns c = at_rest _ _ _ _ _ _ _ _ _ c.begins.ensures c.if-begins.false
