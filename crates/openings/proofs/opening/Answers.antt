-- `openings::opening` meets its contract.
use mathlib.Core.Path.{sym, ◌∙◌}
use Rattle.marks.specs.Marks.{lent}
use Rattle.openings.proofs.Words.{bracket_next, block_next, prefix_next}
use native.Mathlib.Omega.{arith}
use Rattle.openings.proofs.opening.Goals as goal

pub returns-in-40 : goal.returns-in-40
returns-in-40 c = let a = c.args in bracket_next (lent a.text.now a.bytes) a.m.now (sym c.next.ensures ∙ c.in-40.is)

pub returns-in-65-to-90 : goal.returns-in-65-to-90
returns-in-65-to-90 c =
    let a = c.args in
    c.block_kind.ensures ∙ rw (c.rest.ensures) (block_next (lent a.text.now a.bytes) a.m.now c.next.result (sym c.next.ensures)
    (omega arith) (omega arith))

pub returns-in_default : goal.returns-in_default
returns-in_default c =
    let a = c.args in
    c.prefix_kind.ensures ∙ prefix_next (lent a.text.now a.bytes) a.m.now c.next.result (sym c.next.ensures)
    (λ h. absurd (omega arith)) (λ low high. absurd (omega arith))
