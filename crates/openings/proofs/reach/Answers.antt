-- `openings::reach` meets its contract.
use mathlib.Core.Path.{sym, ap, ◌∙◌}
use Rattle.names.specs.Names.{letter}
use Rattle.marks.specs.Marks.{lent}
use Rattle.openings.proofs.Words.{reach_name, reach_word, reach_bad}
use Rattle.openings.proofs.reach.Goals as goal

pub returns-then-not-m : goal.returns-then-not-m
returns-then-not-m c = let a = c.args in reach_bad (lent a.text.now a.bytes) a.m.now c.if-not-m.true

pub returns-then-is_letter : goal.returns-then-is_letter
returns-then-is_letter c =
    let a = c.args in
    reach_name (lent a.text.now a.bytes) a.m.now c.if-not-m.false
    (ap letter (sym c.next.ensures) ∙ sym c.is_letter.ensures ∙ c.if-is_letter.true)

pub returns-else-is_letter : goal.returns-else-is_letter
returns-else-is_letter c =
    let a = c.args in
    c.word_reach.ensures ∙ rw (c.rest.ensures)
    (reach_word (lent a.text.now a.bytes) a.m.now c.if-not-m.false
    (ap letter (sym c.next.ensures) ∙ sym c.is_letter.ensures ∙ c.if-is_letter.false))
