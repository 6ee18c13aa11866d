-- `edges::not` turns each value of an accepted list.
use mathlib.Core.Path.{sym, ◌∙◌}
use Rattle.operations.specs.Calls.{fault_of_one}
use Rattle.operations.proofs.JudgedCalls.{refused}
use Rattle.edges.proofs.Turned.{first_is, turned_short_lem, turned_written}
use Rattle.edges.proofs.not.Goals as goal

pub returns-then-fault-ne0 : goal.returns-then-fault-ne0
unfolding fault_of_one
returns-then-fault-ne0 c = refused _ _ _ _ _ c.list_fault-fault.ensures c.if-fault-ne0.true

pub returns-then-out-a : goal.returns-then-out-a
returns-then-out-a c =
    let x = c.args in
    turned_short_lem x.a.now (sym c.list_fault-fault.ensures ∙ c.if-fault-ne0.false)
    (λ i. (c.type_inv.a i).fits) x.out.now c.if-out-a.true

pub turn_words-requires : goal.turn_words-requires
turn_words-requires c =
    let first = first_is _ (sym c.list_fault-fault.ensures ∙ c.if-fault-ne0.false) in (first.0, first.1, c.if-out-a.false)

pub returns : goal.returns
returns c =
    let x = c.args in
    turned_written x.a.now (sym c.list_fault-fault.ensures ∙ c.if-fault-ne0.false)
    (λ i. (c.type_inv.a i).fits) x.out.now _ c.if-out-a.false
    c.turn_words.ensures
