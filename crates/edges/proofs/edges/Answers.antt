-- `edges::edges` meets its contract: the list is judged, then its edges are built in the output, or in a slot and delivered.
use native.Mathlib.Omega.{arith}
use mathlib.Core.Path.{sym, ◌∙◌}
use lib.ListN.{replicate}
use Rattle.operations.specs.Calls.{fault_of_one}
use Rattle.operations.proofs.JudgedCalls.{refused, passes_on}
use Rattle.building.proofs.Delivering.{delivered}
use Rattle.edges.proofs.Turned.{first_is}
use Rattle.edges.proofs.Edged.{edges_exact, edges_there}
use Rattle.edges.proofs.edges.Goals as goal

pub returns-then-fault-ne0 : goal.returns-then-fault-ne0
unfolding fault_of_one
returns-then-fault-ne0 c = refused _ _ _ _ _ c.list_fault-fault.ensures c.if-fault-ne0.true

pub edge_words-made-requires : goal.edge_words-made-requires
edge_words-made-requires c =
    (first_is _ (sym c.list_fault-fault.ensures ∙ c.if-fault-ne0.false)).0

pub returns-then-a-out : goal.returns-then-a-out
returns-then-a-out c =
    let x = c.args in
    edges_there x.level x.a.now (sym c.list_fault-fault.ensures ∙ c.if-fault-ne0.false)
    (λ i. (c.type_inv.a i).fits) x.out.now _ _ c.edge_words-made.ensures
    c.if-a-out.true

pub returns : goal.returns
unfolding fault_of_one
returns c =
    let x = c.args in
    let ok = sym c.list_fault-fault.ensures ∙ c.if-fault-ne0.false in
    let built = edges_exact x.level x.a.now ok (λ i. (c.type_inv.a i).fits)
    (replicate 256 0) _ _ c.edge_words-made-2.ensures in
    passes_on _ _ _ _ _ _ ok (delivered _ _ _ _ built (λ h. omega arith) (omega arith) x.out.now _ _ c.deliver.ensures)
