-- `combining::delivered` meets its contract: the merge's answer is delivered from a slot that holds it.
use native.Mathlib.Omega.{arith}
use lib.ListN.{replicate}
use Rattle.signals.proofs.Normal.{accepted_normal, accepted_start}
use Rattle.operations.specs.Calls.{fault_of_two}
use Rattle.operations.proofs.JudgedCalls.{passes_on, pair_none}
use Rattle.building.proofs.Delivering.{delivered}
use Rattle.merging.proofs.MergedExact.{merged_exact}
use Rattle.combining.proofs.FewWords.{few_words}
use Rattle.combining.proofs.delivered.Goals as goal

pub made_in-made-requires : goal.made_in-made-requires
made_in-made-requires g c =
    let ok = pair_none _ _ c.requires.accepted in
    (((accepted_normal _).0 ok.0).1, ((accepted_normal _).0 ok.1).1)

pub returns : goal.returns
unfolding fault_of_two
returns g c =
    let x = c.args in
    let ok = pair_none _ _ c.requires.accepted in
    let built =
    merged_exact x.operation x.table x.a.now x.b.now ok.0 ok.1
    (λ i. (c.type_inv.a i).fits)
    (λ i. (c.type_inv.b i).fits) (replicate g.row.N 0) _ _ c.made_in-made.ensures in
    let few = few_words _ _ x.a.now x.b.now (replicate g.row.N 0) _ _ c.made_in-made.ensures in
    passes_on _ _ _ _ _ _ c.requires.accepted
    (delivered _ _ _ _ built (λ h. omega (arith, built.count_is, few, (accepted_start _ ok.0).within)) (omega arith) x.out.now _ _
    c.deliver.ensures)
