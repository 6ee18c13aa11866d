-- `delays::delivered` meets its contract: the engine's answer is delivered from a slot that holds it.
use Prim.Native.Nat.{◌*◌}
use native.Mathlib.Omega.{arith}
use mathlib.Core.Path.{refl, sym}
use lib.ListN.{length, replicate}
use Rattle.signals.proofs.Normal.{accepted_start}
use Rattle.operations.proofs.JudgedCalls.{passes_on}
use Rattle.operations.proofs.DelayJudged.{fault_order, neither}
use Rattle.delaying.proofs.FewWords.{short_answer}
use Rattle.delaying.proofs.DelayedExact.{delay_answers}
use Rattle.delays.proofs.delivered.Goals as goal

pub delay_words-made-requires : goal.delay_words-made-requires
delay_words-made-requires g c = (accepted_start _ c.requires.accepted).within

pub returns : goal.returns
returns g c =
    let ask = c.requires in
    let few = short_answer _ _ _ _ (2 * length c.args.f.now) (accepted_start _ ask.accepted).within (omega arith)
    c.delay_words-made.ensures in
    rw (← (fault_order _ _ _ _))
    (passes_on _ _ _ _ _ _ (sym (neither 0 _ _ (sym ask.accepted) refl ask.short))
    (delay_answers _ _ _ ask.accepted ask.short (λ i. (c.type_inv.f i).fits) (replicate g.row.N 0)
    _ _ c.delay_words-made.ensures (λ h. omega (arith, few, h, ask.held)) c.delay_words-made.auto.slot
    c.args.out.now _ _ c.deliver.ensures))
