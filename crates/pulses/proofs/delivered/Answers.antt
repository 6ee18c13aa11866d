-- `pulses::delivered` meets its contract: the pulses are delivered from a slot that holds them.
use Prim.Native.Nat.{◌*◌}
use native.Mathlib.Omega.{arith}
use mathlib.Core.Path.{refl, sym}
use lib.ListN.{length, replicate}
use Rattle.signals.proofs.Normal.{accepted_normal, accepted_start}
use Rattle.operations.proofs.JudgedCalls.{passes_on}
use Rattle.operations.proofs.DelayJudged.{fault_order, neither}
use Rattle.pulses.proofs.PulseAnswers.{pulse_answers, short_answer}
use Rattle.pulses.proofs.delivered.Goals as goal

pub pulse_words-made-requires : goal.pulse_words-made-requires
pulse_words-made-requires g c = ((accepted_normal _).0 c.requires.accepted).1

pub returns : goal.returns
returns g c =
    let ask = c.requires in
    let few = short_answer _ _ _ (2 * length c.args.f.now) (accepted_start _ ask.accepted).within (omega arith)
    c.pulse_words-made.ensures in
    rw (← (fault_order _ _ _ _))
    (passes_on _ _ _ _ _ _ (sym (neither 0 _ _ (sym ask.accepted) refl ask.short))
    (pulse_answers _ _ ask.accepted ask.short (λ i. (c.type_inv.f i).fits) (replicate g.row.N 0)
    _ _ c.pulse_words-made.ensures (λ h. omega (arith, few, h, ask.held)) c.pulse_words-made.auto.slot
    c.args.out.now _ _ c.deliver.ensures))
