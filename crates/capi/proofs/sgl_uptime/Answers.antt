-- `capi::sgl_uptime` packs the answer and leaves the output as the call does.
use mathlib.Core.Path.{◌∙◌}
use Rattle.packing.proofs.SmallAnswers.{packed_uptime}
use Rattle.packing.proofs.SmallUpTimes.{up_time_small}
use Rattle.capi.proofs.sgl_uptime.Goals as goal

pub returns : goal.returns
returns c =
    let small = up_time_small _ _ _ _ (λ i. (c.type_inv.sheet i).fits) in
    (c.pack_uptime.ensures ∙ packed_uptime _ _ c.uptime.ensures.0 small, c.uptime.ensures.1)
