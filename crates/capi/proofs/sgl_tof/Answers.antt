-- `capi::sgl_tof` packs the answer and leaves the output as the call does.
use mathlib.Core.Path.{◌∙◌}
use Rattle.packing.proofs.SmallAnswers.{packed_written}
use Rattle.packing.proofs.SmallOperations.{delay_small}
use Rattle.capi.proofs.sgl_tof.Goals as goal

pub returns : goal.returns
returns c =
    let called = c.tof.ensures in
    (c.pack_written.ensures ∙ packed_written _ _ called.0 (delay_small _ _ _ _), called.1)
