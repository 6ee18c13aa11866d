-- `capi::sgl_sr` packs the answer and leaves the output as the call does.
use mathlib.Core.Path.{◌∙◌}
use Rattle.packing.proofs.SmallAnswers.{packed_written}
use Rattle.packing.proofs.SmallOperations.{two_small}
use Rattle.capi.proofs.sgl_sr.Goals as goal

pub returns : goal.returns
returns c =
    let called = c.sr.ensures in
    (c.pack_written.ensures ∙ packed_written _ _ called.0 (two_small _ _ _ _), called.1)
