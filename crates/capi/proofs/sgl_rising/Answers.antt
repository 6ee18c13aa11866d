-- `capi::sgl_rising` packs the answer and leaves the output as the call does.
use mathlib.Core.Path.{◌∙◌}
use Rattle.packing.proofs.SmallAnswers.{packed_written}
use Rattle.packing.proofs.SmallOperations.{one_small}
use Rattle.capi.proofs.sgl_rising.Goals as goal

pub returns : goal.returns
returns c =
    let called = c.rising.ensures in
    (c.pack_written.ensures ∙ packed_written _ _ called.0 (one_small _ _ _), called.1)
