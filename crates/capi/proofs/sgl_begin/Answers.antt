-- `capi::sgl_begin` packs the answer and leaves the output as the call does.
use mathlib.Core.Path.{◌∙◌}
use Rattle.packing.proofs.SmallAnswers.{packed_written}
use Rattle.packing.proofs.SmallSheets.{begin_small}
use Rattle.capi.proofs.sgl_begin.Goals as goal

pub returns : goal.returns
returns c =
    let called = c.begin.ensures in
    (c.pack_written.ensures ∙ packed_written _ _ called.0 (begin_small _), called.1)
