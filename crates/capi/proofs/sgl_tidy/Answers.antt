-- `capi::sgl_tidy` packs the answer and leaves the output as the call does.
use mathlib.Core.Path.{◌∙◌}
use Rattle.packing.proofs.SmallAnswers.{packed_written}
use Rattle.packing.proofs.SmallLists.{tidy_small}
use Rattle.capi.proofs.sgl_tidy.Goals as goal

pub returns : goal.returns
returns c =
    let called = c.tidy.ensures in
    (c.pack_written.ensures ∙ packed_written _ _ called.0 (tidy_small _ _), called.1)
