-- `capi::sgl_rs` packs the answer and leaves the output as the call does.
use mathlib.Core.Path.{◌∙◌}
use Rattle.packing.proofs.SmallAnswers.{packed_written}
use Rattle.packing.proofs.SmallOperations.{two_small}
use Rattle.capi.proofs.sgl_rs.Goals as goal

pub returns : goal.returns
returns c =
    let called = c.rs.ensures in
    (c.pack_written.ensures ∙ packed_written _ _ called.0 (two_small _ _ _ _), called.1)
