-- `capi::sgl_formula_parts` packs the answer and leaves the code words as reading does.
use mathlib.Core.Path.{◌∙◌}
use Rattle.packing.proofs.SmallAnswers.{packed_written}
use Rattle.packing.proofs.SmallStops.{parts_small}
use Rattle.capi.proofs.sgl_formula_parts.Goals as goal

pub returns : goal.returns
returns c =
    let told = c.read.ensures in
    (c.pack_written.ensures ∙ packed_written _ _ told.0 (parts_small _), told.1)
