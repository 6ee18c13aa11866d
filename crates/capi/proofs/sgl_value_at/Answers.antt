-- `capi::sgl_value_at` packs the answer.
use mathlib.Core.Path.{◌∙◌}
use Rattle.packing.proofs.SmallAnswers.{packed_told}
use Rattle.packing.proofs.SmallLists.{value_at_small}
use Rattle.capi.proofs.sgl_value_at.Goals as goal

pub returns : goal.returns
returns c = c.pack_told.ensures ∙ packed_told _ _ c.value_at.ensures (value_at_small _ _)
