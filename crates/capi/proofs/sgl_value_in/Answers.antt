-- `capi::sgl_value_in` packs the answer.
use mathlib.Core.Path.{◌∙◌}
use Rattle.packing.proofs.SmallAnswers.{packed_told}
use Rattle.packing.proofs.SmallLists.{value_in_small}
use Rattle.capi.proofs.sgl_value_in.Goals as goal

pub returns : goal.returns
returns c = c.pack_told.ensures ∙ packed_told _ _ c.value_in.ensures (value_in_small _ _)
