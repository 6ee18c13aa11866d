-- `capi::sgl_equal` packs the answer.
use mathlib.Core.Path.{◌∙◌}
use Rattle.packing.proofs.SmallAnswers.{packed_told}
use Rattle.packing.proofs.SmallLists.{equal_small}
use Rattle.capi.proofs.sgl_equal.Goals as goal

pub returns : goal.returns
returns c = c.pack_told.ensures ∙ packed_told _ _ c.equal.ensures (equal_small _ _)
