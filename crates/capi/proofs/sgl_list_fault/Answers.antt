-- `capi::sgl_list_fault` packs the fault.
use mathlib.Core.Path.{◌∙◌}
use Rattle.packing.proofs.SmallAnswers.{packed_fault, list_small}
use Rattle.capi.proofs.sgl_list_fault.Goals as goal

pub returns : goal.returns
returns c = c.pack_fault.ensures ∙ packed_fault _ _ c.list_fault.ensures (list_small _)
