-- `capi::sgl_sheet_fault` packs the fault.
use mathlib.Core.Path.{◌∙◌}
use Rattle.packing.proofs.SmallAnswers.{packed_fault}
use Rattle.packing.proofs.SmallSheets.{sheet_small}
use Rattle.capi.proofs.sgl_sheet_fault.Goals as goal

pub returns : goal.returns
returns c = c.pack_fault.ensures ∙ packed_fault _ _ c.sheet_fault.ensures (sheet_small _)
