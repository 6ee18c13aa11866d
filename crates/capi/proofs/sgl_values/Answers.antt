-- `capi::sgl_values` packs the answer and leaves the output as the call does.
use mathlib.Core.Path.{◌∙◌, ap}
use Rattle.packing.specs.Packing.{column_bits}
use Rattle.packing.proofs.ColumnsPacked.{columns_packed}
use Rattle.capi.proofs.sgl_values.Goals as goal

pub returns : goal.returns
returns c =
    (c.pack_column.ensures ∙ ap column_bits c.values.ensures.0 ∙ columns_packed.bits _ _ _, c.values.ensures.1)
