-- `capi::sgl_formula_fault` packs the answer.
use mathlib.Core.Path.{◌∙◌}
use Rattle.packing.proofs.SmallStops.{packed_stop}
use Rattle.capi.proofs.sgl_formula_fault.Goals as goal

pub returns : goal.returns
returns c =
    let judged = c.judge.ensures in
    c.pack_stop.ensures ∙ packed_stop _ _ _ judged.0 judged.1
