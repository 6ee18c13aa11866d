-- `capi::sgl_evaluate` packs the answer and leaves output and work area as the formula call does.
use mathlib.Core.Path.{◌∙◌}
use Rattle.packing.proofs.SmallAnswers.{packed_written}
use Rattle.packing.proofs.SmallCalls.{call_small}
use Rattle.capi.proofs.sgl_evaluate.Goals as goal

pub returns : goal.returns
returns c =
    let called = c.evaluate.ensures in
    (c.pack_written.ensures ∙ packed_written _ _ called.0 (call_small _ _ _ _), called.1, called.2)
