-- `capi::sgl_implies_span` packs the answer.
use mathlib.Core.Path.{◌∙◌}
use Rattle.packing.proofs.SmallSpans.{packed_span, implies_span_small}
use Rattle.capi.proofs.sgl_implies_span.Goals as goal

pub returns : goal.returns
returns c =
    c.pack_span.ensures
    ∙ packed_span _ _ c.implies.ensures
    (implies_span_small _ _ (λ i. (c.type_inv.a i).fits) (λ i. (c.type_inv.b i).fits))
