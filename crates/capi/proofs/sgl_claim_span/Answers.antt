-- `capi::sgl_claim_span` packs the span and leaves the work area as the claim does.
use mathlib.Core.Path.{◌∙◌}
use Rattle.packing.proofs.SmallSpans.{packed_span, claim_span_small}
use Rattle.capi.proofs.sgl_claim_span.Goals as goal

pub returns : goal.returns
returns c =
    let called = c.claim.ensures in
    (c.pack_span.ensures ∙ packed_span _ _ called.0 (claim_span_small _ _ _ _), called.1)
