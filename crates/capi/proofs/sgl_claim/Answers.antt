-- `capi::sgl_claim` packs the verdict and leaves the work area as the claim does.
use mathlib.Core.Path.{◌∙◌}
use Rattle.packing.proofs.SmallAnswers.{packed_verdict}
use Rattle.packing.proofs.SmallCalls.{claim_small}
use Rattle.capi.proofs.sgl_claim.Goals as goal

pub returns : goal.returns
returns c =
    let called = c.claim.ensures in
    (c.pack_verdict.ensures ∙ packed_verdict _ _ called.0 (claim_small _ _ _ _), called.1)
