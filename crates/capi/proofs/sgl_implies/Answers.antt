-- `capi::sgl_implies` packs the answer.
use mathlib.Core.Path.{◌∙◌}
use Rattle.packing.proofs.SmallAnswers.{packed_verdict}
use Rattle.packing.proofs.SmallLists.{implies_small}
use Rattle.capi.proofs.sgl_implies.Goals as goal

pub returns : goal.returns
returns c = c.pack_verdict.ensures ∙ packed_verdict _ _ c.implies.ensures (implies_small _ _)
