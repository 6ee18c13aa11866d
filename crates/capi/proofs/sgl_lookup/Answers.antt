-- `capi::sgl_lookup` packs the answer.
use mathlib.Core.Path.{◌∙◌}
use Rattle.packing.proofs.SmallAnswers.{packed_place}
use Rattle.packing.proofs.SmallSheets.{place_small}
use Rattle.capi.proofs.sgl_lookup.Goals as goal

pub returns : goal.returns
returns c = c.pack_place.ensures ∙ packed_place _ _ c.locate.ensures (place_small _ _)
