-- A part of the output, written over.
use Rattle.std.proofs.Common.{◌≡◌, ℕ, List, length, refl, sym, ◌∙◌}
use Rattle.std.proofs.lemmas.Slice.{put_mid-paste}
use borrow.Rule.Slice.PartMut.{put_mid}
use Rattle.slices.specs.Slices.{placed}
use Rattle.slices.proofs.Placing.{placed_as_paste}

pub part_put : (out : List ℕ) (at k : ℕ) (part s : List ℕ) → part ≡ s → k ≡ length s → put_mid at k out part ≡ placed out at s
part_put out at k part s p e = put_mid-paste at k out part s (length s) p (sym e) refl ∙ placed_as_paste out at s
