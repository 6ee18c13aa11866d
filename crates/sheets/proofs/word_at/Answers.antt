-- `sheets::word_at` gives the word whose four bytes begin at a place.
use Rattle.std.proofs.Common.{arith, get_or-drop, add-zero}
use Rattle.slices.specs.Bytes.{low32}
use Rattle.sheets.proofs.word_at.Goals as goal

pub returns : goal.returns
unfolding low32
returns c = simp (get_or-drop, add-zero) (omega arith)
