-- Words of what is lent and of the work area are below 2^32, wherever a list of them stands.
use Rattle.std.specs.Prelude.{List, ℕ}
use Rattle.slices.specs.Bytes.{Words}
use Rattle.sources.specs.Lending.{list_in}
use Rattle.sources.specs.declared.Lent.{Lent}
use Rattle.sources.specs.declared.Source.{Source}
use Rattle.sources.proofs.Sourcing.{words_at}

pub words_lent : (lent : Lent) (work : List ℕ) → Words work → (s : Source) → Words (list_in lent work s)
words_lent lent work w s =
    words_at lent.sheet.now lent.left.now lent.right.now work s lent.bytes lent.left_words lent.right_words w
