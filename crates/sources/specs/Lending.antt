-- Mirrored: The list that a source names, by what is lent beside the work area.
use Rattle.std.specs.Prelude.{ℕ, List}
use Rattle.sources.specs.Sources.{list_at}
use Rattle.sources.specs.declared.Lent.{Lent}
use Rattle.sources.specs.declared.Source.{Source}

abbrev pub list_in : Lent → List ℕ → Source → List ℕ
list_in lent work s = list_at lent.sheet.now lent.left.now lent.right.now work s
