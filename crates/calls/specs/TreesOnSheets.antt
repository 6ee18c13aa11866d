-- Statement: On an accepted sheet every tree's signal settles and has the one normal list; names and constants never meet 5 or 6.
use Rattle.std.specs.Prelude.{ℕ, ◌≡◌, true, List}
use Rattle.signals.specs.Settled.{SettledFrom}
use Rattle.grammar.specs.Tree.{Tree, Leaf, leaf}
use Rattle.slices.specs.Bytes.{Bytes}
use Rattle.format.specs.Reading.{sheet_fault}
use Rattle.calls.specs.OnSheet.{signal_on, settling_date, exact_on, leaf_found}
use Rattle.operations.specs.Calls.{part_fault}
use Rattle.calls.specs.NormalLists.{ListFor}

pub record TreesOnSheets : Type 0 where
  pub settles : (sheet : List ℕ) → sheet_fault sheet ≡ 0 → (t : Tree) → SettledFrom (signal_on sheet t) (settling_date sheet t)
  pub exact : (sheet : List ℕ) → sheet_fault sheet ≡ 0 → (t : Tree) → ListFor (signal_on sheet t) (exact_on sheet t)
  pub leaves : (sheet : List ℕ) → Bytes sheet → sheet_fault sheet ≡ 0 → (l : Leaf) → leaf_found sheet l ≡ true
      → part_fault (exact_on sheet (leaf l)) ≡ 0
