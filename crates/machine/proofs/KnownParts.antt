-- The parts of a formula whose names the sheet has and whose lengths are at most M.
use Prim.Native.Nat.{ℕ, ◌/◌, ◌%◌, ◌≤◌}
use mathlib.Core.Path.{◌≡◌}
use mathlib.Core.Bool.{Bool, true, cond, ◌&&◌}
use mathlib.Core.List.{List, [], ◌∷◌}
use lib.Dec.{eqb}
use Rattle.signals.specs.Moment.{M}
use Rattle.grammar.specs.Kinds as kinds
use Rattle.grammar.specs.Tree.{Leaf, down, up, name}
use Rattle.grammar.specs.Code.{Part, operand, one, two, ticks_of}
use Rattle.grammar.specs.PartWords.{name_at}
use Rattle.names.specs.Names.{well_named}
use Rattle.format.specs.Names.{among}
use Rattle.format.specs.Reading.{signals_on, names}
use Rattle.format.specs.Calls.{lookup_fault}

-- the leaf that a code word of a text stands for, by its kind
unfoldable pub leaf_of : List ℕ → ℕ → Leaf
leaf_of text w =
    cond (eqb (w % 16) kinds.NAME) (name (name_at text (w / 256) (w / 16 % 16))) (cond (eqb (w % 16) kinds.UP) up down)

-- a timer's length is at most M; a name is one, and the sheet has it
abbrev pub LeafKnown : List ℕ → Leaf → Type 0
LeafKnown sheet down = Unit {0}
LeafKnown sheet up = Unit {0}
LeafKnown sheet (name n) = (well_named n ≡ true) × (among n (names (signals_on sheet)) ≡ true)

abbrev pub Known : List ℕ → Part → Type 0
Known sheet (operand l) = LeafKnown sheet l
Known sheet (one o) = ticks_of o ≤ M
Known sheet (two o) = Unit {0}

abbrev pub AllKnown : List ℕ → List Part → Type 0
AllKnown sheet [] = Unit {0}
AllKnown sheet (p ∷ ps) = Known sheet p × AllKnown sheet ps

-- a lookup of the part's name, if it is one, has no fault
abbrev pub leaf_looked : List ℕ → Leaf → Bool
leaf_looked sheet down = true
leaf_looked sheet up = true
leaf_looked sheet (name n) = eqb (lookup_fault sheet n) 0

abbrev pub part_looked : List ℕ → Part → Bool
part_looked sheet (operand l) = leaf_looked sheet l
part_looked sheet (one o) = true
part_looked sheet (two o) = true

unfoldable pub all_looked : List ℕ → List Part → Bool
all_looked sheet [] = true
all_looked sheet (p ∷ ps) = part_looked sheet p && all_looked sheet ps
