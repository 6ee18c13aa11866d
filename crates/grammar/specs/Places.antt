-- Statement: A part in its surroundings, and statements on places: each place in working-out order has exactly one part, each part is
-- found and replaced at its place, and replacing it is replacing its segment of the code.
use Rattle.std.specs.Prelude.{ℕ, suc, ◌+◌, ◌-◌, ◌<◌, ◌≡◌, ◌++◌, length, take, drop}
use Rattle.grammar.specs.Tree.{Tree, Unary, Binary, unary, binary}
use Rattle.grammar.specs.Code.{code}
use Rattle.grammar.specs.Parts.{parts, size, part_at, replace_at}

-- The code of a tree in working-out order determines the tree.
abbrev pub CodeDetermines : Type 0
CodeDetermines = (t u : Tree) → code t ≡ code u → t ≡ u

-- what stands around one part: nothing, an operator, or an operator with the part in its left or right operand
pub data Surroundings : Type 0 where
  whole : Surroundings
  under : Unary → Surroundings → Surroundings
  on_left : Binary → Surroundings → Tree → Surroundings
  on_right : Binary → Tree → Surroundings → Surroundings

-- the tree of a part in its surroundings
unfoldable pub around : Surroundings → Tree → Tree
around whole part = part
around (under o c) part = unary o (around c part)
around (on_left o c u) part = binary o (around c part) u
around (on_right o t c) part = binary o t (around c part)

-- how many parts outside it are worked out before it
unfoldable pub earlier : Surroundings → ℕ
earlier whole = 0
earlier (under o c) = earlier c
earlier (on_left o c u) = earlier c
earlier (on_right o t c) = size t + earlier c

-- its place: its own operator comes after its operands
unfoldable pub place_in : Surroundings → Tree → ℕ
place_in c part = earlier c + size part - 1

-- A part in its surroundings is at its place, and replacing it leaves its surroundings as they are.
pub record Placed (c : Surroundings) (part : Tree) : Type 0 where
  pub within : place_in c part < length (parts (around c part))
  pub found : part_at (around c part) (place_in c part) ≡ part
  pub replaced : (new : Tree) → replace_at (around c part) (place_in c part) new ≡ around c new

abbrev pub EveryPartIsPlaced : Type 0
EveryPartIsPlaced = (c : Surroundings) (part : Tree) → Placed c part

-- F is that part in those surroundings, and the part ends at the place n
pub record EndsAt (F : Tree) (n : ℕ) (c : Surroundings) (part : Tree) : Type 0 where
  pub same : around c part ≡ F
  pub place : place_in c part ≡ n

-- Each place has one part in surroundings.
pub record Surrounded (F : Tree) (n : ℕ) : Type 0 where
  pub surroundings : Surroundings
  pub ends : EndsAt F n surroundings (part_at F n)

abbrev pub EveryPlaceIsAPart : Type 0
EveryPlaceIsAPart = (F : Tree) (n : ℕ) → n < length (parts F) → Surrounded F n

-- Every place below the length of the code ends exactly one part.
abbrev pub OnePartEnds : Type 0
OnePartEnds =
    (F : Tree) (n : ℕ) → n < length (code F) →
    (c : Surroundings) × (p : Tree) × EndsAt F n c p × ((b : Surroundings) (q : Tree) → EndsAt F n b q → (b ≡ c) × (q ≡ p))

-- Replacing the part in the tree is replacing its segment in the code.
abbrev pub SegmentReplaced : Type 0
SegmentReplaced =
    (F : Tree) (n : ℕ) (c : Surroundings) (p : Tree) → EndsAt F n c p → (q : Tree) →
    code (around c q) ≡ take (earlier c) (code F) ++ (code q ++ drop (suc n) (code F))
