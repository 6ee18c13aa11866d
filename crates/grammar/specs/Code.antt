-- Believed: The parts of a formula in working-out order: left operand, right operand, then their operator.
use Rattle.std.specs.Prelude.{ℕ, max, List, [], ◌∷◌, ◌++◌}
use Rattle.grammar.specs.Tree.{Tree, Leaf, Unary, Binary, leaf, unary, binary, ton, tof, tp, invert, rise, fall}

-- Names, constants, operators and blocks are parts; a timer's length goes with it.
pub data Part : Type 0 where
  operand : Leaf → Part
  one : Unary → Part
  two : Binary → Part

-- the parts of a tree in working-out order
unfoldable pub code : Tree → List Part
code (leaf l) = operand l ∷ []
code (unary o t) = code t ++ (one o ∷ [])
code (binary o t u) = code t ++ (code u ++ (two o ∷ []))

-- the ticks of an operator's length, 0 for one without
abbrev pub ticks_of : Unary → ℕ
ticks_of invert = 0
ticks_of rise = 0
ticks_of fall = 0
ticks_of (ton n) = n
ticks_of (tof n) = n
ticks_of (tp n) = n

-- the largest length in a tree, 0 when it has none
unfoldable pub longest : Tree → ℕ
longest (leaf l) = 0
longest (unary o t) = max (longest t) (ticks_of o)
longest (binary o t u) = max (longest t) (longest u)

-- working parts out on a stack of trees, the last one first
unfoldable pub work : List Part → List Tree → List Tree
work [] stack = stack
work (operand l ∷ ps) stack = work ps (leaf l ∷ stack)
work (one o ∷ ps) [] = []
work (one o ∷ ps) (t ∷ stack) = work ps (unary o t ∷ stack)
work (two o ∷ ps) [] = []
work (two o ∷ ps) (u ∷ []) = []
work (two o ∷ ps) (u ∷ t ∷ stack) = work ps (binary o t u ∷ stack)

-- the tree that parts in working-out order make; 0 when they make none
abbrev pub top : List Tree → Tree
top [] = leaf Leaf.down
top (t ∷ ts) = t

unfoldable pub tree_of : List Part → Tree
tree_of ps = top (work ps [])
