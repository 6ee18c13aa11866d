-- Believed: The parts of a tree, each taken with its operands, and their places in working-out order.
use Rattle.std.specs.Prelude.{ℕ, ◌+◌, ◌-◌, cond, List, [], ◌∷◌, ◌++◌, ltb, get_or}
use Rattle.grammar.specs.Tree.{Tree, leaf, unary, binary}

-- the parts in working-out order: left operand, right operand, then their operator
unfoldable pub parts : Tree → List Tree
parts (leaf l) = leaf l ∷ []
parts (unary o t) = parts t ++ (unary o t ∷ [])
parts (binary o t u) = parts t ++ (parts u ++ (binary o t u ∷ []))

-- how many parts a tree has
unfoldable pub size : Tree → ℕ
size (leaf l) = 1
size (unary o t) = size t + 1
size (binary o t u) = size t + size u + 1

-- the part at a place, places counted from 0 in working-out order
unfoldable pub part_at : Tree → ℕ → Tree
part_at t n = get_or (parts t) n t

-- the tree with another part in the place of the one at place n
unfoldable pub replace_at : Tree → ℕ → Tree → Tree
replace_at (leaf l) n new = new
replace_at (unary o t) n new = cond (ltb n (size t)) (unary o (replace_at t n new)) new
replace_at (binary o t u) n new =
    cond
    (ltb n (size t))
    (binary o (replace_at t n new) u)
    (cond (ltb n (size t + size u)) (binary o t (replace_at u (n - size t) new)) new)
