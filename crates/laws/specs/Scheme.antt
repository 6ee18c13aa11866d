-- Believed: Schemes: formulas over the letters f g h s r p with length terms in d and e, and what putting formulas and lengths for them
-- gives.
use Rattle.std.specs.Prelude.{ℕ, ◌+◌, ◌≤◌, cond, leb}
use Rattle.signals.specs.Moment.{M}
use Rattle.grammar.specs.Tree as tree
use Rattle.grammar.specs.Tree.{Tree, Leaf, Unary, Binary}

-- f, g, h, s, r, p are any formulas
pub data Letter : Type 0 where
  f g h s r p : Letter

-- d, e are lengths
pub data LengthTerm : Type 0 where
  d e d+e larger smaller : LengthTerm

-- ! ^ ~, and TON and TOF with their length term
pub data Operator : Type 0 where
  invert rise fall : Operator
  ton tof : LengthTerm → Operator

pub data Scheme : Type 0 where
  letter : Letter → Scheme
  down up : Scheme
  unary : Operator → Scheme → Scheme
  binary : Binary → Scheme → Scheme → Scheme

-- an equation of the table
pub record Equation : Type 0 where
  pub left : Scheme
  pub right : Scheme

-- a formula for each letter and lengths for d and e, with d+e ≤ M
pub record Substitution : Type 0 where
  pub formula : Letter → Tree
  pub first : ℕ
  pub second : ℕ
  pub within : first + second ≤ M

abbrev pub put_length : ℕ → ℕ → LengthTerm → ℕ
put_length a b d = a
put_length a b e = b
put_length a b d+e = a + b
put_length a b larger = cond (leb a b) b a
put_length a b smaller = cond (leb a b) a b

abbrev pub put_operator : Substitution → Operator → Unary
put_operator x invert = tree.Unary.invert
put_operator x rise = tree.Unary.rise
put_operator x fall = tree.Unary.fall
put_operator x (ton n) = tree.Unary.ton (put_length x.first x.second n)
put_operator x (tof n) = tree.Unary.tof (put_length x.first x.second n)

-- the formula that a scheme is with formulas put for its letters and lengths for d and e
abbrev pub put : Substitution → Scheme → Tree
put x (letter l) = x.formula l
put x down = tree.Tree.leaf tree.Leaf.down
put x up = tree.Tree.leaf tree.Leaf.up
put x (unary o a) = tree.Tree.unary (put_operator x o) (put x a)
put x (binary o a b) = tree.Tree.binary o (put x a) (put x b)
