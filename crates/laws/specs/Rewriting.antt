-- Believed: One step of rewriting a formula's tree: one part, the whole included, found by its place in working-out order, by an equation
-- either way.
use Rattle.std.specs.Prelude.{ℕ, ◌≤◌, ◌<◌, ◌≡◌, length}
use Rattle.grammar.specs.Tree.{Tree}
use Rattle.grammar.specs.Parts.{parts, part_at, replace_at}
use Rattle.laws.specs.Scheme.{Scheme, Equation, Substitution, put}
use Rattle.laws.specs.Laws.{table, equation}

-- left to right, or back
pub data Direction : Type 0 where
  forward backward : Direction

abbrev pub before : Direction → Equation → Scheme
before forward q = q.left
before backward q = q.right

abbrev pub after : Direction → Equation → Scheme
after forward q = q.right
after backward q = q.left

-- a step: an equation's number, the direction, what is put for the letters, d and e, and the part's place
pub record Step : Type 0 where
  pub number : ℕ
  pub direction : Direction
  pub substitution : Substitution
  pub place : ℕ

-- The step leads from F to G: the part of F at the place is one side of the equation, and G is F with the other side in its place.
pub record Leads (x : Step) (F G : Tree) : Type 0 where
  pub numbered : (1 ≤ x.number) × (x.number ≤ length table)
  pub placed : x.place < length (parts F)
  pub fits : part_at F x.place ≡ put x.substitution (before x.direction (equation x.number))
  pub gives : G ≡ replace_at F x.place (put x.substitution (after x.direction (equation x.number)))

-- G is F with one part rewritten by one equation of the table in either direction.
abbrev pub Rewrites : Tree → Tree → Type 0
Rewrites F G = (x : Step) × Leads x F G
