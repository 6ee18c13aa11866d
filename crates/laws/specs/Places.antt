-- Statement: Rewriting by places said again by surroundings: it reaches every part, and goes back.
use Rattle.std.specs.Prelude.{ℕ, ◌≤◌, ◌≡◌, ◌↔◌, length}
use Rattle.grammar.specs.Tree.{Tree}
use Rattle.grammar.specs.Places.{Surroundings, around}
use Rattle.laws.specs.Scheme.{Substitution, put}
use Rattle.laws.specs.Laws.{table, equation}
use Rattle.laws.specs.Rewriting.{Direction, before, after, Rewrites}

-- F and G are alike but for one part, which in F is one side of an equation and in G the other.
pub record OnePartApart (F G : Tree) : Type 0 where
  pub number : ℕ
  pub numbered : (1 ≤ number) × (number ≤ length table)
  pub direction : Direction
  pub substitution : Substitution
  pub surroundings : Surroundings
  pub from : F ≡ around surroundings (put substitution (before direction (equation number)))
  pub to : G ≡ around surroundings (put substitution (after direction (equation number)))

-- Rewriting by places is rewriting of any part.
abbrev pub RewritingReachesEveryPart : Type 0
RewritingReachesEveryPart = (F G : Tree) → Rewrites F G ↔ OnePartApart F G

-- A step can be taken back.
abbrev pub RewritingGoesBack : Type 0
RewritingGoesBack = (F G : Tree) → Rewrites F G → Rewrites G F
