-- Statement: "f, g, h, s, r, p are any formulas; d, e lengths with d+e ≤ M": every such choice is a substitution, and none has other
-- lengths. Letters may stand for any tree.
use Rattle.std.specs.Prelude.{ℕ, ◌+◌, ◌≤◌, ◌≡◌}
use Rattle.grammar.specs.Tree.{Tree}
use Rattle.laws.specs.Scheme.{Letter, Substitution}

-- the substitution of these formulas and lengths
pub record Chosen (formula : Letter → Tree) (d e : ℕ) : Type 0 where
  pub substitution : Substitution
  pub formulas : (l : Letter) → substitution.formula l ≡ formula l
  pub first : substitution.first ≡ d
  pub second : substitution.second ≡ e

pub record SubstitutionsExact : Type 0 where
  pub every : (formula : Letter → Tree) (d e : ℕ) → d + e ≤ 1073741823 → Chosen formula d e
  -- an equation with d alone takes every length
  pub alone : (formula : Letter → Tree) (d : ℕ) → d ≤ 1073741823 → Chosen formula d 0
  pub no_other : (x : Substitution) → x.first + x.second ≤ 1073741823
