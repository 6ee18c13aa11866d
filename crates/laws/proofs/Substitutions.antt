-- Every choice of formulas and lengths is a substitution, and has texts.
use Prim.Native.Nat.{ℕ, ◌+◌, ◌≤◌}
use native.Mathlib.Omega.{arith}
use mathlib.Core.Path.{refl}
use mathlib.Core.List.{List, [], ◌∷◌, ◌++◌}
use Rattle.grammar.specs.Tree.{Tree}
use Rattle.grammar.specs.Grammar.{Factor}
use Rattle.grammar.specs.Exactness.{Writable}
use Rattle.grammar.proofs.Writing.{length_written, every_tree_written}
use Rattle.laws.specs.Scheme.{Letter, put_length}
use Rattle.laws.specs.Substitutions.{Chosen, SubstitutionsExact}
use Rattle.laws.specs.Printed.{EverySubstitutionWritten}

chosen : (formula : Letter → Tree) (d e : ℕ) → d + e ≤ 1073741823 → Chosen formula d e
chosen formula d e h =
    record {
      substitution = record { formula = formula; first = d; second = e; within = omega arith };
      formulas = λ l. refl;
      first = refl;
      second = refl;
    }

pub substitutions_exact : SubstitutionsExact
substitutions_exact =
    record { every = chosen; alone = λ formula d h. chosen formula d 0 (omega arith); no_other = λ x. omega arith }

-- every formula in brackets is a factor
bracketed : (u : Tree) → Writable u → (w : List ℕ) × (depth : ℕ) × Factor w u depth
bracketed u h = let r = every_tree_written u h in (40 ∷ (r.0 ++ (41 ∷ [])), r.1 + 1, Factor.brackets r.2)

pub every_substitution_written : EverySubstitutionWritten
every_substitution_written x writable = (
  λ l. (bracketed (x.formula l) (writable l)).0,
  λ n. (length_written (put_length x.first x.second n)).0,
  record {
    formulas = λ l. let r = bracketed (x.formula l) (writable l) in (r.1, r.2);
    lengths = λ n. let r = length_written (put_length x.first x.second n) in (r.1, r.2);
  },
)
