-- Statement: Soundness of the laws and of rewriting by them: equal signals at every moment, in every environment of names.
use Rattle.std.specs.Prelude.{ℕ, ◌≤◌, ◌≡◌, length}
use Rattle.signals.specs.Signal.{Signal}
use Rattle.signals.specs.Settled.{SettledFrom}
use Rattle.signals.specs.Words.{list_of}
use Rattle.signals.specs.Implication.{verdict_of}
use Rattle.grammar.specs.Tree.{Tree, Environment, signal}
use Rattle.laws.specs.Scheme.{Equation, Substitution, put}
use Rattle.laws.specs.Laws.{table, equation}
use Rattle.laws.specs.Rewriting.{Rewrites}

-- the two sides have equal signals at every moment, in every environment, whatever is put for the letters, d and e
abbrev pub Holds : Equation → Type 0
Holds q = (env : Environment) (x : Substitution) (t : ℕ) → signal env (put x q.left) t ≡ signal env (put x q.right) t

-- every equation of the table holds
abbrev pub EveryLawHolds : Type 0
EveryLawHolds = (n : ℕ) → 1 ≤ n → n ≤ length table → Holds (equation n)

-- a tree and the tree that one step of rewriting makes of it have equal signals at every moment
abbrev pub RewritingKeepsTheSignal : Type 0
RewritingKeepsTheSignal = (F G : Tree) → Rewrites F G → (env : Environment) (t : ℕ) → signal env F t ≡ signal env G t

-- Where the two signals settle, from whatever gaps on, their normal lists are equal.
abbrev pub RewritingKeepsTheList : Type 0
RewritingKeepsTheList =
    (F G : Tree) → Rewrites F G → (env : Environment) (n m : ℕ) → SettledFrom (signal env F) n → SettledFrom (signal env G) m
    → list_of (signal env F) n ≡ list_of (signal env G) m

-- two signals that settle have equal verdicts with a third, as the first side of a claim and as the second
pub record SameVerdicts (f g third : Signal) (n m : ℕ) : Type 0 where
  pub as_first : verdict_of third f n ≡ verdict_of third g m
  pub as_second : verdict_of f third n ≡ verdict_of g third m

abbrev pub RewritingKeepsVerdicts : Type 0
RewritingKeepsVerdicts =
    (F G : Tree) → Rewrites F G → (env : Environment) (third : Signal) (n m : ℕ)
    → SettledFrom (signal env F) n → SettledFrom third n → SettledFrom (signal env G) m → SettledFrom third m
    → SameVerdicts (signal env F) (signal env G) third n m
