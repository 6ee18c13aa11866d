-- Rewriting keeps the signal at every moment: the equation holds, and every operation respects equal signals.
use mathlib.Core.Path.{◌≡◌, sym, ◌∙◌, ap, fun_ext}
use Rattle.grammar.specs.Tree.{Tree, Environment, signal, apply_unary, apply_binary}
use Rattle.laws.specs.Scheme.{Equation, Substitution, put}
use Rattle.laws.specs.Laws.{equation}
use Rattle.laws.specs.Rewriting.{Direction, forward, backward, before, after, Rewrites}
use Rattle.grammar.specs.Places.{Surroundings, whole, under, on_left, on_right, around}
use Rattle.laws.specs.Soundness.{Holds, RewritingKeepsTheSignal}
use Rattle.laws.proofs.Table.{every_law_holds}
use Rattle.laws.proofs.Places.{rewriting_reaches_every_part}

-- parts with equal signals in the same surroundings
around_same : (env : Environment) (c : Surroundings) (a b : Tree) → signal env a ≡ signal env b →
    signal env (around c a) ≡ signal env (around c b)
unfolding around
around_same env whole a b e = e
around_same env (under o c) a b e = ap (apply_unary o) (around_same env c a b e)
around_same env (on_left o c u) a b e = ap (λ k. apply_binary o k (signal env u)) (around_same env c a b e)
around_same env (on_right o t c) a b e = ap (apply_binary o (signal env t)) (around_same env c a b e)

-- in either direction
sides_same : (q : Equation) → Holds q → (way : Direction) (env : Environment) (x : Substitution) →
    signal env (put x (before way q)) ≡ signal env (put x (after way q))
sides_same q h forward env x = fun_ext (h env x)
sides_same q h backward env x = sym (fun_ext (h env x))

-- the signals as functions
pub same_signal : (F G : Tree) → Rewrites F G → (env : Environment) → signal env F ≡ signal env G
same_signal F G w env =
    let a = (rewriting_reaches_every_part F G).0 w in
    let q : Equation = equation a.number in
    let h = every_law_holds a.number a.numbered.0 a.numbered.1 in
    ap (signal env) a.from
    ∙ around_same
    env
    a.surroundings
    (put a.substitution (before a.direction q))
    (put a.substitution (after a.direction q))
    (sides_same q h a.direction env a.substitution)
    ∙ sym (ap (signal env) a.to)

pub rewriting_keeps_the_signal : RewritingKeepsTheSignal
rewriting_keeps_the_signal F G w env t = ap (λ k. k t) (same_signal F G w env)
