-- `tokens::ticks` meets its contract.
use Prim.Native.Nat.{ℕ}
use native.Mathlib.Omega.{arith}
use mathlib.Core.Path.{ap, ◌∙◌}
use Rattle.texts.specs.Lengths.{capped}
use Rattle.tokens.specs.Tokens.{number_at}
use Rattle.tokens.proofs.Runs.{number_next, number_none, capped_most}
use Rattle.tokens.proofs.ticks.Goals as goal

pub loop-i-init : goal.loop-i-init
loop-i-init c = (omega arith, number_none c.args.text.now c.args.from)

pub overflow_mul-n : goal.overflow_mul-n
overflow_mul-n c = omega (arith, capped_most c.loop-i.n _ c.loop-i.invariant.1)

pub overflow_add-n : goal.overflow_add-n
overflow_add-n c = omega (arith, capped_most c.loop-i.n _ c.loop-i.invariant.1)

pub loop-i-preserved : goal.loop-i-preserved
unfolding capped
loop-i-preserved c =
    let l = c.loop-i in
    let a = c.args in
    let next = number_next a.text.now a.from l.i (omega arith) in
    (omega arith, omega (arith, next, l.invariant.1))

pub returns : goal.returns
returns c =
    let l = c.loop-i in
    let a = c.args in
    l.invariant.1 ∙ ap (λ (k : ℕ). capped (number_at a.text.now a.from k)) (omega arith)
