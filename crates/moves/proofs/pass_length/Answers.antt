-- `moves::pass_length` meets its contract.
use borrow.Author.Tests.{le-ltb}
use mathlib.Core.Path.{refl, subst}
use Prim.Native.Nat.{ℕ, ◌≤◌}
use Rattle.moves.specs.Moves.{length_passed, length_ticks}
use Rattle.moves.proofs.Stepping.{length_is}
use Rattle.moves.proofs.pass_length.Goals as goal

pub returns-then-end-gt0 : goal.returns-then-end-gt0
returns-then-end-gt0 c =
    let l = c.length_end-end in
    let a = c.args in
    length_is a.text.now a.bytes a.m.now l.result l.ensures c.if-end-gt0.true refl c.ticks-n.ensures

pub returns-else-end-gt0 : goal.returns-else-end-gt0
unfolding length_passed length_ticks
returns-else-end-gt0 c =
    let l = c.length_end-end in
    rw (le-ltb 0 _ (subst (λ (n : ℕ). n ≤ 0) l.ensures c.if-end-gt0.false)) (c.fail.ensures, refl)
