-- `moves::stray` meets its contract.
use native.Mathlib.Omega.{arith}
use Prim.Native.Nat.{ℕ, ◌+◌}
use mathlib.Core.Path.{ap, ◌∙◌}
use Rattle.marks.specs.Marks.{lent}
use Rattle.marks.proofs.Marking.{lent_most}
use Rattle.openings.proofs.Reaching.{reach_past}
use Rattle.moves.specs.Moves.{failed, moved_to, strayed}
use Rattle.moves.proofs.stray.Goals as goal

pub overflow_add-m : goal.overflow_add-m
overflow_add-m c =
    let a = c.args in
    let text = lent a.text.now a.bytes in
    omega (
      arith,
      c.reach-there.ensures,
      reach_past text a.m.now,
      lent_most a.text.now a.bytes,
    )

pub returns : goal.returns
unfolding strayed
returns c = let m = c.args.m.now in c.fail.ensures ∙ ap (λ (k : ℕ). failed (moved_to m (m.at + k))) c.reach-there.ensures
