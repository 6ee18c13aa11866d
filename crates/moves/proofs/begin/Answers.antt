-- `moves::begin` meets its contract.
use native.Mathlib.Omega.{arith}
use Prim.Native.Nat.{ℕ, ◌+◌}
use mathlib.Core.Path.{ap, ◌∙◌}
use Rattle.marks.specs.Marks.{lent}
use Rattle.openings.specs.Opening.{open_bytes}
use Rattle.marks.proofs.Marking.{lent_most}
use Rattle.openings.proofs.Openings.{open_fits}
use Rattle.moves.specs.Moves.{moved_to, begun}
use Rattle.moves.proofs.begin.Goals as goal

pub overflow_add-m : goal.overflow_add-m
overflow_add-m c =
    let a = c.args in
    let text = lent a.text.now a.bytes in
    omega (
      arith,
      c.opening_bytes.ensures ∙ ap open_bytes c.opening-first.ensures,
      open_fits text a.m.now,
      lent_most a.text.now a.bytes,
    )

pub returns : goal.returns
unfolding begun
returns c =
    let m = c.args.m.now in
    let q = c.opening_bytes.ensures ∙ ap open_bytes c.opening-first.ensures in
    (ap (λ (k : ℕ). moved_to m (m.at + k)) q, c.opening-first.ensures)
