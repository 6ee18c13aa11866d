-- `working::step` meets its contract, by the number of operands.
use native.Mathlib.Omega.{arith}
use mathlib.Core.Path.{refl}
use Rattle.working.proofs.Stepping.{short, list_made}
use Rattle.working.proofs.step.Goals as goal

pub returns-then-taken-eq0 : goal.returns-then-taken-eq0
returns-then-taken-eq0 c =
    let e = c.if-taken-eq0.true in
    (λ z. record { made = rw c.leaf.ensures; kept = refl }, λ l. absurd (omega arith))

pub in_slot-requires : goal.in_slot-requires
in_slot-requires c =
    short _ _ _ _ _ _ _ _ (c.requires.1 (omega (arith, c.if-taken-eq0.false))) c.apply.ensures

pub returns : goal.returns
returns c =
    let n = c.if-taken-eq0.false in (
      λ z. absurd (n z),
      λ l. list_made _ _ _ _ _ _ _ _ (c.requires.1 l) c.apply.ensures
          c.apply.auto.work _
          c.in_slot.ensures,
    )
