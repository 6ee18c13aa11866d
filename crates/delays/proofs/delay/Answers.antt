-- `delays::delay` meets its contract: list and length are judged first.
use native.Mathlib.Omega.{arith}
use mathlib.Core.Path.{sym, ◌∙◌}
use Rattle.signals.proofs.Normal.{accepted_normal}
use Rattle.operations.proofs.JudgedCalls.{refused}
use Rattle.operations.proofs.DelayJudged.{fault_order, list_first_lem, length_next}
use Rattle.delays.proofs.delay.Goals as goal

pub returns-then-fault-ne0 : goal.returns-then-fault-ne0
returns-then-fault-ne0 c =
    rw (← (fault_order _ _ _ _)) (refused _ _ _ _ _ (list_first_lem _ _ _ c.list_fault-fault.ensures c.if-fault-ne0.true)
    c.if-fault-ne0.true)

pub returns-then-d-gt-M : goal.returns-then-d-gt-M
returns-then-d-gt-M c =
    rw (← (fault_order _ _ _ _))
    (refused _ _ _ _ _ (length_next _ _ _ c.list_fault-fault.ensures c.if-fault-ne0.false c.if-d-gt-M.true)
    (λ z. omega (arith, z)))

pub overflow_mul-f : goal.overflow_mul-f
overflow_mul-f c =
    omega (arith, ((accepted_normal _).0 (sym c.list_fault-fault.ensures ∙ c.if-fault-ne0.false)).1)
