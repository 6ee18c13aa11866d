-- `evaluation::judge` meets its contract: 18, 5 or 6 of the two formulas, or the verdict of their lists where they stand.
use Rattle.evaluation.proofs.OnStack.{claim_refused, claim_judged}
use Rattle.evaluation.proofs.judge.Goals as goal

pub returns-in-Ok : goal.returns-in-Ok
returns-in-Ok c =
    λ f g cf cg. claim_judged _ f g _ _ _ _ c.requires (λ i. (c.type_inv.sheet i).fits) cf cg _ c.in-Ok.ensures
    _ c.implies_at.ensures

pub returns-in-Err : goal.returns-in-Err
returns-in-Err c =
    λ f g cf cg. claim_refused _ f g _ _ _ _ c.requires (λ i. (c.type_inv.sheet i).fits) cf cg _ c.in-Err.ensures
