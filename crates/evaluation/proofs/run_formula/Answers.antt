-- `evaluation::run_formula` meets its contract: 18, 5 or 6, or its list handed over from where it stands.
use mathlib.Core.Path.{refl}
use Rattle.evaluation.proofs.OnStack.{formula_refused, formula_handed}
use Rattle.evaluation.proofs.run_formula.Goals as goal

pub slice_bounds-work_out-end : goal.slice_bounds-work_out-end
slice_bounds-work_out-end c = refl

pub returns-in-Ok : goal.returns-in-Ok
returns-in-Ok c =
    λ text coded. formula_handed _ text _ _ _ c.requires (λ i. (c.type_inv.sheet i).fits) coded _ c.in-Ok.ensures
    _ _ _ c.hand_over.ensures

pub returns-in-Err : goal.returns-in-Err
returns-in-Err c =
    λ text coded. formula_refused _ text _ _ _ c.requires (λ i. (c.type_inv.sheet i).fits) coded _ c.in-Err.ensures _
