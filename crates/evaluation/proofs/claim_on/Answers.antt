-- `evaluation::claim_on` meets its contract: G's 10, 11, 8, 12, 13, then 18, then the parts and the verdict.
use mathlib.Core.Path.{sym}
use lib.Seq.{length-take-le}
use Rattle.slices.specs.Bytes.{Bytes}
use Rattle.machine.proofs.Claiming.{on_reading, on_judged}
use Rattle.preparing.proofs.OnSheet.{few_codes, coded, read_none, read_refused}
use Rattle.evaluation.proofs.claim_on.Goals as goal

pub slice_bounds-g_codes-end : goal.slice_bounds-g_codes-end
slice_bounds-g_codes-end c =
    few_codes _ _ (λ i. (c.type_inv.sheet i).fits) c.requires _ _ _
    c.prepare.ensures _ c.in-Count.is

pub slice_bounds-judge-end : goal.slice_bounds-judge-end
slice_bounds-judge-end c = sym (length-take-le _ _ (few_codes _ _ (λ i. (c.type_inv.sheet i).fits) c.requires _ _ _
    c.prepare.ensures _ c.in-Count.is))

pub returns-in-Count : goal.returns-in-Count
returns-in-Count c =
    let bytes : Bytes c.args.sheet.now = λ i. (c.type_inv.sheet i).fits in
    λ f cf. on_judged _ _ _ _ (read_none _ _ bytes c.requires _ _ _ c.prepare.ensures _ c.in-Count.is) _ _
    (c.judge.ensures f _ cf (coded _ _ bytes c.requires _ _ _ c.prepare.ensures _ c.in-Count.is))

pub returns-in-Refused : goal.returns-in-Refused
returns-in-Refused c =
    let q = read_refused _ _ (λ i. (c.type_inv.sheet i).fits) c.requires _ _ _
    c.prepare.ensures _
    c.in-Refused.is in
    λ f cf. on_reading _ _ _ _ _ q.0 q.1
