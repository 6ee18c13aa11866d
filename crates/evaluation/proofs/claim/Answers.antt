-- `evaluation::claim` meets its contract: each return is the first fault in document 01's order, or the verdict.
use mathlib.Core.Path.{sym}
use lib.Seq.{length-take-le}
use Rattle.slices.specs.Bytes.{Bytes}
use Rattle.machine.proofs.Claiming.{claim_refused, claim_goes_on}
use Rattle.preparing.proofs.OnSheet.{sheet_fine, judged_refused, judged_few, judged_coded}
use Rattle.evaluation.proofs.claim.Goals as goal

pub slice_bounds-f_codes-end : goal.slice_bounds-f_codes-end
slice_bounds-f_codes-end c =
    judged_few _ _ (λ i. (c.type_inv.sheet i).fits) _ _ _
    c.judge_and_prepare.ensures _ c.in-Count.is

pub slice_bounds-claim_on-end : goal.slice_bounds-claim_on-end
slice_bounds-claim_on-end c = sym (length-take-le _ _ (judged_few _ _ (λ i. (c.type_inv.sheet i).fits) _ _ _
    c.judge_and_prepare.ensures _ c.in-Count.is))

pub claim_on-requires : goal.claim_on-requires
claim_on-requires c =
    sheet_fine _ _ (λ i. (c.type_inv.sheet i).fits) _ _ _
    c.judge_and_prepare.ensures _ c.in-Count.is

pub returns-in-Count : goal.returns-in-Count
returns-in-Count c =
    let bytes : Bytes c.args.sheet.now = λ i. (c.type_inv.sheet i).fits in
    let fine = sheet_fine _ _ bytes _ _ _ c.judge_and_prepare.ensures _ c.in-Count.is in
    let coded = judged_coded _ _ bytes _ _ _ c.judge_and_prepare.ensures _ c.in-Count.is in
    claim_goes_on _ _ _ _ fine coded.read _ _ (c.claim_on.ensures _ coded)

pub returns-in-Refused : goal.returns-in-Refused
returns-in-Refused c =
    let q = judged_refused _ _ (λ i. (c.type_inv.sheet i).fits) _ _ _
    c.judge_and_prepare.ensures _
    c.in-Refused.is in
    claim_refused c.args.sheet.now c.args.f.now c.args.g.now c.args.work.now _ q.0 q.1
