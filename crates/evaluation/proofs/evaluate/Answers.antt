-- `evaluation::evaluate` meets its contract: each return is the first fault in document 01's order, or the words.
use mathlib.Core.Path.{sym}
use lib.Seq.{length-take-le}
use Rattle.slices.specs.Bytes.{Bytes}
use Rattle.machine.proofs.Calling.{call_refused, call_run}
use Rattle.preparing.proofs.OnSheet.{sheet_fine, judged_refused, judged_few, judged_coded}
use Rattle.evaluation.proofs.evaluate.Goals as goal

pub slice_bounds-codes-end : goal.slice_bounds-codes-end
slice_bounds-codes-end c =
    judged_few _ _ (λ i. (c.type_inv.sheet i).fits) _ _ _
    c.judge_and_prepare.ensures _ c.in-Count.is

pub slice_bounds-run_formula-end : goal.slice_bounds-run_formula-end
slice_bounds-run_formula-end c = sym (length-take-le _ _ (judged_few _ _ (λ i. (c.type_inv.sheet i).fits) _ _ _
    c.judge_and_prepare.ensures _ c.in-Count.is))

pub run_formula-requires : goal.run_formula-requires
run_formula-requires c =
    sheet_fine _ _ (λ i. (c.type_inv.sheet i).fits) _ _ _
    c.judge_and_prepare.ensures _ c.in-Count.is

pub returns-in-Count : goal.returns-in-Count
returns-in-Count c =
    let bytes : Bytes c.args.sheet.now = λ i. (c.type_inv.sheet i).fits in
    let fine = sheet_fine _ _ bytes _ _ _ c.judge_and_prepare.ensures _ c.in-Count.is in
    let coded = judged_coded _ _ bytes _ _ _ c.judge_and_prepare.ensures _ c.in-Count.is in
    call_run _ _ _ _ fine coded.read _ _ _ (c.run_formula.ensures _ coded)

pub returns-in-Refused : goal.returns-in-Refused
returns-in-Refused c =
    let q = judged_refused _ _ (λ i. (c.type_inv.sheet i).fits) _ _ _
    c.judge_and_prepare.ensures _
    c.in-Refused.is in
    call_refused c.args.sheet.now c.args.formula.now c.args.work.now c.args.out.now _ q.0 q.1
