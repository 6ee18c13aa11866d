-- `appending::append` meets its contract.
use Rattle.slices.proofs.Steps.{part_rest}
use lib.ListN.{length-drop}
use lib.Seq.{length-take-le}
use native.Mathlib.Omega.{arith}
use mathlib.Core.Path.{◌≡◌, sym, ap, ◌∙◌}
use lib.ListN.{length}
use Rattle.slices.specs.Bytes.{Bytes}
use Rattle.format.specs.Calls.{append_fault}
use Rattle.slices.proofs.Placing.{put_fits}
use Rattle.format.proofs.Locating.{count_is}
use Rattle.format.proofs.Appending.{append_refused, append_put, append_room, Roomy}
use Rattle.appending.proofs.append.Goals as goal
use Rattle.appending.proofs.append.Goals.{Else-fault-ne0}

-- past the judging: the sheet, the name, the list, the output at entry; the sheet is bytes; no fault; what fits
bytes : (c : Else-fault-ne0) → Bytes c.args.sheet.now
bytes c i = omega (arith, c.type_inv.sheet i)

none : (c : Else-fault-ne0) → append_fault c.args.sheet.now c.args.name.now c.args.list.now (length c.args.out.now) ≡ 0
none c = sym c.append_fault-fault.ensures ∙ c.if-fault-ne0.false

fits : (c : Else-fault-ne0) → Roomy c.args.sheet.now c.args.name.now c.args.list.now c.args.out.now
fits c = append_room c.args.sheet.now c.args.name.now c.args.list.now c.args.out.now (bytes c) (none c)

pub returns-then-fault-ne0 : goal.returns-then-fault-ne0
returns-then-fault-ne0 c =
    append_refused c.args.sheet.now
    c.args.name.now
    c.args.list.now c.args.out.now
    c.append_fault-fault.result c.append_fault-fault.ensures c.if-fault-ne0.true

pub slice_bounds-put-end : goal.slice_bounds-put-end
slice_bounds-put-end c = sym (length-take-le 5 c.args.sheet.now
    (omega (arith, (fits (goal.at.slice_bounds-put-end c).Else-fault-ne0).front)))

pub put16-requires : goal.put16-requires
put16-requires c =
    let k = fits (goal.at.put16-requires c).Else-fault-ne0 in omega (arith, c.put.auto.out)

pub slice_bounds-put-count : goal.slice_bounds-put-count
slice_bounds-put-count c = (fits (goal.at.slice_bounds-put-count c).Else-fault-ne0).front

pub slice_bounds-put-start : goal.slice_bounds-put-start
slice_bounds-put-start c = (fits (goal.at.slice_bounds-put-start c).Else-fault-ne0).front

pub put_signal-requires : goal.put_signal-requires
put_signal-requires c = (
  omega (arith, (fits (goal.at.put_signal-requires c).Else-fault-ne0).all, c.put.auto.out, c.put16.auto.out, c.put-2.auto.out),
  (fits (goal.at.put_signal-requires c).Else-fault-ne0).short,
)

pub overflow_add-result-2 : goal.overflow_add-result-2
overflow_add-result-2 c = omega (arith, (fits (goal.at.overflow_add-result-2 c).Else-fault-ne0).all)

pub returns : goal.returns
returns c =
    let k = fits (goal.at.returns c).Else-fault-ne0 in
    let count = c.read16-count in
    let first = c.put in
    let second = c.put16 in
    let third = c.put-2 in
    let last = c.put_signal in
    let rest = ap length (part_rest c.args.sheet.now 7) ∙ length-drop 7 c.args.sheet.now in
    let first-is = first.ensures ∙ put_fits _ _ _ (omega (arith, length-take-le 5 c.args.sheet.now (omega arith))) in
    let third-is = third.ensures ∙ put_fits _ _ _ (omega (arith, first.auto.out, second.auto.out, rest)) in
    append_put c.args.sheet.now c.args.name.now c.args.list.now c.args.out.now first.new.out second.new.out third.new.out last.new.out
    count.result
    (bytes (goal.at.returns c).Else-fault-ne0) (none (goal.at.returns c).Else-fault-ne0)
    (count_is c.args.sheet.now count.result count.ensures.0) first-is second.ensures third-is last.ensures
