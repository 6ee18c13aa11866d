-- `sheets::sheet_fault` meets its contract: the fault from here, after the signals passed, is the fault of the sheet.
use Rattle.std.proofs.Common.{◌≡◌, drop, refl, sym, ap, ◌∙◌, arith}
use native.Mathlib.Nat.{sub-zero}
use Rattle.slices.proofs.Steps.{part_rest}
use Rattle.format.specs.Reading.{signal_size, signal_fault, signals_from, names, count_on}
use Rattle.format.specs.Walk.{size_of}
use Rattle.format.proofs.Judging.{none_left, some_left}
use Rattle.format.proofs.Judging.{fronted, sheet_front, sheet_past, signals_fault_lem, signals_end, room_next, at_next, whole_after}
use Rattle.format.proofs.Judging.{fault_next}
use Rattle.sheets.proofs.sheet_fault.Goals as goal
use Rattle.sheets.proofs.sheet_fault.Goals.{After-signal_size-at}

pub returns-then-front-ne0 : goal.returns-then-front-ne0
returns-then-front-ne0 c =
    let front = c.front_fault-front in
    front.ensures ∙ sheet_front c.args.sheet.now (λ e. c.if-front-ne0.true (front.ensures ∙ e))

pub loop-i-init : goal.loop-i-init
unfolding size_of signals_from names count_on
loop-i-init c =
    let s = c.args.sheet.now in
    let fine = sym c.front_fault-front.ensures ∙ c.if-front-ne0.false in
    let room = (fronted s fine).room in
    (room, refl, room, tt, rw (sub-zero, c.read16-count.ensures.0) (sym (sheet_past s fine)))

pub signal_fault-fault-requires : goal.signal_fault-fault-requires
signal_fault-fault-requires c =
    record { in_bounds = (c.loop-i.invariant.0, c.loop-i.invariant.3); at_in_bounds = c.loop-i.invariant.2 }

pub returns-then-fault-ne0 : goal.returns-then-fault-ne0
returns-then-fault-ne0 c =
    let loop = c.loop-i in
    let fault = c.signal_fault-fault in
    fault.ensures ∙ signals_fault_lem _ c.read16-count.result loop.i (drop loop.at c.args.sheet.now) c.loop-i-test.true
    (λ e. c.if-fault-ne0.true (fault.ensures ∙ e)) ∙ loop.invariant.4

-- the size of the signal at the place, which has no fault
size_is : (c : After-signal_size-at) → c.signal_size-at.result ≡ signal_size (drop c.loop-i.at c.args.sheet.now)
size_is c = c.signal_size-at.ensures ∙ ap signal_size (part_rest c.args.sheet.now c.loop-i.at)

fine : (c : After-signal_size-at)
    → signal_fault (names (signals_from c.loop-i.i (drop 7 c.args.sheet.now))) (drop c.loop-i.at c.args.sheet.now) ≡ 0
fine c = sym c.signal_fault-fault.ensures ∙ c.if-fault-ne0.false

pub overflow_add-at : goal.overflow_add-at
overflow_add-at c =
    let loop = c.loop-i in
    let k = (goal.at.overflow_add-at c).After-signal_size-at in
    omega (
      arith,
      size_is k,
      room_next c.args.sheet.now loop.at c.read16-count.result loop.i c.loop-i-test.true loop.invariant.1 loop.invariant.2
          loop.invariant.3 (fine k),
    )

pub loop-i-preserved : goal.loop-i-preserved
loop-i-preserved c =
    let s = c.args.sheet.now in
    let loop = c.loop-i in
    let inv = loop.invariant in
    let n = c.read16-count.result in
    let h = c.loop-i-test.true in
    let k = (goal.at.loop-i-preserved c).After-signal_size-at in (
      inv.0,
      rw (size_is k) (at_next s loop.at n loop.i h inv.1 inv.2 inv.3 (fine k)),
      rw (size_is k) (room_next s loop.at n loop.i h inv.1 inv.2 inv.3 (fine k)),
      whole_after s loop.at n loop.i h inv.1 inv.2 inv.3 (fine k),
      rw (size_is k) (fault_next s loop.at n loop.i h inv.1 inv.2 inv.3 (fine k) ∙ inv.4),
    )

pub returns-then-at-sheet : goal.returns-then-at-sheet
returns-then-at-sheet c =
    let s = c.args.sheet.now in
    let loop = c.loop-i in
    sym (signals_end _ c.read16-count.result loop.i (drop loop.at s) c.loop-i-test.false ∙ none_left s loop.at c.if-at-sheet.true)
    ∙ loop.invariant.4

pub returns-else-at-sheet : goal.returns-else-at-sheet
returns-else-at-sheet c =
    let s = c.args.sheet.now in
    let loop = c.loop-i in
    sym (signals_end _ c.read16-count.result loop.i (drop loop.at s) c.loop-i-test.false
    ∙ some_left s loop.at loop.invariant.2 c.if-at-sheet.false) ∙ loop.invariant.4
