-- `working::work_out` meets its contract: the sources say where the lists on the stack stand, and no code word so far met a fault.
use Prim.Native.Nat.{ℕ, ◌+◌, ◌≤◌, ◌<◌}
use mathlib.Core.Path.{refl, sym}
use mathlib.Core.List.{List, ◌++◌}
use lib.ListN.{length, length-append}
use Rattle.working.proofs.Looping.{no_room, start, finished, lacks, too_high, ready, turned, halted}
use Rattle.std.proofs.lemmas.Result.{err_from_is_err_and}
use Rattle.working.proofs.work_out.Goals as goal

-- a code word is left, or none
left : (a b : List ℕ) (i : ℕ) → i < length a + length b → i < length (a ++ b)
left a b i h = rw (length-append a b) h

none : (a b : List ℕ) (i : ℕ) → length a + length b ≤ i → length (a ++ b) ≤ i
none a b i h = rw (length-append a b) h

pub returns-then-work-lt-WORK_WORDS : goal.returns-then-work-lt-WORK_WORDS
returns-then-work-lt-WORK_WORDS c = no_room _ _ _ c.if-work-lt-WORK_WORDS.true

pub loop-i-init : goal.loop-i-init
loop-i-init c =
    let a = c.args in
    (c.if-work-lt-WORK_WORDS.false, start _ _ _ _ refl)

pub code_at-code-requires : goal.code_at-code-requires
code_at-code-requires c = c.loop-i-test.true

pub shape_of-work-then-height-taken : goal.shape_of-work-then-height-taken
shape_of-work-then-height-taken c = c.loop-i.invariant.1.same

pub returns-then-height-taken : goal.returns-then-height-taken
returns-then-height-taken c =
    let inv = c.loop-i.invariant in
    lacks _ _ _ inv.0 _ _ _ _ _ inv.1 (left c.args.first.now c.args.second.now _ c.loop-i-test.true) _ c.code_at-code.ensures
    (rw (sym c.operands-taken.ensures) c.if-height-taken.true)

pub shape_of-work-then-place-gt-HIGHEST : goal.shape_of-work-then-place-gt-HIGHEST
shape_of-work-then-place-gt-HIGHEST c = c.loop-i.invariant.1.same

pub returns-then-place-gt-HIGHEST : goal.returns-then-place-gt-HIGHEST
returns-then-place-gt-HIGHEST c =
    let inv = c.loop-i.invariant in
    let t = c.operands-taken.ensures in
    too_high _ _ _ inv.0 _ _ _ _ _ inv.1 (left c.args.first.now c.args.second.now _ c.loop-i-test.true) _ c.code_at-code.ensures
    (rw (sym t) c.if-height-taken.false) (rw (sym t) c.if-place-gt-HIGHEST.true)

pub step-requires : goal.step-requires
step-requires c =
    let inv = c.loop-i.invariant in (
      c.operands-taken.ensures,
      ready _ _ _ inv.0 _ _ _ _ _ inv.1 (left c.args.first.now c.args.second.now _ c.loop-i-test.true) _ c.code_at-code.ensures
          _ c.operands-taken.ensures c.if-height-taken.false c.if-place-gt-HIGHEST.false,
    )

pub returns-in_err-list : goal.returns-in_err-list
returns-in_err-list c =
    let inv = c.loop-i.invariant in
    let p = err_from_is_err_and c.from_residual.result c.from_residual.ensures.1 in
    rw (p.1, p.2)
    (halted _ _ _ inv.0 _ _ _ _ _ inv.1 (left c.args.first.now c.args.second.now _ c.loop-i-test.true) _ c.code_at-code.ensures
    _ c.operands-taken.ensures c.if-height-taken.false c.if-place-gt-HIGHEST.false _ _ c.in_err-list.ensures)

pub loop-i-preserved : goal.loop-i-preserved
loop-i-preserved c =
    let inv = c.loop-i.invariant in (
      inv.0,
      turned _ _ _ inv.0 _ _ _ _ _ inv.1 (left c.args.first.now c.args.second.now _ c.loop-i-test.true) _ c.code_at-code.ensures
          _ c.operands-taken.ensures c.if-height-taken.false c.if-place-gt-HIGHEST.false _ _ c.in_ok-list.ensures,
    )

pub shape_of-work : goal.shape_of-work
shape_of-work c = c.loop-i.invariant.1.same

pub returns : goal.returns
returns c =
    let inv = c.loop-i.invariant in
    finished _ _ _ inv.0 _ _ _ _ _ inv.1 (none c.args.first.now c.args.second.now _ c.loop-i-test.false) _
    c.from_above.ensures
    c.from_above-2.ensures
