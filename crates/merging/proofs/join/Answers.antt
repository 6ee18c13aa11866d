-- `merging::join` meets its contract, as `merge` does: a connective's values are cells of its table.
use Prim.Native.Nat.{ℕ, ◌+◌, ◌-◌}
use native.Mathlib.Omega.{arith}
use mathlib.Core.Path.{◌∙◌, ap}
use mathlib.Core.List.{List, ◌++◌}
use lib.ListN.{take, drop}
use mathlib.Core.Bool.{false}
use Rattle.signals.specs.Words.{value_after}
use Rattle.showing.specs.declared.Operation.TheVariants.{Connective}
use Rattle.sources.specs.Sources.{list_at, past_on}
use Rattle.merging.proofs.Along.{first_cell, date_cells}
use Rattle.merging.proofs.MergeLoop.{Started, started, may_there, built_there}
use Rattle.merging.proofs.MergeLoop.{looping_turn, looping_falls, looping_end, looping_long, looping_still}
use Rattle.merging.proofs.join.Goals as goal
use Rattle.merging.proofs.join.Goals.{After-earlier-date, Start}

begins : (c : After-earlier-date)
    →
    let x = c.args in
    let work = take x.at x.work.now ++ (c.begin-made.new.slot ++ drop (x.at + x.room - x.at) (drop x.at x.work.now)) in
    Started Connective x.table (list_at x.lent.sheet.now x.lent.left.now x.lent.right.now x.work.now x.a)
    (list_at x.lent.sheet.now x.lent.left.now x.lent.right.now x.work.now x.b)
    (list_at x.lent.sheet.now x.lent.left.now x.lent.right.now work x.a)
    (list_at x.lent.sheet.now x.lent.left.now x.lent.right.now work x.b)
    x.work.now x.at (x.at + x.room - x.at) work
    c.start-x.result c.start-y.result c.begin-made.result false c.earlier-date.result
unfolding value_after
begins c =
    let x = c.args in
    started Connective x.table x.lent.sheet.now x.lent.left.now x.lent.right.now x.work.now x.a x.b x.at
    (x.at + x.room - x.at) (may_there x.a x.b x.at x.room _ c.requires)
    x.lent.bytes x.lent.left_words x.lent.right_words (λ i. (c.slice_known-1.given i).fits)
    c.well_formed.1.1.1.0.1.1.1.1.0.1 c.well_formed.1.1.1.1.0.1.1.1.1.0.1 _ _
    c.start-x.ensures c.start-y.ensures _ (first_cell _ _ _ _ c.cell_of-first.ensures)
    _ _ c.begin-made.ensures c.begin-made.auto.slot _ c.earlier-date.ensures

pub loop-date-init : goal.loop-date-init
loop-date-init c =
    let x = c.args in
    let may = may_there x.a x.b x.at x.room _ c.requires in
    let z = begins (goal.at.loop-date-init c).After-earlier-date in (omega arith, (may.0, may.1, rw z.long may.2), z.start)

pub slice_bounds-emit-end : goal.slice_bounds-emit-end
slice_bounds-emit-end c =
    let here = c.loop-date.invariant in
    omega (arith, here.1.2, looping_long _ _ _ _ _ _ _ _ here.1.2 _ _ _ _ _ _ here.2)

pub loop-date-smaller : goal.loop-date-smaller
loop-date-smaller c =
    let at = c.loop-date in
    let here = at.invariant in
    let x = c.args in
    let still = looping_still _ _ _ _ _ _ _ _ here.1.2 _ _ _ _ _ _ here.2 x.lent.sheet.now x.lent.left.now x.lent.right.now in
    let first = c.past-u.ensures ∙ ap (λ (l : List ℕ). past_on l at.x at.date) (still x.a here.1.0) in
    let second = c.past-v.ensures ∙ ap (λ (l : List ℕ). past_on l at.y at.date) (still x.b here.1.1) in
    looping_falls _ _ _ _ _ _ _ _ here.1.2 _ _ _ _ _ _ here.2 c.loop-date-test.true _ _ first second

pub loop-date-preserved : goal.loop-date-preserved
loop-date-preserved c =
    let at = c.loop-date in
    let here = at.invariant in
    let x = c.args in
    let still = looping_still _ _ _ _ _ _ _ _ here.1.2 _ _ _ _ _ _ here.2 x.lent.sheet.now x.lent.left.now x.lent.right.now in
    let first = c.past-u.ensures ∙ ap (λ (l : List ℕ). past_on l at.x at.date) (still x.a here.1.0) in
    let second = c.past-v.ensures ∙ ap (λ (l : List ℕ). past_on l at.y at.date) (still x.b here.1.1) in (
      here.0,
      here.1,
      looping_turn _ _ _ _ _ _ _ _ here.1.2 _ _ _ _ _ _ here.2 c.loop-date-test.true _ _ first second _
          (date_cells _ false c.past-u.result.step.before _ _ _ _ _ _ c.cell_of-value.ensures
          c.cell_of-after.ensures)
          _ _ c.emit-made.ensures c.emit-made.auto.slot _ c.earlier-date-in-loop-date.ensures,
    )

pub shape_of-work : goal.shape_of-work
shape_of-work c =
    let here = c.loop-date.invariant in
    looping_long _ _ _ _ _ _ _ _ here.1.2 _ _ _ _ _ _ here.2 ∙ (begins (goal.at.shape_of-work c).After-earlier-date).long

pub returns : goal.returns
returns c =
    let here = c.loop-date.invariant in
    let x = c.args in
    built_there _ _ _ _ x.work.now x.at x.room _ _ ((begins (goal.at.returns c).After-earlier-date).builds _ _ here.2.slot here.2.now_is
    (looping_end _ _ _ _ _ _ _ _ here.1.2 _ _ _ _ _ _ here.2 c.loop-date-test.false))
