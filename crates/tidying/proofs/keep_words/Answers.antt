-- `tidying::keep_words` meets its contract: what is put and what is left to keep make the whole, and past it the output stays.
use native.Mathlib.Omega.{arith}
use mathlib.Core.Path.{◌∙◌, ap}
use mathlib.Core.List.{◌++◌}
use lib.ListN.{get_or, length-set}
use Rattle.tidying.specs.Kept.{kept}
use Rattle.tidying.proofs.Turns.{change_le, kept_some, put_start, put_some, put_room, put_turn, put_end, put_over}
use Rattle.lists.proofs.Judging.{head_some}
use borrow.Author.Rules.{rules}
use Rattle.tidying.proofs.keep_words.Goals as goal

pub bounds-list-0 : goal.bounds-list-0
bounds-list-0 c = head_some _ c.requires.0

pub bounds-out-0 : goal.bounds-out-0
bounds-out-0 c =
    omega (arith, c.requires.1, c.requires.2, kept_some _ c.requires.0)

pub loop-place-init : goal.loop-place-init
loop-place-init c =
    put_start c.args.list.now c.args.out.now c.args.count c.requires.0 c.requires.1 c.requires.2

pub offset_bounds-list-i : goal.offset_bounds-list-i
offset_bounds-list-i c = search (rules, put_some _ _ _ _ _ _ c.loop-place.invariant)

pub bounds-list-i : goal.bounds-list-i
bounds-list-i c = search (rules, put_some _ _ _ _ _ _ c.loop-place.invariant)

pub offset_bounds-out-place : goal.offset_bounds-out-place
offset_bounds-out-place c = search (rules, put_room _ _ _ _ _ _ c.loop-place.invariant)

pub bounds-out-place : goal.bounds-out-place
bounds-out-place c = search (rules, put_room _ _ _ _ _ _ c.loop-place.invariant)

pub overflow_sub-i : goal.overflow_sub-i
overflow_sub-i c = c.loop-place.invariant.one

pub offset_bounds-list-i-in-loop-place : goal.offset_bounds-list-i-in-loop-place
offset_bounds-list-i-in-loop-place c = search (rules, put_some _ _ _ _ _ _ c.loop-place.invariant c.loop-place-test.true)

pub bounds-list-i-in-loop-place : goal.bounds-list-i-in-loop-place
bounds-list-i-in-loop-place c =
    omega (arith, put_some _ _ _ _ _ _ c.loop-place.invariant c.loop-place-test.true)

pub overflow_add-place : goal.overflow_add-place
overflow_add-place c =
    search (
      rules,
      change_le _ _ _ c.changes.ensures,
      put_room _ _ _ _ _ _ c.loop-place.invariant c.loop-place-test.true,
    )

pub overflow_add-i : goal.overflow_add-i
overflow_add-i c =
    let at = c.loop-place in
    search (rules, put_some _ _ _ _ _ _ at.invariant c.loop-place-test.true)

pub loop-place-smaller : goal.loop-place-smaller
loop-place-smaller c =
    let at = c.loop-place in
    omega (arith, put_some _ _ _ _ _ _ at.invariant c.loop-place-test.true)

pub loop-place-preserved : goal.loop-place-preserved
loop-place-preserved c =
    let at = c.loop-place in
    put_turn _ _ _ _ _ _ at.invariant c.loop-place-test.true _ c.changes.ensures

pub shape_of-out : goal.shape_of-out
shape_of-out c =
    let x = c.args in
    c.loop-place.invariant.long ∙ length-set x.out.now 0 (get_or x.list.now 0 0)

pub returns : goal.returns
returns c =
    put_end _ _ _ _ _ _ c.loop-place.invariant c.loop-place-test.false
    ∙ ap (λ r. kept c.args.list.now ++ r) (put_over _ _ _ _ c.requires.0 c.requires.1)
