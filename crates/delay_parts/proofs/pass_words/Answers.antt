-- `delay_parts::pass_words` passes word by word what is left of the list: its loop keeps `Running`.
use native.Mathlib.Omega.{arith}
use mathlib.Core.Path.{refl, ap}
use Rattle.signals.specs.Words.{most_words}
use Rattle.sources.proofs.Lending.{words_lent}
use Rattle.lent_slots.proofs.LentRuns.{Placed, few_words, running_first, running_length, lent_length, word_turn}
use Rattle.lent_slots.proofs.LentRuns.{running_end, is_left, small, none_left}
use Rattle.delay_parts.specs.DelayAt.{ended}
use Rattle.delay_parts.proofs.DelayRun.{finish, past_through}
use Rattle.delay_parts.proofs.pass_words.Goals as goal
use Rattle.delay_parts.proofs.pass_words.Goals.{After-slice_known-1}

placed : (c : After-slice_known-1)
    → Placed c.args.lent.sheet.now c.args.lent.left.now c.args.lent.right.now c.args.work.now
    c.args.f c.args.at most_words
placed c =
    record {
      fits = c.requires.0;
      apart = c.requires.1;
      words = words_lent c.args.lent c.args.work.now (λ i. (c.slice_known-1.given i).fits) c.args.f;
      few = omega arith;
    }

pub loop-word-init : goal.loop-word-init
loop-word-init c =
    let p = placed (goal.at.loop-word-init c).After-slice_known-1 in
    (refl, p, running_first _ _ _ _ _ _ _ _ p _, c.next_word-word.ensures)

pub slice_bounds-pass-end : goal.slice_bounds-pass-end
slice_bounds-pass-end c =
    let here = c.loop-word.invariant in
    omega (arith, here.0, here.1.fits, running_length _ _ _ _ _ _ _ _ here.1 _ _ _ _ here.2)

pub overflow_cast-word : goal.overflow_cast-word
overflow_cast-word c =
    let here = c.loop-word.invariant in
    omega (arith, small _ here.1.words _ _ here.3 c.loop-word-test.true)

pub overflow_add-passed : goal.overflow_add-passed
overflow_add-passed c =
    let here = c.loop-word.invariant in
    omega (arith, is_left _ here.1.words _ _ here.3 c.loop-word-test.true, few_words _ _ _ _ _ _ _ here.1)

pub loop-word-smaller : goal.loop-word-smaller
loop-word-smaller c =
    let here = c.loop-word.invariant in
    omega (arith, is_left _ here.1.words _ _ here.3 c.loop-word-test.true)

pub loop-word-preserved : goal.loop-word-preserved
loop-word-preserved c =
    let here = c.loop-word.invariant in
    let turn =
    word_turn _ _ _ _ _ _ _ _ here.1 _ _ _ _ here.2 _ c.pass-going.auto.slot _ here.3 c.loop-word-test.true _
    c.pass-going.ensures _ c.next_word-word-in-loop-word.ensures in (
      here.0,
      here.1,
      turn.0,
      turn.1,
    )

pub slice_bounds-settle-end : goal.slice_bounds-settle-end
slice_bounds-settle-end c =
    let here = c.loop-word.invariant in
    omega (arith, here.0, here.1.fits, running_length _ _ _ _ _ _ _ _ here.1 _ _ _ _ here.2)

pub shape_of-work : goal.shape_of-work
shape_of-work c =
    let here = c.loop-word.invariant in
    lent_length _ _ _ _ _ _ _ _ here.1 _ _ _ _ here.2 c.settle-going.new.slot c.settle-going.auto.slot

pub returns : goal.returns
returns c =
    let here = c.loop-word.invariant in
    rw (past_through _ _ _ _)
    (running_end _ _ _ _ _ _ _ _ here.1 _ _ _ _ here.2 _ c.settle-going.auto.slot
    (none_left _ here.1.words _ _ here.3 c.loop-word-test.false) (finish _) _
    (ap ended c.settle-going.ensures))
