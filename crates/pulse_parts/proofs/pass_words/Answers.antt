-- `pulse_parts::pass_words` passes word by word what is left of the list: its loop keeps `Running`.
use native.Mathlib.Omega.{arith}
use mathlib.Core.Path.{refl}
use Rattle.signals.specs.Words.{most_words}
use Rattle.sources.proofs.Lending.{words_lent}
use Rattle.sources.proofs.Readers.{reads_start}
use Rattle.lent_slots.specs.Lent.{ended_by}
use Rattle.lent_slots.proofs.LentRuns.{Placed, few_words, running_length, lent_length, running_end}
use Rattle.lent_slots.proofs.WordReaders.{word_left, none_left}
use Rattle.pulsing.specs.Turns.{finish}
use Rattle.pulsing.proofs.PulseTests.{put_in}
use Rattle.pulsing.proofs.PulseLoops.{runs_first, past_one, runs_next}
use Rattle.pulse_parts.proofs.pass_words.Goals as goal
use Rattle.pulse_parts.proofs.pass_words.Goals.{After-slice_known-1}

placed : (c : After-slice_known-1)
    → Placed c.args.lent.sheet.now c.args.lent.left.now c.args.lent.right.now c.args.work.now
    c.args.f c.args.at most_words
placed c =
    record {
      fits = c.requires.0;
      apart = c.requires.1;
      words = words_lent c.args.lent c.args.work.now (λ i. (c.slice_known-1.given i).fits) c.args.f;
      few = omega arith;
    }

pub loop-reader-init : goal.loop-reader-init
loop-reader-init c =
    let p = placed (goal.at.loop-reader-init c).After-slice_known-1 in (
      refl,
      p,
      reads_start _ p.words (few_words _ _ _ _ _ _ _ p) _ c.start-reader.ensures,
      runs_first _ _ _ _ _ _ _ _ p _ c.start-reader.ensures _ _,
    )

pub slice_bounds-pass-end : goal.slice_bounds-pass-end
slice_bounds-pass-end c =
    let here = c.loop-reader.invariant in
    omega (arith, here.0, here.1.fits, running_length _ _ _ _ _ _ _ _ here.1 _ _ _ _ here.3)

pub loop-reader-smaller : goal.loop-reader-smaller
loop-reader-smaller c =
    let here = c.loop-reader.invariant in
    omega (
      arith,
      (word_left _ _ here.2 c.loop-reader-test.true).0,
      past_one _ _ _ _ _ _ _ _ here.1 _ _ _ _ _ here.3 here.2 c.loop-reader-test.true _ c.past-passed.ensures,
    )

pub loop-reader-preserved : goal.loop-reader-preserved
loop-reader-preserved c =
    let here = c.loop-reader.invariant in
    let turn =
    runs_next _ _ _ _ _ _ _ _ here.1 _ _ _ _ _ here.3 here.2 c.loop-reader-test.true _ c.past-passed.ensures _
    c.pass-going.auto.slot _ _ c.pass-going.ensures in
    (here.0, here.1, turn.0, turn.1)

pub slice_bounds-emit-end : goal.slice_bounds-emit-end
slice_bounds-emit-end c =
    let here = c.loop-reader.invariant in
    omega (arith, here.0, here.1.fits, running_length _ _ _ _ _ _ _ _ here.1 _ _ _ _ here.3)

pub shape_of-work : goal.shape_of-work
shape_of-work c =
    let here = c.loop-reader.invariant in
    lent_length _ _ _ _ _ _ _ _ here.1 _ _ _ _ here.3 c.emit.new.slot c.emit.auto.slot

pub returns : goal.returns
returns c =
    let here = c.loop-reader.invariant in
    running_end _ _ _ _ _ _ _ _ here.1 _ _ _ _ here.3 _ c.emit.auto.slot (none_left _ _ here.2 c.loop-reader-test.false) finish _
    (put_in (ended_by _ _) _ _ _ _ c.emit.ensures)
