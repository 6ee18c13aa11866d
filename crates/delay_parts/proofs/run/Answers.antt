-- `delay_parts::run` puts the first word into the slot; the words left lead to the rest.
use Prim.Native.Nat.{◌+◌, ◌-◌}
use mathlib.Core.Path.{◌≡◌, ◌∙◌}
use mathlib.Core.List.{◌++◌}
use lib.ListN.{length, take, drop}
use Rattle.signals.specs.Words.{most_words, value_after}
use Rattle.lent_slots.proofs.LentRuns.{first_length}
use Rattle.delaying.specs.Turns.{past_word}
use Rattle.delay_parts.proofs.DelayRun.{begun_delay}
use Rattle.delay_parts.proofs.run.Goals as goal
use Rattle.delay_parts.proofs.run.Goals.{After-begin-made, After-slice_known-1}

-- the work area with the first word in its slot is as long as before
long : (c : After-begin-made)
    → length (take c.args.at c.args.work.now ++ (c.begin-made.new.slot ++ drop (c.args.at + most_words - c.args.at)
    (drop c.args.at c.args.work.now))) ≡ length c.args.work.now
long c =
    let x = c.args in
    first_length (past_word x.level x.d.0) x.lent.sheet.now x.lent.left.now x.lent.right.now x.work.now x.f x.at most_words
    c.requires.0 c.requires.1 c.begin-made.new.slot c.on_level-shown.result c.begin-made.ensures.1

pub pass_words-requires : goal.pass_words-requires
pass_words-requires c =
    (rw (long (goal.at.pass_words-requires c).After-begin-made) c.requires.0, c.requires.1)

pub shape_of-work : goal.shape_of-work
shape_of-work c = c.pass_words.auto.work ∙ long (goal.at.shape_of-work c).After-begin-made

pub returns : goal.returns
unfolding value_after
returns c =
    let x = c.args in
    begun_delay x.level x.d.0 x.lent.sheet.now x.lent.left.now x.lent.right.now x.work.now x.f x.at most_words c.requires.0
    c.requires.1 c.begin-made.new.slot c.on_level-shown.result c.begin-made.ensures.1 _
    c.next_word-word.ensures _ c.on_level-value.ensures _ c.first-timer.ensures
    c.on_level-shown.ensures _ c.begin-made.ensures.0 _ _ c.pass_words.ensures
