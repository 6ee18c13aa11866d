-- `pulse_parts::run` puts the first word into the slot; the words left lead to the rest.
use Prim.Native.Nat.{◌+◌, ◌-◌}
use mathlib.Core.Path.{◌≡◌, ◌∙◌}
use mathlib.Core.List.{◌++◌}
use mathlib.Core.Bool.{false}
use lib.ListN.{length, take, drop}
use Rattle.signals.specs.Words.{most_words}
use Rattle.lent_slots.proofs.LentRuns.{first_length}
use Rattle.pulsing.specs.Turns.{past_word}
use Rattle.pulse_parts.proofs.PulseRun.{begun_pulses}
use Rattle.pulse_parts.proofs.run.Goals as goal
use Rattle.pulse_parts.proofs.run.Goals.{After-begin-made}

-- the work area with the first word in its slot is as long as before
long : (c : After-begin-made)
    →
    length (take c.args.at c.args.work.now ++ (c.begin-made.new.slot ++ drop (c.args.at + most_words - c.args.at)
    (drop c.args.at c.args.work.now))) ≡ length c.args.work.now
long c =
    let x = c.args in
    first_length (past_word x.d.0) x.lent.sheet.now x.lent.left.now x.lent.right.now x.work.now x.f x.at most_words
    c.requires.0 c.requires.1 c.begin-made.new.slot false c.begin-made.ensures.1

pub pass_words-requires : goal.pass_words-requires
pass_words-requires c =
    (rw (long (goal.at.pass_words-requires c).After-begin-made) c.requires.0, c.requires.1)

pub shape_of-work : goal.shape_of-work
shape_of-work c = c.pass_words.auto.work ∙ long (goal.at.shape_of-work c).After-begin-made

pub returns : goal.returns
returns c =
    let x = c.args in
    begun_pulses x.d.0 x.lent.sheet.now x.lent.left.now x.lent.right.now x.work.now x.f x.at most_words c.requires.0
    c.requires.1 c.begin-made.new.slot c.begin-made.ensures.1 _ c.begin-made.ensures.0 _ _
    c.pass_words.ensures
