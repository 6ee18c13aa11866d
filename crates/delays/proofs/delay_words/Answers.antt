-- `delays::delay_words` passes the words of a slice in turn: those left lead where all lead from the first.
use mathlib.Core.Path.{refl, ◌∙◌, ap}
use Rattle.std.proofs.lemmas.List.{take_rest}
use Rattle.signals.specs.Words.{date_of, value_at, value_after}
use Rattle.signals.specs.Passing.{held_value}
use Rattle.delaying.specs.Turns.{State, state_of, past_words, last_state}
use Rattle.delaying.proofs.WordTests.{begins, passes, leads_on, leads_home}
use Rattle.delays.proofs.delay_words.Goals as goal

pub loop-word-init : goal.loop-word-init
loop-word-init c = (refl, rw (take_rest c.args.f.now 1))

pub loop-word-preserved : goal.loop-word-preserved
unfolding date_of value_at value_after
loop-word-preserved c =
    let here = c.loop-word in
    let going = c.settle-before.result in (
      c.emit-made.auto.slot ∙ c.settle-before.auto.slot ∙ here.invariant.0,
      leads_on _ _ _ _ (state_of here.timer here.made here.slot) _ here.invariant.1 c.loop-word-test.true _
          (passes _ _ _ _ (state_of going.timer going.made c.settle-before.new.slot) c.settle-before.ensures _ _ _ _ _ _ _ _
          c.on_level-here.ensures c.on_level-next.ensures c.follow-now_at.ensures
          c.follow-timer.ensures c.on_level-at.ensures c.on_level-after.ensures
          c.emit-made.ensures),
    )

pub shape_of-slot : goal.shape_of-slot
shape_of-slot c =
    c.settle-last.auto.slot ∙ c.loop-word.invariant.0 ∙ c.begin-made.auto.slot

pub returns : goal.returns
unfolding value_after last_state held_value
returns c =
    let here = c.loop-word in
    let going = c.settle-last.result in
    let last =
    leads_home _ _ _ _ (state_of here.timer here.made here.slot) _ here.invariant.1 c.loop-word-test.false
    (state_of going.timer going.made c.settle-last.new.slot) c.settle-last.ensures
    ∙ ap (past_words _ _ _)
    (begins _ _ _ _ _ c.on_level-value.ensures _ c.first-timer.ensures _ c.on_level-shown.ensures _ _
    c.begin-made.ensures) in
    (ap (λ (s : State). s.made) last, ap (λ (s : State). s.slot) last)
