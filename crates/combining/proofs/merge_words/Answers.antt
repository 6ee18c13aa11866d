-- `combining::merge_words` meets its contract: whatever the merge ends with from the state reached, it ends with from where the loop began.
use mathlib.Core.Path.{refl, ◌∙◌}
use Rattle.signals.specs.Words.{value_after}
use Rattle.merging.proofs.Along.{along_turn, along_falls, along_end}
use Rattle.combining.proofs.WordLoops.{words_start, words_built}
use Rattle.combining.proofs.merge_words.Goals as goal

pub loop-date-init : goal.loop-date-init
loop-date-init g c = (
  refl,
  words_start c.args.operation _ _ _ (λ i. (c.type_inv.a i).fits)
      (λ i. (c.type_inv.b i).fits) c.requires.short _ _ c.start_in-x.ensures c.start_in-y.ensures
      _ _ _ _ c.earlier-date.ensures,
)

pub loop-date-smaller : goal.loop-date-smaller
loop-date-smaller g c =
    let at = c.loop-date in
    along_falls _ _ _ _ _ _ _ _ _ _ _ at.invariant.1 c.loop-date-test.true _ _ c.past_in-u.ensures c.past_in-v.ensures

pub loop-date-preserved : goal.loop-date-preserved
loop-date-preserved g c =
    let at = c.loop-date in (
      c.emit-made.auto.slot ∙ at.invariant.0,
      along_turn _ _ _ _ _ _ _ _ _ _ _ at.invariant.1 c.loop-date-test.true _ _ c.past_in-u.ensures
          c.past_in-v.ensures _ c.shown_at-shown.ensures _ _ c.emit-made.ensures _ c.earlier-date-in-loop-date.ensures,
    )

pub returns : goal.returns
unfolding value_after
returns g c =
    words_built c.args.operation _ _ _ (λ i. (c.type_inv.a i).fits)
    (λ i. (c.type_inv.b i).fits) c.requires.short _ _ c.start_in-x.ensures c.start_in-y.ensures _
    c.first_shown-first.ensures _ _ _ c.begin-made.ensures _ _
    (along_end _ _ _ _ _ _ _ _ _ _ _ c.loop-date.invariant.1 c.loop-date-test.false)
