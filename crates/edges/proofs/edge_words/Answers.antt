-- `edges::edge_words` meets its contract: at each turn the words left make of what is built what all make of the first.
use mathlib.Core.Path.{◌∙◌}
use Rattle.std.proofs.lemmas.List.{take_rest}
use Rattle.signals.specs.Words.{date_of, value_at, value_after}
use Rattle.edges.proofs.Edged.{word_more, none_left}
use Rattle.edges.proofs.edge_words.Goals as goal

pub loop-word-preserved : goal.loop-word-preserved
unfolding date_of value_at value_after
loop-word-preserved c =
    let more = word_more _ _ _ c.loop-word-test.true _ _ _ _ c.is_edge.ensures _ _ c.emit-made.ensures in
    record { made = more.0 ∙ c.loop-word.invariant.made; slot = more.1 ∙ c.loop-word.invariant.slot }

pub returns : goal.returns
unfolding value_after
returns c =
    let end = none_left c.args.level _ _ c.loop-word-test.false c.loop-word.before c.loop-word.made c.loop-word.slot in
    let first = c.begin-made.ensures in
    let made = end.0 ∙ c.loop-word.invariant.made in
    let slot = end.1 ∙ c.loop-word.invariant.slot in
    (rw (take_rest c.args.a.now 1, first.0) at made, rw (take_rest c.args.a.now 1, first.0, first.1) at slot)
