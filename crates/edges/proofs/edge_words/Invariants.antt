-- `edges::edge_words` meets its contract: at each turn the words left make of what is built what all make of the first.
use mathlib.Core.Path.{◌≡◌}
use lib.ListN.{drop}
use Rattle.edges.specs.Edging.{edges_made, edges_slot}
use Rattle.edges.proofs.edge_words.Given as goal

abbrev pub invariant-loop-word : goal.invariant-loop-word
invariant-loop-word l = record {
  made : edges_made l.level (drop l.word-index l.word-items) l.before l.made
      ≡ edges_made l.level l.word-items l.initial.before l.initial.made;
  slot : edges_slot l.level (drop l.word-index l.word-items) l.before l.made l.slot
      ≡ edges_slot l.level l.word-items l.initial.before l.initial.made l.initial.slot;
}
