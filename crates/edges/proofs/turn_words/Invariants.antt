-- `edges::turn_words` meets its contract: the words before i are there and the rest is as it was.
use mathlib.Core.Path.{◌≡◌}
use mathlib.Core.List.{◌++◌}
use lib.ListN.{take, drop}
use Rattle.edges.specs.Turning.{turned_list}
use Rattle.edges.proofs.turn_words.Given as goal

abbrev pub invariant-loop-i : goal.invariant-loop-i
invariant-loop-i l = l.out ≡ take l.i (turned_list l.words) ++ drop l.i l.fn.out
