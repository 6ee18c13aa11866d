-- `evaluation::copy_words` meets its contract: after i turns the first i words are there and the rest is as it was.
use mathlib.Core.Path.{◌≡◌}
use mathlib.Core.List.{◌++◌}
use lib.ListN.{take, drop}
use Rattle.sources.specs.Lending.{list_in}
use Rattle.evaluation.proofs.copy_words.Given as goal

abbrev pub invariant-loop-i : goal.invariant-loop-i
invariant-loop-i l = l.out ≡ take l.i (list_in l.lent l.work l.list) ++ drop l.i l.initial.out
