-- `tidying::count_words` meets its contract: what is counted and what is left to count make the whole.
use Rattle.tidying.proofs.Turns.{CountedTo}
use Rattle.tidying.proofs.count_words.Given as goal

abbrev pub invariant-loop-i : goal.invariant-loop-i
invariant-loop-i l = CountedTo l.list l.kept l.wrong l.i
