-- `charting::fill` meets its contract: the words of the moments so far are written, and the reader is behind the next moment's date.
use Rattle.charting.proofs.Filling.{Filling}
use Rattle.charting.proofs.fill.Given as goal

abbrev pub invariant-loop-i : goal.invariant-loop-i
invariant-loop-i l = Filling l.list l.moments l.initial.out l.behind l.passed l.i l.out
