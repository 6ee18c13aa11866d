-- `texts::last_digits` meets its contract: the digits still to be put and those that stand at the end of the array are the number's.
use Rattle.texts.proofs.Digits.{Put}
use Rattle.texts.proofs.last_digits.Given as goal

abbrev pub invariant-loop-left : goal.invariant-loop-left
invariant-loop-left l = Put l.n l.text l.left l.at

abbrev pub decreases-loop-left : goal.decreases-loop-left
decreases-loop-left l = l.left
