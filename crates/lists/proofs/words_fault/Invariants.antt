-- `lists::words_fault` meets its contract: what is left to judge from the word reached has the fault of the whole.
use Prim.Native.Nat.{◌/◌, ◌%◌}
use mathlib.Core.Path.{◌≡◌}
use lib.Dec.{eqb}
use lib.ListN.{get_or, drop}
use Rattle.signals.specs.Words.{head_value, words_fault}
use Rattle.lists.proofs.words_fault.Given as goal

abbrev pub invariant-loop-w : goal.invariant-loop-w
invariant-loop-w l =
    words_fault 0 (head_value (get_or l.list 0 0)) (drop 1 l.list)
    ≡ words_fault (l.before / 4) (eqb (l.before % 2) 1) (drop l.w-index l.w-items)
