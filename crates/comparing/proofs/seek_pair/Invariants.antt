-- `comparing::seek_pair` meets its contract: what is met from where the loop stands is met from where it began; each turn passes a word.
use Prim.Native.Nat.{◌+◌, ◌-◌}
use lib.ListN.{length}
use Rattle.comparing.proofs.Scanning.{Scanning}
use Rattle.comparing.proofs.seek_pair.Given as goal

abbrev pub invariant-loop-x : goal.invariant-loop-x
invariant-loop-x l =
    Scanning l.both l.failing l.f l.g (record { after = l.initial.last; left = l.initial.x; right = l.initial.y }) l.last l.x l.y

abbrev pub decreases-loop-x : goal.decreases-loop-x
decreases-loop-x l =
    (length l.f - l.x.passed) + (length l.g - l.y.passed)
