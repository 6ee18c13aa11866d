-- `comparing::seek` meets its contract: what is met from where the loop stands is met from where it began, and each turn passes a word.
use Prim.Native.Nat.{◌+◌, ◌-◌}
use lib.ListN.{length}
use Rattle.sources.specs.Lending.{list_in}
use Rattle.comparing.proofs.Scanning.{Scanning}
use Rattle.comparing.proofs.seek.Given as goal

abbrev pub invariant-loop-f : goal.invariant-loop-f
invariant-loop-f l =
    Scanning l.both l.failing (list_in l.lent l.work l.f) (list_in l.lent l.work l.g)
    (record { after = l.initial.last; left = l.initial.a; right = l.initial.b }) l.last l.a l.b

abbrev pub decreases-loop-f : goal.decreases-loop-f
decreases-loop-f l =
    (length (list_in l.lent l.work l.f) - l.a.passed) + (length (list_in l.lent l.work l.g) - l.b.passed)
