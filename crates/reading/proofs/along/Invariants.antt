-- `reading::along` meets its contract: what is gone along from the words passed is what is gone along from those passed first.
use Prim.Native.Nat.{◌-◌}
use mathlib.Core.Path.{◌≡◌}
use lib.ListN.{length}
use Rattle.reading.specs.Reading.{next_date}
use Rattle.reading.specs.Along.{along_to}
use Rattle.reading.proofs.along.Given as goal

abbrev pub invariant-loop-next : goal.invariant-loop-next
invariant-loop-next l =
    (along_to l.words l.count l.date.0 ≡ along_to l.words l.passed l.date.0) × (l.next.0 ≡ next_date l.words l.count)

abbrev pub decreases-loop-next : goal.decreases-loop-next
decreases-loop-next l = length l.words - l.count
