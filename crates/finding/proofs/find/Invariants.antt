-- `finding::find` meets its contract: the place among the signals left from here is the place among all.
use Rattle.std.proofs.Common.{◌≡◌, ◌-◌, ◌≤◌, length, drop}
use Rattle.format.specs.Calls.{place_among}
use Rattle.finding.proofs.find.Given as goal

abbrev pub invariant-loop : goal.invariant-loop
invariant-loop l =
    (l.at ≤ length l.sheet)
    × (place_among l.name l.at (l.count - l.counter) (drop l.at l.sheet) ≡ place_among l.name 7 l.count (drop 7 l.sheet))
