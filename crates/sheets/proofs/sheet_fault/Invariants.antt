-- `sheets::sheet_fault` meets its contract: the fault from here, after the signals passed, is the fault of the sheet.
use Prim.Native.Nat.{◌+◌, ◌-◌, ◌≤◌}
use mathlib.Core.Path.{◌≡◌}
use lib.ListN.{length, drop}
use Rattle.format.specs.Reading.{sheet_fault, signals_fault, signals_from, names}
use Rattle.format.specs.Walk.{Whole, size_of}
use Rattle.sheets.proofs.sheet_fault.Given as goal

abbrev pub invariant-loop-i : goal.invariant-loop-i
invariant-loop-i l =
    (7 ≤ length l.sheet)
    × (l.at ≡ 7 + size_of l.i (drop 7 l.sheet))
    × (l.at ≤ length l.sheet)
    × Whole l.i (drop 7 l.sheet)
    × (signals_fault (names (signals_from l.i (drop 7 l.sheet))) (l.count - l.i) (drop l.at l.sheet) ≡ sheet_fault l.sheet)
