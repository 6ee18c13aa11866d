-- `sheets::words_fault` meets its contract: the fault of the words left from here is that of all after the first.
use Rattle.std.proofs.Common.{◌≡◌, ◌-◌, ◌*◌, ◌/◌, ◌%◌, eqb, drop}
use Rattle.format.specs.Reading.{sheet_words_fault, later_words_fault}
use Rattle.sheets.proofs.words_fault.Given as goal

abbrev pub invariant-loop-i : goal.invariant-loop-i
invariant-loop-i l =
    later_words_fault (l.before / 4) (eqb (l.before % 2) 1) (l.n - l.i) (drop (4 * l.i) l.bytes) ≡ sheet_words_fault l.n l.bytes
