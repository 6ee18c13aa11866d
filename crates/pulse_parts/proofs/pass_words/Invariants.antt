-- `pulse_parts::pass_words` passes word by word what is left of the list: its loop keeps `Running`.
use Prim.Native.Nat.{◌+◌, ◌-◌}
use mathlib.Core.Path.{◌≡◌}
use lib.ListN.{length}
use Rattle.signals.specs.Words.{most_words}
use Rattle.signals.specs.Passing.{held_value}
use Rattle.sources.specs.Lending.{list_in}
use Rattle.sources.specs.Sources.{slot_in}
use Rattle.sources.proofs.Readers.{Reading}
use Rattle.lent_slots.proofs.LentRuns.{Placed}
use Rattle.pulsing.specs.Turns.{state_of}
use Rattle.pulsing.proofs.PulseLoops.{Runs}
use Rattle.pulse_parts.proofs.pass_words.Given as goal

abbrev pub invariant-loop-reader : goal.invariant-loop-reader
invariant-loop-reader l =
    (l.end ≡ l.at + most_words)
    × (p : Placed l.lent.sheet.now l.lent.left.now l.lent.right.now l.initial.work l.f l.at most_words)
    × Reading (list_in l.lent l.initial.work l.f) l.reader
    × Runs l.d.0 l.lent.sheet.now l.lent.left.now l.lent.right.now l.initial.work l.f l.at most_words p
    (state_of (held_value (list_in l.lent l.initial.work l.f) 1) l.initial.due.0 l.initial.made
    (slot_in l.initial.work l.at most_words)) l.work l.reader l.due.0 l.made

abbrev pub decreases-loop-reader : goal.decreases-loop-reader
decreases-loop-reader l = length (list_in l.lent l.initial.work l.f) - l.reader.passed
