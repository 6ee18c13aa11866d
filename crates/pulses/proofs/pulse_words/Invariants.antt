-- `pulses::pulse_words` passes the words of a slice in turn: those left lead where all lead from the first.
use Prim.Native.Nat.{◌-◌}
use mathlib.Core.Path.{◌≡◌}
use lib.ListN.{length, drop}
use Rattle.signals.specs.Passing.{held_value}
use Rattle.sources.proofs.Readers.{Reading}
use Rattle.lent_slots.specs.Lent.{through}
use Rattle.pulsing.specs.Turns.{state_of, past_word}
use Rattle.pulses.proofs.pulse_words.Given as goal

abbrev pub invariant-loop-reader : goal.invariant-loop-reader
invariant-loop-reader l =
    (length l.slot ≡ length l.initial.slot) × Reading l.f l.reader
    × (through (past_word l.d.0) (drop l.reader.passed l.f) (state_of (held_value l.f l.reader.passed) l.due.0 l.made l.slot)
    ≡ through (past_word l.d.0) (drop 1 l.f) (state_of (held_value l.f 1) l.initial.due.0 l.initial.made l.initial.slot))

abbrev pub decreases-loop-reader : goal.decreases-loop-reader
decreases-loop-reader l = length l.f - l.reader.passed
