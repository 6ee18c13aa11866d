-- `delays::delay_words` passes the words of a slice in turn: those left lead where all lead from the first.
use mathlib.Core.Path.{◌≡◌}
use lib.ListN.{length, drop}
use Rattle.delaying.specs.Turns.{state_of, past_words}
use Rattle.delays.proofs.delay_words.Given as goal

abbrev pub invariant-loop-word : goal.invariant-loop-word
invariant-loop-word l =
    (length l.slot ≡ length l.initial.slot)
    × (past_words l.level l.d.0 (drop l.word-index l.word-items) (state_of l.timer l.made l.slot) ≡ past_words l.level l.d.0 (drop 1 l.f)
    (state_of l.initial.timer l.initial.made l.initial.slot))
