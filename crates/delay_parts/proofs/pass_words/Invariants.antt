-- `delay_parts::pass_words` passes word by word what is left of the list: its loop keeps `Running`.
use Prim.Native.Nat.{◌+◌, ◌-◌}
use mathlib.Core.Path.{◌≡◌}
use lib.ListN.{length}
use Rattle.signals.specs.Words.{most_words}
use Rattle.sources.specs.Lending.{list_in}
use Rattle.sources.specs.Sources.{next_word, slot_in}
use Rattle.lent_slots.proofs.LentRuns.{Placed, Running}
use Rattle.delaying.specs.Turns.{state_of, past_word}
use Rattle.delay_parts.proofs.pass_words.Given as goal

abbrev pub invariant-loop-word : goal.invariant-loop-word
invariant-loop-word l =
    (l.end ≡ l.at + most_words) × Placed l.lent.sheet.now l.lent.left.now l.lent.right.now l.initial.work l.f l.at most_words
    × Running (past_word l.level l.d.0) (list_in l.lent l.initial.work l.f) l.initial.work l.at most_words
    (state_of l.initial.timer l.initial.made (slot_in l.initial.work l.at most_words)) l.work l.passed (state_of l.timer l.made)
    × (l.word ≡ next_word (list_in l.lent l.initial.work l.f) l.passed)

abbrev pub decreases-loop-word : goal.decreases-loop-word
decreases-loop-word l =
    length (list_in l.lent l.initial.work l.f) - l.passed
