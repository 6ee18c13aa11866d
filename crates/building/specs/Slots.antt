-- Mirrored: The calls that the evaluator makes work in a slot that it lends, of 256 words or more: scratch, not an output. They are no
-- entry points, and answer by cases of their own, without document 01's numbers.
use Rattle.std.specs.Prelude.{ℕ, cond, List, ltb, length}
use Rattle.operations.specs.Calls.{changes_after_m}
use Rattle.signals.specs.Words.{most_words}
use Rattle.building.specs.declared.Made.{Made}
use Rattle.building.specs.declared.SlotAnswer.{SlotAnswer}
use Rattle.building.specs.declared.SlotAnswer.TheVariants.{Stands, TooLong, TooLate}

-- what a call that begins answers: the exact answer is over 256 words, or changes after M, or stands in the slot, so many words
unfoldable pub built_answer : List ℕ → SlotAnswer
built_answer exact = cond (ltb most_words (length exact)) TooLong (cond (changes_after_m exact) TooLate (Stands (length exact)))

-- the same of the answer as it was built
unfoldable pub made_answer : Made → SlotAnswer
made_answer made = cond (ltb most_words made.count) TooLong (cond made.late TooLate (Stands made.count))
