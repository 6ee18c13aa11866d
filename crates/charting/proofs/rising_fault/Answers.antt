-- `charting::rising_fault`: the moments are sorted by `<` where they rise.
use Rattle.std.proofs.Common.{rules, true, false}
use Rattle.std.proofs.lemmas.List.Sorted.{answers_always}
use lib.Dec.{ltb}
use Rattle.charting.proofs.Judging.{sorted_lem}
use Rattle.charting.proofs.rising_fault.Goals as goal

pub returns-then-is_sorted_by : goal.returns-then-is_sorted_by
returns-then-is_sorted_by c =
    sorted_lem _ true (c.if-is_sorted_by.ensures.cases ltb (answers_always _ _ _ (λ f a r g h. search rules)))

pub returns-else-is_sorted_by : goal.returns-else-is_sorted_by
returns-else-is_sorted_by c =
    sorted_lem _ false (c.if-is_sorted_by.ensures.cases ltb (answers_always _ _ _ (λ f a r g h. search rules)))
