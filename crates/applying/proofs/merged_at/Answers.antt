-- `applying::merged_at` numbers the answer of a merge.
use Rattle.applying.proofs.PartsMade.{merge_part}
use Rattle.applying.proofs.merged_at.Goals as goal

pub returns : goal.returns
returns c =
    merge_part _ _ _ _ _ _ c.part_answer.ensures _ _ _ _ _ c.operation_of.ensures
    c.table_of.ensures c.requires
    c.merge_at.ensures
