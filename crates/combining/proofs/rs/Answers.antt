-- `combining::rs` is the merge of its operation.
use Rattle.combining.proofs.rs.Goals as goal

pub returns : goal.returns
returns c = c.operate.ensures
