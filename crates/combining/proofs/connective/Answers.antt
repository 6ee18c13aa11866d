-- `combining::connective` is the merge of its operation.
use Rattle.combining.proofs.connective.Goals as goal

pub returns : goal.returns
returns c = c.operate.ensures
