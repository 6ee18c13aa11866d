-- `asking::search` meets its contract: the words dated before the date are passed, and the step passes the date itself.
use native.Mathlib.Omega.{arith}
use Rattle.reading.proofs.AlongWords.{first_dated, sought_from}
use Rattle.asking.proofs.search.Goals as goal

pub returns : goal.returns
returns c =
    let accepted = c.requires in
    (sought_from _ accepted 0 _ 1 _ _ (omega arith) (first_dated _ accepted) c.along-passed.ensures c.past.ensures).1
