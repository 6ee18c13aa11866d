-- `comparing::start_pair` meets its contract: both readers are past the first words.
use Rattle.comparing.proofs.start_pair.Goals as goal

pub returns : goal.returns
returns c = rw (c.start_in.ensures, c.start_in-2.ensures)
