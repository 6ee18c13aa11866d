-- `sources::start_in` meets its contract.
use native.Mathlib.Omega.{arith}
use Rattle.sources.proofs.SliceReaders.{first_left, first_none}
use Rattle.sources.proofs.start_in.Goals as goal

pub overflow_cast-words : goal.overflow_cast-words
overflow_cast-words c = omega (arith, (c.type_inv.words 0).fits)

pub returns-then-words-gt0 : goal.returns-then-words-gt0
returns-then-words-gt0 c = first_left _ _ c.if-words-gt0.true c.reader_in.ensures

pub returns : goal.returns
returns c = first_none _ _ c.if-words-gt0.false c.reader_in-2.ensures
