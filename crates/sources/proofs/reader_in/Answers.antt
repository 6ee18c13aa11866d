-- `sources::reader_in` meets its contract.
use Rattle.sources.proofs.SliceReaders.{reader_left, reader_none}
use Rattle.sources.proofs.reader_in.Goals as goal

pub returns-then-passed-words : goal.returns-then-passed-words
returns-then-passed-words c = reader_left _ _ _ c.if-passed-words.true (c.type_inv.words _).fits

pub returns : goal.returns
returns c = reader_none _ _ _ c.if-passed-words.false
