-- `uptimes::fits` meets its contract.
use Rattle.uptimes.proofs.Answering.{always_fit, counted_fit}
use Rattle.uptimes.proofs.fits.Goals as goal

pub returns-then-room-ge-WORDS : goal.returns-then-room-ge-WORDS
returns-then-room-ge-WORDS c = always_fit _ _ c.requires.part_value _ c.if-room-ge-WORDS.true

pub returns : goal.returns
returns c = counted_fit _ _ _ _ _ _ _ c.stretches_in-found.ensures
