-- `building::emit`: the word of a date up to M fits in 32 bits.
use native.Mathlib.Omega.{arith}
use Rattle.signals.proofs.WordFacts.{word_lt}
use Rattle.building.proofs.emit.Goals as goal

pub overflow_cast-slot : goal.overflow_cast-slot
overflow_cast-slot c = let args = c.args in omega (arith, word_lt args.date.0 args.at args.after c.if-date-gt-M.false)
