-- `appending::put_words` meets its contract: so far the first i words are written.
use Rattle.std.proofs.Common.{◌≡◌, take}
use Rattle.slices.specs.Bytes.{word_bytes}
use Rattle.slices.specs.Slices.{placed}
use Rattle.appending.proofs.put_words.Given as goal

abbrev pub invariant-loop-i : goal.invariant-loop-i
invariant-loop-i l = l.out ≡ placed l.initial.out l.at (word_bytes (take l.i l.list))
