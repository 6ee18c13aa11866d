-- `formulas::copy` meets its contract.
use Prim.Native.Nat.{ℕ}
use native.Mathlib.Omega.{arith}
use mathlib.Core.Path.{◌≡◌, sym, ◌∙◌}
use lib.ListN.{length, take}
use lib.Seq.{length-take-le}
use Rattle.copying.proofs.Copying.{copied_fits}
use Rattle.grammar.proofs.Storing.{sets_front}
use Rattle.formulas.proofs.copy.Goals as goal

pub returns : goal.returns
returns c =
    let a = c.args in
    let words = take a.count a.words.now in
    let n : length words ≡ a.count = length-take-le a.count a.words.now (omega arith) in
    c.copy.ensures ∙ copied_fits words a.code.now (omega arith) ∙ sym (sets_front words a.code.now (omega arith))
