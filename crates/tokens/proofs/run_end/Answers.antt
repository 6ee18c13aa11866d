-- `tokens::run_end` meets its contract: the bytes from `at` to the text's end that belong are counted.
use Prim.Native.Nat.{ℕ, ◌+◌}
use native.Mathlib.Omega.{arith}
use mathlib.Core.Path.{ap, ◌∙◌}
use lib.ListN.{drop, length-drop}
use Rattle.marks.specs.Marks.{lent}
use Rattle.tokens.specs.Tokens.{class_of}
use Rattle.marks.proofs.Marking.{lent_most}
use Rattle.tokens.proofs.Runs.{run_is, run_most}
use Rattle.tokens.proofs.run_end.Goals as goal

pub overflow_add-result : goal.overflow_add-result
overflow_add-result c =
    let a = c.args in
    let text = lent a.text.now a.bytes in
    let p = class_of a.letters in
    let k = (rw c.rest.ensures at c.run.ensures) ∙ run_is p (drop a.at text) in
    omega (arith, k, run_most p (drop a.at text), length-drop a.at text, lent_most a.text.now a.bytes)

pub returns : goal.returns
returns c =
    let a = c.args in
    ap (λ (n : ℕ). a.at + n) ((rw c.rest.ensures at c.run.ensures) ∙ run_is (class_of a.letters) (drop a.at (lent a.text.now a.bytes)))
