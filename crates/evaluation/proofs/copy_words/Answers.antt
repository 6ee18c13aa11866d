-- `evaluation::copy_words` meets its contract: after i turns the first i words are there and the rest is as it was.
use Prim.Native.Nat.{◌<◌}
use native.Mathlib.Omega.{arith}
use mathlib.Core.Path.{◌≡◌, ◌∙◌, ap}
use mathlib.Core.List.{◌++◌}
use lib.ListN.{length, drop}
use lib.Seq.{take-length}
use Rattle.sources.specs.Lending.{list_in}
use Rattle.sources.proofs.Lending.{words_lent}
use Rattle.evaluation.proofs.Copying.{copied}
use Rattle.evaluation.proofs.copy_words.Goals as goal

pub loop-i-preserved : goal.loop-i-preserved
loop-i-preserved c =
    let a = c.args in
    let left : c.loop-i.i < length (list_in a.lent a.work.now a.list) = omega arith in
    let room : c.loop-i.i < length a.out.now = omega arith in
    copied _ _ _ _ _ (words_lent a.lent a.work.now (λ i. (c.type_inv.work i).fits) a.list) left room c.loop-i.invariant c.next_word.ensures

pub returns : goal.returns
returns c =
    let l = list_in c.args.lent c.args.work.now c.args.list in
    let e : c.loop-i.i ≡ length l = omega arith in
    let q = rw e at c.loop-i.invariant in
    q ∙ rw c.requires.0 (ap (λ x. x ++ drop (length l) c.args.out.now) (take-length l))
