-- `code_words::leaf` says where the list of a part without operands stands.
use Prim.Native.Nat.{◌%◌}
use borrow.Author.Tests.{eq-eqb, ne_eqb}
use Rattle.grammar.specs.Kinds as kinds
use Rattle.code_words.specs.CodeWords.{leaf_source}
use Rattle.code_words.proofs.leaf.Goals as goal

pub returns-then-code-eq-NAME : goal.returns-then-code-eq-NAME
unfolding leaf_source
returns-then-code-eq-NAME c = rw (eq-eqb _ _ c.if-code-eq-NAME.true)

pub returns : goal.returns
unfolding leaf_source
returns c = rw (ne_eqb (c.args.code % 16) kinds.NAME c.if-code-eq-NAME.false, c.constant.ensures)
