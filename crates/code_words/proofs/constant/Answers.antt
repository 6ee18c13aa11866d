-- `code_words::constant` gives the word of a constant's list.
use Prim.Native.Nat.{◌%◌}
use borrow.Author.Tests.{eq-eqb, ne_eqb}
use Rattle.grammar.specs.Kinds as kinds
use Rattle.code_words.specs.CodeWords.{constant_of}
use Rattle.code_words.proofs.constant.Goals as goal

pub returns-then-code-eq-UP : goal.returns-then-code-eq-UP
unfolding constant_of
returns-then-code-eq-UP c = rw (eq-eqb _ _ c.if-code-eq-UP.true)

pub returns-else-code-eq-UP : goal.returns-else-code-eq-UP
unfolding constant_of
returns-else-code-eq-UP c = rw (ne_eqb (c.args.code % 16) kinds.UP c.if-code-eq-UP.false)
