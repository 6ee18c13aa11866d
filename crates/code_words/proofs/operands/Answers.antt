-- `code_words::operands` gives the number of a part's operands.
use borrow.Author.Tests.{lt-ltb, le-ltb}
use Rattle.code_words.specs.CodeWords.{arity}
use Rattle.code_words.proofs.operands.Goals as goal

pub returns-then-kind-lt-NOT : goal.returns-then-kind-lt-NOT
unfolding arity
returns-then-kind-lt-NOT c = rw (lt-ltb _ _ c.if-kind-lt-NOT.true)

pub returns-then-kind-lt-AND : goal.returns-then-kind-lt-AND
unfolding arity
returns-then-kind-lt-AND c = rw (le-ltb _ _ c.if-kind-lt-NOT.false, lt-ltb _ _ c.if-kind-lt-AND.true)

pub returns-then-kind-lt-KINDS : goal.returns-then-kind-lt-KINDS
unfolding arity
returns-then-kind-lt-KINDS c = rw (le-ltb _ _ c.if-kind-lt-NOT.false, le-ltb _ _ c.if-kind-lt-AND.false, lt-ltb _ _ c.if-kind-lt-KINDS.true)

pub returns : goal.returns
unfolding arity
returns c = rw (le-ltb _ _ c.if-kind-lt-NOT.false, le-ltb _ _ c.if-kind-lt-AND.false, le-ltb _ _ c.if-kind-lt-KINDS.false)
