-- `tidying::tidy` meets its contract: judged and counted first, then written where it fits.
use native.Mathlib.Omega.{arith}
use mathlib.Core.Path.{sym, ◌∙◌}
use Rattle.tidying.proofs.Answered.{tidy_head, tidy_refused, wrong_3, wrong_0, tidy_whole, tidy_short, tidy_done}
use Rattle.tidying.proofs.tidy.Goals as goal

pub returns-then-fault-ne0 : goal.returns-then-fault-ne0
returns-then-fault-ne0 c = tidy_refused _ _ _ (tidy_head _ _ c.head_fault-fault.ensures c.if-fault-ne0.true) c.if-fault-ne0.true

pub count_words-counts-requires : goal.count_words-counts-requires
count_words-counts-requires c = sym c.head_fault-fault.ensures ∙ c.if-fault-ne0.false

pub returns-then-counts-ne0 : goal.returns-then-counts-ne0
returns-then-counts-ne0 c =
    let head = sym c.head_fault-fault.ensures ∙ c.if-fault-ne0.false in
    tidy_refused _ _ 3 (wrong_3 _ head _ _ c.count_words-counts.ensures c.if-counts-ne0.true) (λ z. omega arith)

pub returns-then-count-list : goal.returns-then-count-list
returns-then-count-list c =
    let head = sym c.head_fault-fault.ensures ∙ c.if-fault-ne0.false in
    let x = c.args in
    tidy_whole x.list.now x.out.now (wrong_0 _ head _ _ c.count_words-counts.ensures c.if-counts-ne0.false)
    (sym c.count_words-counts.ensures.0 ∙ c.if-count-list.true) _ _ c.hand_over.ensures

pub returns-then-out-count : goal.returns-then-out-count
returns-then-out-count c =
    let head = sym c.head_fault-fault.ensures ∙ c.if-fault-ne0.false in
    tidy_short _ _ (wrong_0 _ head _ _ c.count_words-counts.ensures c.if-counts-ne0.false)
    (omega (arith, c.count_words-counts.ensures.0, c.if-out-count.true))

pub returns : goal.returns
returns c =
    let head = sym c.head_fault-fault.ensures ∙ c.if-fault-ne0.false in
    tidy_done _ _ (wrong_0 _ head _ _ c.count_words-counts.ensures c.if-counts-ne0.false) _
    c.count_words-counts.ensures.0 c.if-out-count.false _ c.keep_words.ensures
