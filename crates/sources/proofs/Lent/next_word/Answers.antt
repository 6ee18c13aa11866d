-- `sources::Lent::next_word` reads the word at its place of the memory that the list stands in.
use Rattle.sources.proofs.SourceWords.{all_passed, next_on_sheet, next_in_work, next_in_left, next_in_right}
use Rattle.sources.proofs.Lent.next_word.Goals as goal

pub returns-then-list-passed : goal.returns-then-list-passed
returns-then-list-passed c =
    let x = c.args in
    all_passed x.self x.work.now x.list x.passed c.if-list-passed.true

pub returns-in-Sheet : goal.returns-in-Sheet
returns-in-Sheet c =
    let x = c.args in
    next_on_sheet x.self x.work.now x.list x.passed c.if-list-passed.false _ c.in-Sheet.is c.word_on.ensures

pub returns-in-Work : goal.returns-in-Work
returns-in-Work c =
    let x = c.args in
    next_in_work x.self x.work.now x.list x.passed c.if-list-passed.false _ c.in-Work.is c.word_in.ensures

pub returns-in-Left : goal.returns-in-Left
returns-in-Left c =
    let x = c.args in
    next_in_left x.self x.work.now x.list x.passed c.if-list-passed.false _ c.in-Left.is c.word_in-in-Left.ensures

pub returns-in-Right : goal.returns-in-Right
returns-in-Right c =
    let x = c.args in
    next_in_right x.self x.work.now x.list x.passed c.if-list-passed.false _ c.in-Right.is c.word_in-in-Right.ensures
