-- `claim_line::line_of` meets its contract.
use lib.ListN.{take}
use Rattle.claim_line.proofs.Telling.{line_told, work_words_lem}
use borrow.Author.Rules.{rules}
use Rattle.claim_line.proofs.line_of.Goals as goal

pub returns : goal.returns
returns c =
    let sheet = c.sheet-sheet in
    let g = c.second_line-g in
    let f = c.first_line-f in
    let a = c.args in
    let said = c.claim-verdict in
    let says =
    line_told (take a.n a.input.now) sheet.result.now f.result.now g.result.now f.ensures.1 g.ensures.1
    sheet.ensures.1 in
    (f.ensures.0, says said.result _ _ _ (work_words_lem _ _ (search rules)) said.ensures.0 c.line_for.ensures)
