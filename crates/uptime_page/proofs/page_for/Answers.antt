-- `uptime_page::page_for` meets its contract.
use Prim.Native.Nat.{ℕ}
use mathlib.Core.Path.{ap, ◌∙◌}
use mathlib.Core.List.{List, [], ◌∷◌}
use Rattle.texts.specs.Decimal.{decimal}
use Rattle.verdict_line.specs.Putting.{pushed_all}
use Rattle.verdict_line.proofs.Filling.{filled_as}
use Rattle.uptime_page.specs.Page.{total_text}
use Rattle.uptime_page.specs.Printing.{most_bytes}
use Rattle.uptime_page.specs.Words.{word_parts, words_page}
use Rattle.uptime_page.proofs.Filling.{total_parts, page_pushed}
use Rattle.uptime_page.proofs.page_for.Goals as goal

pub returns : goal.returns
unfolding total_text
returns c =
    let words = c.args.words.now in
    let total = c.args.total in
    let page = c.push-2.new.self in
    let lines = c.push_lines.ensures ∙ ap (λ (l : List ℕ). pushed_all most_bytes l (word_parts words)) c.new-page.ensures in
    let line =
    c.push-2.ensures
    ∙ ap (λ (l : List ℕ). pushed_all most_bytes l ((10 ∷ []) ∷ [])) c.push_number.ensures
    ∙ ap (λ (l : List ℕ). pushed_all most_bytes l (decimal total ∷ (10 ∷ []) ∷ [])) c.push.ensures in
    filled_as most_bytes (words_page words total) page.bytes page.count page.filled
    (line ∙ ap (λ (l : List ℕ). pushed_all most_bytes l (total_parts total)) lines ∙ page_pushed words total c.requires)
