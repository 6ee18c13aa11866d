-- `uptime_page::page_of` meets its contract.
use Prim.Native.Nat.{ℕ}
use mathlib.Core.Path.{ap, ◌∙◌, subst}
use mathlib.Core.List.{List}
use lib.ListN.{take}
use Rattle.verdict_line.specs.Written.{Filled}
use Rattle.uptime_page.specs.Printing.{most_bytes}
use Rattle.uptime_page.specs.Words.{page_on}
use Rattle.uptime_page.proofs.Answering.{printed_on}
use Rattle.uptime_page.proofs.page_of.Goals as goal

pub returns : goal.returns
returns c =
    let a = c.args in
    let s = c.sheet-sheet.result.now in
    let m = c.first_line-name.result.now in
    let is =
    ap (page_on s m) c.horizon-h.ensures
    ∙ printed_on (take a.n a.input.now) s m c.second_line.result.now c.sheet-sheet.ensures.1
    c.first_line-name.ensures.1 c.second_line.ensures.1 in (
      c.first_line-name.ensures.0,
      subst (λ (l : List ℕ). Filled most_bytes l c.page_on.result.«bytes» c.page_on.result.«count») is c.page_on.ensures,
    )
