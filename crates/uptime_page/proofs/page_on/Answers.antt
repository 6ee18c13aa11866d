-- `uptime_page::page_on` meets its contract.
use Prim.Native.Nat.{ℕ, ◌≤◌}
use native.Mathlib.Omega.{arith}
use mathlib.Core.Path.{refl, sym, subst}
use mathlib.Core.List.{List}
use lib.ListN.{replicate, length-take}
use lib.Seq.{length-take-le}
use Rattle.signals.specs.Words.{most_words}
use Rattle.verdict_line.specs.Written.{Filled}
use Rattle.uptime_page.specs.Printing.{most_bytes}
use Rattle.uptime_page.proofs.Answering.{refusal_on, few_told, page_on_lem}
use Rattle.uptime_page.proofs.page_on.Goals as goal
use Rattle.uptime_page.proofs.page_on.Goals.{In-Told}

few : (c : In-Told) → c.in-Told.«count» ≤ most_words
few c =
    let a = c.args in
    few_told a.sheet.now a.name.now a.h (replicate most_words 0) _ _ (λ i. (c.type_inv.sheet i).fits) refl c.in-Told.ensures _ _ refl

pub slice_bounds-words-end : goal.slice_bounds-words-end
slice_bounds-words-end c = omega (arith, few (goal.at.slice_bounds-words-end c).In-Told)

pub slice_bounds-page_for-end : goal.slice_bounds-page_for-end
slice_bounds-page_for-end c =
    sym (length-take-le _ c.uptime.new.out (omega (arith, few (goal.at.slice_bounds-page_for-end c).In-Told)))

pub page_for-requires : goal.page_for-requires
page_for-requires c =
    omega (arith, length-take c.in-Told.«count» c.uptime.new.out, few (goal.at.page_for-requires c).In-Told)

pub returns-in-Told : goal.returns-in-Told
returns-in-Told c =
    let a = c.args in
    subst (λ (l : List ℕ). Filled most_bytes l c.page_for.result.«bytes» c.page_for.result.«count»)
    (page_on_lem a.sheet.now a.name.now a.h (replicate most_words 0) _ _ (λ i. (c.type_inv.sheet i).fits) refl c.in-Told.ensures _ _ refl)
    c.page_for.ensures

pub returns-in-Refused : goal.returns-in-Refused
returns-in-Refused c =
    let a = c.args in
    subst (λ (l : List ℕ). Filled most_bytes l c.refusal.result.«bytes» c.refusal.result.«count»)
    (refusal_on a.sheet.now a.name.now a.h (replicate most_words 0) _ _ (λ i. (c.type_inv.sheet i).fits) refl c.in-Refused.ensures _ refl)
    c.refusal.ensures
