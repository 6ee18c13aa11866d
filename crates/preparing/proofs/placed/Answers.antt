-- `preparing::placed` finds a code word's name on the sheet.
use mathlib.Core.Path.{sym, ◌∙◌, ap}
use Rattle.format.specs.Calls.{place_judged}
use Rattle.machine.specs.Machine.{placed_name}
use Rattle.machine.proofs.Leaves.{placed_name_lem, same_word}
use Rattle.preparing.proofs.placed.Goals as goal

pub returns-then-code-eq-NAME : goal.returns-then-code-eq-NAME
returns-then-code-eq-NAME c =
    let sheet = c.args.sheet.now in
    c.name_at.ensures
    ∙ ap placed_name c.locate_judged.ensures
    ∙ ap (λ n. placed_name (place_judged sheet n)) c.name_in-name.ensures
    ∙ sym (placed_name_lem sheet _ _ c.if-code-eq-NAME.true)

pub returns : goal.returns
returns c = sym (same_word _ _ _ c.if-code-eq-NAME.false)
