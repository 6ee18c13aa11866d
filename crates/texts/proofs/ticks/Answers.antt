-- `texts::ticks` meets its contract.
use Rattle.std.proofs.Common.{◌≡◌, ◌+◌, ◌*◌, ◌-◌, ◌∙◌, rules}
use native.Mathlib.Omega.{arith}
use Rattle.std.proofs.iter.runs.Made.{chains}
use Rattle.std.specs.List.{fold}
use Rattle.texts.specs.Lengths.{value, capped}
use Rattle.texts.proofs.LengthReading.{ticks_are}
use Rattle.texts.proofs.ticks.Goals as goal

pub returns : goal.returns
unfolding value
returns c =
    let text = c.args.text.now in
    let folded : c.fold.result ≡ fold (λ n b. capped (n * 10 + (b - 48))) 0 text = search (rules, chains) in
    folded ∙ ticks_are text 0 (omega arith)
