-- `uptime_page::refusal` meets its contract.
use Prim.Native.Nat.{ℕ}
use mathlib.Core.Path.{ap, ◌∙◌}
use mathlib.Core.List.{List, []}
use Rattle.signals.specs.declared.Verdict.TheVariants.{Refused}
use Rattle.verdict_line.specs.Line.{line_of}
use Rattle.verdict_line.specs.Written.{longest, pushed}
use Rattle.verdict_line.proofs.Lines.{line_fits}
use Rattle.verdict_line.proofs.Filling.{filled_as, text_held}
use Rattle.uptime_page.specs.Printing.{most_bytes}
use Rattle.uptime_page.proofs.Filling.{refusal_pushed}
use Rattle.uptime_page.proofs.refusal.Goals as goal

pub returns : goal.returns
returns c =
    let line = line_of (Refused c.args.fault) in
    let page = c.push.new.self in
    let told = c.as_slice.ensures ∙ text_held longest line _ _ c.line_for-line.ensures in
    filled_as most_bytes line page.bytes page.count page.filled
    (c.push.ensures
    ∙ ap (λ (l : List ℕ). pushed most_bytes l c.as_slice.result.now) c.new-page.ensures
    ∙ ap (pushed most_bytes []) told
    ∙ refusal_pushed line (line_fits (Refused c.args.fault)))
