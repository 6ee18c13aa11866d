-- `verdict_line::line_for` meets its contract.
use Prim.Native.Nat.{ℕ}
use mathlib.Core.Path.{ap, ◌∙◌}
use mathlib.Core.List.{List, [], ◌∷◌}
use Rattle.verdict_line.specs.Line.{line_of}
use Rattle.verdict_line.specs.Written.{longest, pushed}
use Rattle.verdict_line.specs.Putting.{pushed_all, answer_parts}
use Rattle.verdict_line.proofs.Filling.{filled_as}
use Rattle.verdict_line.proofs.Pushing.{answer_pushed}
use Rattle.verdict_line.proofs.line_for.Goals as goal

pub returns : goal.returns
returns c =
    let v = c.args.verdict in
    let line = c.push.new.self in
    let parts =
    c.push_answer.ensures ∙ ap (λ (l : List ℕ). pushed_all longest l (answer_parts v)) c.new-line.ensures in
    filled_as longest (line_of v) line.bytes line.count line.filled
    (c.push.ensures ∙ ap (λ (l : List ℕ). pushed longest l (10 ∷ [])) parts ∙ answer_pushed v)
