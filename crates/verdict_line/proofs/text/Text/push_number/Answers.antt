-- `verdict_line::text::Text::push_number` meets its contract.
use mathlib.Core.Path.{sym, ap, ◌∙◌}
use lib.Seq.{length-take-le}
use Rattle.verdict_line.specs.Written.{pushed}
use Rattle.verdict_line.proofs.Filling.{digits_alone}
use Rattle.verdict_line.proofs.text.Text.push_number.Goals as goal

pub slice_bounds-digits-end : goal.slice_bounds-digits-end
slice_bounds-digits-end g c = (digits_alone _ _ _ c.put_number-count.ensures).0

pub slice_bounds-push-end : goal.slice_bounds-push-end
slice_bounds-push-end g c = sym (length-take-le _ _ (digits_alone _ _ _ c.put_number-count.ensures).0)

pub returns : goal.returns
returns g c = c.push.ensures ∙ ap (pushed g.row.N _) (digits_alone c.args.n _ _ c.put_number-count.ensures).1
