-- The request's lines, computed.
use mathlib.Core.Path.{refl}
use Rattle.texts.specs.Decimal.{leading, decimal}
use Rattle.verdict_line.specs.Line.{line, line_of, fails_at_text, end_text, until_text, until_before_text, for_good_text}
use Rattle.verdict_line.specs.LineCases.{LineCases}

pub line_cases : LineCases
unfolding line_of line fails_at_text end_text until_text until_before_text for_good_text decimal leading
line_cases = record { until_before = refl; until = refl; for_good = refl }
