-- `comparing::end_met` meets its contract: an instant before a gap, the gap before an instant, or no end.
use mathlib.Core.Path.{sym, ap}
use Rattle.comparing.specs.Finding.{end_met}
use Rattle.comparing.proofs.end_met.Goals as goal

pub returns-in-Gap : goal.returns-in-Gap
returns-in-Gap c = sym (ap end_met c.in-Gap.is)

pub returns-in-Instant : goal.returns-in-Instant
returns-in-Instant c = sym (ap end_met c.in-Instant.is)
