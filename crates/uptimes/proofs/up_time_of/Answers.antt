-- `uptimes::up_time_of` meets its contract.
use mathlib.Core.Path.{sym, ◌∙◌}
use Rattle.uptimes.proofs.Answering.{too_short_lem, all_told}
use Rattle.uptimes.proofs.up_time_of.Goals as goal

pub returns-then-fits : goal.returns-then-fits
returns-then-fits c =
    all_told _ _ _ (sym c.fits.ensures ∙ c.if-fits.true) _ _ _ c.stretches_in-written.ensures

pub returns : goal.returns
returns c = too_short_lem _ _ _ (sym c.fits.ensures ∙ c.if-fits.false)
