-- The slots of the work area do not overlap, and fill it.
use native.Mathlib.Omega.{arith}
use mathlib.Core.Path.{refl}
use Rattle.working.specs.Layout.{LayoutFits}

pub layout_fits : LayoutFits
layout_fits = record { apart = λ j k h. omega arith; stack = refl; kept = refl; all = refl }
