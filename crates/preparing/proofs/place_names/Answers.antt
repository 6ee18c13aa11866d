-- `preparing::place_names` meets its contract: the code words passed have the places of their names.
use Prim.Native.Nat.{◌<◌}
use native.Mathlib.Omega.{arith}
use mathlib.Core.Path.{refl}
use lib.ListN.{length, take}
use Rattle.preparing.proofs.Placing.{none_before, turn_codes, turn_all}
use Rattle.preparing.proofs.place_names.Goals as goal

pub loop-code-init : goal.loop-code-init
loop-code-init c = (refl, none_before)

pub loop-code-preserved : goal.loop-code-preserved
loop-code-preserved c =
    let at = c.loop-code.invariant in
    let left : c.loop-code.code-index < length (take c.args.n c.args.codes.now) = omega arith in (
      turn_codes _ _ _ _ _ at.0 at.1 left _ c.placed.ensures,
      turn_all _ _ _ _ _ at.0 at.1 left _ c.placed.ensures _ c.found-all.ensures,
    )
