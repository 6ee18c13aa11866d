-- OR is down exactly where both operands are.
use Prim.Native.Nat.{ℕ}
use mathlib.Core.Path.{refl}
use mathlib.Core.Bool.{Bool, true, false, true≢false, ◌||◌}
use Rattle.signals.specs.Signal.{Signal, OR}
use Rattle.signals.specs.Quantified.{Down}

or_false_both : (a b : Bool) → Down (a || b) → Down a × Down b
or_false_both true b e = absurd (true≢false e)
or_false_both false b e = (refl, e)

both_or_false : (a b : Bool) → Down a → Down b → Down (a || b)
both_or_false true b d e = d
both_or_false false b d e = e

pub or_down : (f g : Signal) (t : ℕ) → Down (OR f g t) → Down (f t) × Down (g t)
unfolding OR
or_down f g t e = or_false_both (f t) (g t) e

pub or_down_of : (f g : Signal) (t : ℕ) → Down (f t) → Down (g t) → Down (OR f g t)
unfolding OR
or_down_of f g t d e = both_or_false (f t) (g t) d e
