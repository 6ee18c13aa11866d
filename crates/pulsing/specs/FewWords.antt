-- Statement: How many words TP has: a list of n words gives at most 2n - 1.
use Rattle.std.specs.Prelude.{ℕ, ◌*◌, ◌-◌, ◌≤◌, List, length}
use Rattle.slices.specs.Bytes.{Words}
use Rattle.signals.specs.Moment.{M}
use Rattle.signals.specs.Signal.{TP}
use Rattle.signals.specs.Normal.{Accepted}
use Rattle.operations.specs.Calls.{exact_of_delay}

abbrev pub PulsesFew : Type 0
PulsesFew = (d : ℕ) (a : List ℕ) → Accepted a → d ≤ M → Words a → length (exact_of_delay (TP d) d a) ≤ 2 * length a - 1
