-- `tokens::ticks` meets its contract.
use Prim.Native.Nat.{◌-◌, ◌≤◌, max}
use mathlib.Core.Path.{◌≡◌}
use Rattle.texts.specs.Lengths.{capped}
use Rattle.tokens.specs.Tokens.{number_at}
use Rattle.tokens.proofs.ticks.Given as goal

abbrev pub invariant-loop-i : goal.invariant-loop-i
invariant-loop-i l = (l.i ≤ max l.from l.i-end) × (l.n ≡ capped (number_at l.text l.from (l.i - l.from)))
