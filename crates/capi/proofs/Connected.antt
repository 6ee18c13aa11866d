-- A connective by a table that is the one of a number.
use Prim.Native.Nat.{ℕ}
use mathlib.Core.Path.{◌≡◌, subst, ◌∙◌}
use mathlib.Core.List.{List}
use Rattle.signals.specs.Signal.{Table, connective}
use Rattle.signals.specs.declared.Written.{Written}
use Rattle.operations.specs.Calls.{CallOfTwo}
use Rattle.packing.specs.Packing.{written_bits}
use Rattle.packing.proofs.SmallAnswers.{packed_written}
use Rattle.packing.proofs.SmallOperations.{two_small}
use Rattle.capi.specs.Exports.{ExportedTwo}

pub connected : (t u : Table) (a b out after : List ℕ) (w : Written) (r : ℕ) → t ≡ u → r ≡ written_bits w
    → CallOfTwo (connective t) a b out w after → ExportedTwo (connective u) a b out r after
connected t u a b out after w r e p h =
    subst (λ (x : Table). ExportedTwo (connective x) a b out r after) e (p ∙ packed_written _ _ h.0 (two_small _ _ _ _), h.1)
