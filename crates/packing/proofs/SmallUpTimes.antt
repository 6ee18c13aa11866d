-- The answers of the up-time call are small: at most 256 words.
use Prim.Native.Nat.{ℕ, ◌<◌}
use native.Mathlib.Omega.{arith}
use mathlib.Core.Path.{◌≡◌, refl}
use mathlib.Core.Bool.{Bool, true, false, cond}
use mathlib.Core.List.{List}
use lib.Dec.{ltb, eqb}
use lib.ListN.{length}
use borrow.Author.Tests.{eqb-true}
use Rattle.slices.specs.Bytes.{Bytes}
use Rattle.signals.specs.Moment.{M}
use Rattle.signals.proofs.FirstFault.{both_none}
use Rattle.format.specs.Calls.{lookup_fault}
use Rattle.stretches.specs.Stretches.{sum_of_ticks}
use Rattle.stretches.specs.Calls.{up_time_for, stretches_on, horizon_fault, up_time_words, up_time_fault}
use Rattle.stretches.specs.declared.UpTime.TheVariants.{Told, Refused}
use Rattle.stretches.proofs.CallGives.{suffices}
use Rattle.packing.proofs.SmallAnswers.{SmallUpTime, choice, first_small}
use Rattle.packing.proofs.SmallSheets.{lookup_small}

fault_small : (sheet name : List ℕ) (H room : ℕ) → up_time_fault sheet name H room < 65536
unfolding up_time_fault horizon_fault
fault_small sheet name H room =
    first_small _ _ (lookup_small sheet name)
    (first_small _ _ (choice (ltb M H) 19 0 (omega arith) (omega arith))
    (choice (ltb room (length (up_time_words sheet name H))) 7 0 (omega arith) (omega arith)))

pub up_time_small : (sheet name : List ℕ) (H room : ℕ) → Bytes sheet
    → SmallUpTime (up_time_for (up_time_fault sheet name H room) (length (up_time_words sheet name H))
    (sum_of_ticks (stretches_on sheet name H)))
unfolding up_time_for up_time_fault
up_time_small sheet name H room b = go (eqb (up_time_fault sheet name H room) 0) refl
  where
    go : (t : Bool) → eqb (up_time_fault sheet name H room) 0 ≡ t
        → SmallUpTime
        (cond t
        (Told (length (up_time_words sheet name H)) (sum_of_ticks (stretches_on sheet name H)))
        (Refused (up_time_fault sheet name H room)))
    go true e =
        let first = both_none (lookup_fault sheet name) _ (eqb-true (up_time_fault sheet name H room) 0 e) in
        (omega arith, omega (arith, suffices sheet name H b first.0))
    go false e = (fault_small sheet name H room, omega arith)
