-- Tidying without a fault gives the one normal list of the list's signal.
use Prim.Native.Nat.{ℕ, ◌≤◌}
use native.Mathlib.Omega.{arith}
use mathlib.Core.Path.{◌≡◌, refl}
use mathlib.Core.Bool.{Bool, true, false, cond}
use mathlib.Core.List.{List}
use lib.Dec.{ltb}
use lib.ListN.{length}
use borrow.Author.Tests.{ltb-false}
use Rattle.signals.specs.Moment.{M}
use Rattle.signals.specs.Words.{tidy_fault, signal_of, last_date}
use Rattle.signals.specs.Words.{tidied}
use Rattle.signals.specs.Giving.{WithinM}
use Rattle.signals.proofs.Normal.{last_date_bound}
use Rattle.signals.proofs.FirstFault.{both_none}
use Rattle.signals.proofs.Tidying.{tidying}
use Rattle.signals.proofs.Giving.{within, no_fault, gives}
use Rattle.tidying.specs.Calls.{tidying_fault}
use Rattle.tidying.specs.TidyingGives.{TidyingGives}

-- what tidying without a fault passed
pub tidied_fits : (l : List ℕ) (n : ℕ) → tidying_fault l n ≡ 0 → (tidy_fault l ≡ 0) × (length (tidied l) ≤ n)
unfolding tidying_fault
tidied_fits l n z =
    let b = both_none (tidy_fault l) (cond (ltb n (length (tidied l))) 7 0) z in
    (b.0, go (ltb n (length (tidied l))) refl b.1)
  where
    go : (t : Bool) → ltb n (length (tidied l)) ≡ t → ◌≡◌ {A = ℕ} (cond t 7 0) 0 → length (tidied l) ≤ n
    go true e y = absurd (omega arith)
    go false e y = ltb-false n (length (tidied l)) e

pub tidied_within : (l : List ℕ) → WithinM l → WithinM (tidied l)
unfolding tidied
tidied_within l h = within (signal_of l) (last_date l) (last_date_bound M l h)

pub tidying_gives : TidyingGives
tidying_gives l out answer after h call z =
    let none : tidying_fault l (length out) ≡ 0 = no_fault (tidying_fault l (length out)) (tidied l) out answer after call z in
    let f = tidied_fits l (length out) none in
    gives
    (tidying_fault l (length out))
    (tidied l)
    out
    answer
    after
    call
    (signal_of l)
    none
    f.1
    (tidying.accepted l f.0)
    (tidied_within l h)
    (tidying.denotes l f.0)
