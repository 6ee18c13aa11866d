-- `comparing::equal` meets its contract: yes where the scan both ways meets nothing.
use mathlib.Core.Path.{◌≡◌}
use Rattle.std.proofs.Common.{◌⊎◌, inl, inr}
use Rattle.comparing.specs.declared.Scan.{Scan}
use Rattle.signals.specs.declared.Told.TheVariants.{No}
use Rattle.comparing.specs.declared.Met.{Met}
use Rattle.comparing.specs.declared.Met.TheVariants.{Gap, Instant}
use Rattle.comparing.proofs.Standing.{at_start, from_start}
use Rattle.comparing.proofs.Verdicts.{equal_by, equal_refused, equal_told}
use Rattle.comparing.proofs.equal.Goals as goal

-- something met
other : (r : Met) → ((s : Scan) × r ≡ Gap s) ⊎ ((s : Scan) × r ≡ Instant s) → No ≡ equal_by r
other r (inl (s, e)) = rw e
other r (inr (s, e)) = rw e

pub returns-then-fault-ne0 : goal.returns-then-fault-ne0
returns-then-fault-ne0 c = equal_refused _ _ _ c.pair_fault-fault.ensures c.if-fault-ne0.true

pub seek_pair-requires : goal.seek_pair-requires
seek_pair-requires c =
    (rw (← c.pair_fault-fault.ensures) c.if-fault-ne0.false, at_start _ _ _ c.start_pair.ensures)

pub returns-in-Nothing : goal.returns-in-Nothing
returns-in-Nothing c =
    equal_told _ _ _ c.pair_fault-fault.ensures c.if-fault-ne0.false
    (λ i. (c.type_inv.a i).fits)
    (λ i. (c.type_inv.b i).fits)
    _ (from_start _ _ _ _ _ c.start_pair.ensures _ c.seek_pair.ensures) _ (rw c.in-Nothing.is)

pub returns-in-Gap : goal.returns-in-Gap
returns-in-Gap c =
    equal_told _ _ _ c.pair_fault-fault.ensures c.if-fault-ne0.false
    (λ i. (c.type_inv.a i).fits)
    (λ i. (c.type_inv.b i).fits)
    _ (from_start _ _ _ _ _ c.start_pair.ensures _ c.seek_pair.ensures) _
    (other c.seek_pair.result c.in-Gap.is)
