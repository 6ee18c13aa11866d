-- `comparing::implies` meets its contract: of accepted lists the scans find the verdict.
use Rattle.comparing.proofs.Standing.{at_start, gap_stands, instant_stands, found_gap, found_instant, found_none}
use Rattle.comparing.proofs.Verdicts.{both_accepted, implies_refused}
use Rattle.comparing.proofs.ImpliesExact.{implies_exact}
use Rattle.comparing.proofs.implies.Goals as goal

pub returns-then-fault-ne0 : goal.returns-then-fault-ne0
returns-then-fault-ne0 c = implies_refused _ _ _ c.pair_fault-fault.ensures c.if-fault-ne0.true

pub seek_pair-requires : goal.seek_pair-requires
seek_pair-requires c =
    (rw (← c.pair_fault-fault.ensures) c.if-fault-ne0.false, at_start _ _ _ c.start_pair.ensures)

pub end_from_pair-requires : goal.end_from_pair-requires
end_from_pair-requires c = (
  rw (← c.pair_fault-fault.ensures) c.if-fault-ne0.false,
  gap_stands _ _ _ c.seek_pair.ensures _ c.in-Gap.is,
)

pub end_from_pair-requires-in-Instant : goal.end_from_pair-requires-in-Instant
end_from_pair-requires-in-Instant c = (
  rw (← c.pair_fault-fault.ensures) c.if-fault-ne0.false,
  instant_stands _ _ _ c.seek_pair.ensures _ c.in-Instant.is,
)

pub returns-in-Gap : goal.returns-in-Gap
returns-in-Gap c =
    let ok = both_accepted _ _ _ c.pair_fault-fault.ensures c.if-fault-ne0.false in
    implies_exact _ _ _ ok.0 ok.1 (λ i. (c.type_inv.f i).fits)
    (λ i. (c.type_inv.g i).fits)
    (found_gap _ _ _ c.start_pair.ensures _ c.seek_pair.ensures _ c.in-Gap.is _ c.end_from_pair.ensures)

pub returns-in-Instant : goal.returns-in-Instant
returns-in-Instant c =
    let ok = both_accepted _ _ _ c.pair_fault-fault.ensures c.if-fault-ne0.false in
    implies_exact _ _ _ ok.0 ok.1 (λ i. (c.type_inv.f i).fits)
    (λ i. (c.type_inv.g i).fits)
    (found_instant _ _ _ c.start_pair.ensures _ c.seek_pair.ensures _ c.in-Instant.is _
    c.end_from_pair-in-Instant.ensures)

pub returns-in-Nothing : goal.returns-in-Nothing
returns-in-Nothing c =
    let ok = both_accepted _ _ _ c.pair_fault-fault.ensures c.if-fault-ne0.false in
    implies_exact _ _ _ ok.0 ok.1 (λ i. (c.type_inv.f i).fits)
    (λ i. (c.type_inv.g i).fits)
    (found_none _ _ _ c.start_pair.ensures _ c.seek_pair.ensures c.in-Nothing.is)
