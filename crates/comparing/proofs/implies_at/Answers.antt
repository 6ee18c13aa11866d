-- `comparing::implies_at` meets its contract: what the first scan meets, and how the run ends that begins there.
use Rattle.comparing.specs.declared.Scan.{Scan}
use Rattle.comparing.proofs.Standing.{at_start, gap_stands, instant_stands, found_gap, found_instant, found_none}
use Rattle.comparing.proofs.implies_at.Goals as goal

pub seek-requires : goal.seek-requires
seek-requires c = at_start _ _ _ (rw (c.start.ensures, c.start-2.ensures))

pub end_from-requires : goal.end_from-requires
end_from-requires c = gap_stands _ _ _ c.seek.ensures _ c.in-Gap.is

pub end_from-requires-in-Instant : goal.end_from-requires-in-Instant
end_from-requires-in-Instant c = instant_stands _ _ _ c.seek.ensures _ c.in-Instant.is

pub returns-in-Gap : goal.returns-in-Gap
returns-in-Gap c =
    let from : Scan = record { after = 0; left = c.start.result; right = c.start-2.result } in
    found_gap _ _ from (rw (c.start.ensures, c.start-2.ensures)) _ c.seek.ensures _
    c.in-Gap.is _ c.end_from.ensures

pub returns-in-Instant : goal.returns-in-Instant
returns-in-Instant c =
    let from : Scan = record { after = 0; left = c.start.result; right = c.start-2.result } in
    found_instant _ _ from (rw (c.start.ensures, c.start-2.ensures)) _ c.seek.ensures _
    c.in-Instant.is _ c.end_from-in-Instant.ensures

pub returns-in-Nothing : goal.returns-in-Nothing
returns-in-Nothing c =
    let from : Scan = record { after = 0; left = c.start.result; right = c.start-2.result } in
    found_none _ _ from (rw (c.start.ensures, c.start-2.ensures)) _ c.seek.ensures
    c.in-Nothing.is
