-- Reading stops after the longest beginning of a text that some formula begins with.
use Rattle.beginnings.specs.Beginnings.{StopsExact}
use Rattle.beginnings.proofs.Completing.{stop_begins}
use Rattle.beginnings.proofs.Reaching.{begins_reached}

pub stops_exact : StopsExact
stops_exact w =
    let b = stop_begins w in
    record { within = b.0; begins = b.1; longest = begins_reached w }
