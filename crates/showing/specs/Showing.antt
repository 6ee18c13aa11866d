-- Mirrored: which signal it builds, and what it shows at each date.
use Rattle.std.specs.Prelude.{ℕ, Bool, true, false, not, ◌&&◌}
use Rattle.signals.specs.Signal.{Signal, Table, cell, connective, rising, falling, SR, RS}
use Rattle.signals.specs.LatchSteps.{at_step, gap_step, shown, carried}
use Rattle.showing.specs.declared.Operation.{Operation}
use Rattle.showing.specs.declared.Operation.TheVariants.{Connective, Rising, Falling, SetWins, ResetWins}
use Rattle.showing.specs.declared.Shown.{Shown}

-- the signal that the merge builds from those of its two lists
abbrev pub merged : Operation → Table → Signal → Signal → Signal
merged Connective table f g = connective table f g
merged Rising table f g = rising f
merged Falling table f g = falling f
merged SetWins table f g = SR f g
merged ResetWins table f g = RS f g

-- the bit carried in gap k
abbrev pub bit_of : Operation → Signal → Signal → ℕ → Bool
bit_of Connective f g k = false
bit_of Rising f g k = false
bit_of Falling f g k = false
bit_of SetWins f g k = carried true f g k
bit_of ResetWins f g k = carried false f g k

abbrev pub latch_first : Bool → Bool → Bool → Shown
latch_first w p q = record { at = false; after = shown w p (gap_step p q false); carried = gap_step p q false }

-- what gap 0 shows, from the values there
abbrev pub first_shown : Operation → Table → Bool → Bool → Shown
first_shown Connective table p q = record { at = false; after = cell table p q; carried = false }
first_shown Rising table p q = record { at = false; after = false; carried = false }
first_shown Falling table p q = record { at = false; after = false; carried = false }
first_shown SetWins table p q = latch_first true p q
first_shown ResetWins table p q = latch_first false p q

-- what a latch shows at and after a date, from the bit carried before it and the values at and after it
abbrev pub latch_shown : Bool → Bool → Bool → Bool → Bool → Bool → Shown
latch_shown w q s1 s2 r1 r2 =
    record {
      at = at_step w s1 r1 q;
      after = shown w s2 (gap_step s2 r2 (at_step w s1 r1 q));
      carried = gap_step s2 r2 (at_step w s1 r1 q);
    }

-- what a date shows: the bit carried, the first operand's values before, at and after it, the second's at and after it
abbrev pub date_shown : Operation → Table → Bool → Bool → Bool → Bool → Bool → Bool → Shown
date_shown Connective table c p0 p1 p2 q1 q2 = record { at = cell table p1 q1; after = cell table p2 q2; carried = false }
date_shown Rising table c p0 p1 p2 q1 q2 = record { at = p1 && not p0; after = false; carried = false }
date_shown Falling table c p0 p1 p2 q1 q2 = record { at = not p1 && p0; after = false; carried = false }
date_shown SetWins table c p0 p1 p2 q1 q2 = latch_shown true c p1 p2 q1 q2
date_shown ResetWins table c p0 p1 p2 q1 q2 = latch_shown false c p1 p2 q1 q2
