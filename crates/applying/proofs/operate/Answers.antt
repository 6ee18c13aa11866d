-- `applying::operate` makes the operation that the code word asks for.
use Rattle.applying.proofs.PartsMade.{may_one, may_alone, by_two, by_one, by_timer}
use Rattle.applying.proofs.operate.Goals as goal

pub returns-then-kind-ge-AND : goal.returns-then-kind-ge-AND
returns-then-kind-ge-AND c = by_two _ _ _ _ _ _ _ _ c.if-kind-ge-AND.true c.merged_at.ensures

pub merged_at-requires-then-kind : goal.merged_at-requires-then-kind
merged_at-requires-then-kind c = may_one _ _ _ _ c.requires

pub returns-then-kind : goal.returns-then-kind
returns-then-kind c = by_one _ _ _ _ _ _ _ _ c.if-kind-ge-AND.false
    c.if-kind.true c.merged_at-then-kind.ensures

pub timed_at-requires : goal.timed_at-requires
timed_at-requires c = may_alone _ _ _ _ c.requires

pub returns : goal.returns
returns c = by_timer _ _ _ _ _ _ _ _ c.if-kind-ge-AND.false
    c.if-kind.false c.timed_at.ensures
