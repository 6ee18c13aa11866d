-- `comparing::seek` meets its contract: what is met from where the loop stands is met from where it began, and each turn passes a word.
use native.Mathlib.Omega.{arith}
use Rattle.sources.proofs.Sourcing.{list_short}
use Rattle.sources.proofs.Lending.{words_lent}
use Rattle.signals.specs.Words.{value_after}
use Rattle.comparing.proofs.Scanning.{scan_start, gap_met, none_met, instant_met, scan_on, falls}
use Rattle.comparing.proofs.seek.Goals as goal

pub loop-f-init : goal.loop-f-init
loop-f-init c =
    let x = c.args in
    let words = words_lent x.lent x.work.now (λ i. (c.type_inv.work i).fits) in
    let short = list_short x.lent.sheet.now x.lent.left.now x.lent.right.now x.work.now in
    scan_start x.both x.failing _ _ _ (omega (arith, short x.f)) (omega (arith, short x.g)) (words x.f) (words x.g) c.requires

pub returns-then-sought : goal.returns-then-sought
unfolding value_after
returns-then-sought c = gap_met c.loop-f.invariant c.sought.ensures c.if-sought.true

pub returns-then-date-ge-NEVER : goal.returns-then-date-ge-NEVER
unfolding value_after
returns-then-date-ge-NEVER c =
    none_met c.loop-f.invariant c.sought.ensures
    c.if-sought.false _ c.earlier-date.ensures c.if-date-ge-NEVER.true

pub returns-then-sought-2 : goal.returns-then-sought-2
unfolding value_after
returns-then-sought-2 c =
    instant_met c.loop-f.invariant c.sought.ensures
    c.if-sought.false _ c.earlier-date.ensures
    _ _ c.if-date-ge-NEVER.false c.past-p.ensures c.past-q.ensures
    _ c.sought-in-loop-f.ensures c.if-sought-2.true

pub loop-f-smaller : goal.loop-f-smaller
unfolding value_after
loop-f-smaller c =
    falls c.loop-f.invariant c.sought.ensures
    c.if-sought.false _ c.earlier-date.ensures
    _ _ c.if-date-ge-NEVER.false c.past-p.ensures c.past-q.ensures

pub loop-f-preserved : goal.loop-f-preserved
unfolding value_after
loop-f-preserved c =
    scan_on c.loop-f.invariant c.sought.ensures
    c.if-sought.false _ c.earlier-date.ensures
    _ _ c.if-date-ge-NEVER.false c.past-p.ensures c.past-q.ensures
    _ c.sought-in-loop-f.ensures c.if-sought-2.false
