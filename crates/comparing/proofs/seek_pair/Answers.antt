-- `comparing::seek_pair` meets its contract: what is met from where the loop stands is met from where it began; each turn passes a word.
use native.Mathlib.Omega.{arith}
use Rattle.signals.specs.Words.{value_after}
use Rattle.comparing.proofs.Scanning.{scan_start, gap_met, none_met, instant_met, scan_on, falls}
use Rattle.comparing.proofs.Verdicts.{short_a, short_b}
use Rattle.comparing.proofs.seek_pair.Goals as goal

pub loop-x-init : goal.loop-x-init
loop-x-init c =
    scan_start c.args.both c.args.failing _ _ _ (omega (arith, short_a _ _ c.requires.0))
    (omega (arith, short_b _ _ c.requires.0))
    (λ i. (c.type_inv.f i).fits) (λ i. (c.type_inv.g i).fits) c.requires.1

pub returns-then-sought : goal.returns-then-sought
unfolding value_after
returns-then-sought c = gap_met c.loop-x.invariant c.sought.ensures c.if-sought.true

pub returns-then-date-ge-NEVER : goal.returns-then-date-ge-NEVER
unfolding value_after
returns-then-date-ge-NEVER c =
    none_met c.loop-x.invariant c.sought.ensures
    c.if-sought.false _ c.earlier-date.ensures c.if-date-ge-NEVER.true

pub returns-then-sought-2 : goal.returns-then-sought-2
unfolding value_after
returns-then-sought-2 c =
    instant_met c.loop-x.invariant c.sought.ensures
    c.if-sought.false _ c.earlier-date.ensures
    _ _ c.if-date-ge-NEVER.false c.past_in-s.ensures c.past_in-t.ensures
    _ c.sought-in-loop-x.ensures c.if-sought-2.true

pub loop-x-smaller : goal.loop-x-smaller
unfolding value_after
loop-x-smaller c =
    falls c.loop-x.invariant c.sought.ensures
    c.if-sought.false _ c.earlier-date.ensures
    _ _ c.if-date-ge-NEVER.false c.past_in-s.ensures c.past_in-t.ensures

pub loop-x-preserved : goal.loop-x-preserved
unfolding value_after
loop-x-preserved c =
    scan_on c.loop-x.invariant c.sought.ensures
    c.if-sought.false _ c.earlier-date.ensures
    _ _ c.if-date-ge-NEVER.false c.past_in-s.ensures c.past_in-t.ensures
    _ c.sought-in-loop-x.ensures c.if-sought-2.false
