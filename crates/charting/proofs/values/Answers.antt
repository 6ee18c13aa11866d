-- `charting::values` meets its contract: at each `return` the tests that led there say which fault, if any, the call has.
use mathlib.Core.Path.{sym, ◌∙◌}
use Rattle.charting.proofs.Answering.{by_list, by_many, by_order, by_moments, by_room, filled}
use Rattle.charting.proofs.Judging.{none_falls}
use Rattle.charting.proofs.values.Goals as goal

pub returns-then-listed-ne0 : goal.returns-then-listed-ne0
returns-then-listed-ne0 c = by_list _ _ _ _ c.list_fault-listed.ensures c.if-listed-ne0.true

pub returns-then-moments-gt-MOMENTS : goal.returns-then-moments-gt-MOMENTS
returns-then-moments-gt-MOMENTS c = by_many _ _ _ _ c.list_fault-listed.ensures c.if-listed-ne0.false c.if-moments-gt-MOMENTS.true

pub returns-then-rising-ne0 : goal.returns-then-rising-ne0
returns-then-rising-ne0 c =
    by_order _ _ _ _ c.list_fault-listed.ensures c.if-listed-ne0.false c.if-moments-gt-MOMENTS.false _ c.rising_fault-rising.ensures
    c.if-rising-ne0.true

pub returns-then-dated-ne0 : goal.returns-then-dated-ne0
returns-then-dated-ne0 c =
    by_moments _ _ _ _ c.list_fault-listed.ensures c.if-listed-ne0.false c.if-moments-gt-MOMENTS.false _ c.rising_fault-rising.ensures
    c.if-rising-ne0.false _ c.moments_fault-dated.ensures c.if-dated-ne0.true

pub returns-then-out-moments : goal.returns-then-out-moments
returns-then-out-moments c =
    by_room _ _ _ _ c.list_fault-listed.ensures c.if-listed-ne0.false c.if-moments-gt-MOMENTS.false _ c.rising_fault-rising.ensures
    c.if-rising-ne0.false _ c.moments_fault-dated.ensures c.if-dated-ne0.false c.if-out-moments.true

pub fill-passed-requires : goal.fill-passed-requires
fill-passed-requires c = record {
  list_value = sym c.list_fault-listed.ensures ∙ c.if-listed-ne0.false;
  moments_value = none_falls _ _ c.rising_fault-rising.ensures c.if-rising-ne0.false;
  moments_in_bounds = c.if-out-moments.false;
}

pub returns : goal.returns
returns c =
    filled _ _ _ _ c.list_fault-listed.ensures c.if-listed-ne0.false c.if-moments-gt-MOMENTS.false _ c.rising_fault-rising.ensures
    c.if-rising-ne0.false _ c.moments_fault-dated.ensures c.if-dated-ne0.false c.if-out-moments.false _ _
    c.fill-passed.ensures.value c.fill-passed.ensures.out_after
