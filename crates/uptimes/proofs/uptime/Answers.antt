-- `uptimes::uptime` meets its contract.
use native.Mathlib.Omega.{arith}
use mathlib.Core.Path.{sym, ◌∙◌}
use Rattle.format.proofs.Locating.{place_within}
use Rattle.uptimes.proofs.Answering.{not_found, too_late, part_accepted, told_of_lem}
use Rattle.uptimes.proofs.uptime.Goals as goal

pub returns-then-h-gt-M : goal.returns-then-h-gt-M
returns-then-h-gt-M c =
    too_late _ _ _ _ _ _ (sym c.locate.ensures ∙ c.in-At.is) c.if-h-gt-M.true

pub overflow_add-end : goal.overflow_add-end
overflow_add-end c =
    omega (arith, (place_within _ _ _ _ (sym c.locate.ensures ∙ c.in-At.is)).1)

pub slice_bounds-up_time_of-end : goal.slice_bounds-up_time_of-end
slice_bounds-up_time_of-end c =
    (place_within _ _ _ _ (sym c.locate.ensures ∙ c.in-At.is)).1

pub up_time_of-requires : goal.up_time_of-requires
up_time_of-requires c = record {
  part_value =
      part_accepted _ _ c.args.h c.args.out.now _ _ (sym c.locate.ensures ∙ c.in-At.is) (λ i. (c.type_inv.sheet i).fits);
  h_bound = c.if-h-gt-M.false;
}

pub returns-else-h-gt-M : goal.returns-else-h-gt-M
returns-else-h-gt-M c =
    let args = c.args in
    told_of_lem _ _ args.h args.out.now _ _ (sym c.locate.ensures ∙ c.in-At.is)
    (λ i. (c.type_inv.sheet i).fits) c.if-h-gt-M.false _ _ c.up_time_of.ensures

pub returns-in-Refused : goal.returns-in-Refused
returns-in-Refused c =
    not_found _ _ _ _ _ (sym c.locate.ensures ∙ c.in-Refused.is)
