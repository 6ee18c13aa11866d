-- `lookups::lookup` meets its contract.
use Rattle.std.proofs.Common.{sym, ◌∙◌, zero-add, arith}
use Rattle.format.proofs.Locating.{place_within, part_is, lies_at, part_none}
use Rattle.lookups.proofs.lookup.Goals as goal

pub overflow_add-result : goal.overflow_add-result
overflow_add-result c =
    omega (arith, (place_within c.args.sheet.now c.args.name.now _ _ (sym c.locate.ensures ∙ c.in-At.is)).1)

pub slice_bounds-result-end : goal.slice_bounds-result-end
slice_bounds-result-end c = (place_within c.args.sheet.now c.args.name.now _ _ (sym c.locate.ensures ∙ c.in-At.is)).1

pub returns-in-At : goal.returns-in-At
returns-in-At c =
    let s = c.args.sheet in
    let found = sym c.locate.ensures ∙ c.in-At.is in
    (part_is s.now c.args.name.now _ _ found, lies_at s.now c.args.name.now s.ref_ptr _ found)

pub returns-in-Refused : goal.returns-in-Refused
returns-in-Refused c =
    let s = c.args.sheet in
    let none = sym c.locate.ensures ∙ c.in-Refused.is in
    (part_none s.now c.args.name.now _ _ none (omega arith), rw zero-add at (lies_at s.now c.args.name.now s.ref_ptr _ none))
