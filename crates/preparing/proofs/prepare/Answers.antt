-- `preparing::prepare` meets its contract: the formula is read, then its names are placed.
use native.Mathlib.Omega.{arith}
use mathlib.Core.Path.{refl}
use Rattle.preparing.proofs.Reading.{refused, few, found, lacking}
use Rattle.preparing.proofs.prepare.Goals as goal

pub place_names-requires : goal.place_names-requires
place_names-requires c =
    let n = few c.args.sheet.now c.args.text.now _ c.args.codes.now _
    c.in-Count.ensures.0 c.in-Count.ensures.1 _ refl in
    omega arith

pub returns-then-place_names : goal.returns-then-place_names
returns-then-place_names c =
    found c.args.sheet.now c.args.text.now _ c.args.codes.now _
    c.in-Count.ensures.0 c.in-Count.ensures.1 _ refl
    (omega arith) _ _ c.place_names.ensures c.if-place_names.true

pub returns-else-place_names : goal.returns-else-place_names
returns-else-place_names c =
    lacking c.args.sheet.now c.args.text.now _ c.args.codes.now _
    c.in-Count.ensures.0 c.in-Count.ensures.1 _ refl
    (omega arith) _ _ c.place_names.ensures c.if-place_names.false

pub returns-in-Refused : goal.returns-in-Refused
returns-in-Refused c =
    refused c.args.sheet.now c.args.text.now _ c.args.codes.now _
    c.in-Refused.ensures.0 c.in-Refused.ensures.1 _ refl
