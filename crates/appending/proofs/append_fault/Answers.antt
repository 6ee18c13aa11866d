-- `appending::append_fault` meets its contract: the tests that led to each return say which case of the definition holds.
use native.Mathlib.Omega.{arith}
use Prim.Native.Nat.{◌+◌, ◌*◌}
use mathlib.Core.Path.{◌≡◌, refl, sym, ◌∙◌}
use mathlib.Core.Bool.{cond}
use lib.Dec.{ltb}
use lib.ListN.{length}
use borrow.Author.Tests.{lt-ltb, le-ltb}
use Rattle.signals.specs.Words.{list_fault}
use Rattle.format.specs.Reading.{count_on}
use Rattle.format.specs.Calls.{append_fault}
use Rattle.format.proofs.Accepting.{listed_some}
use Rattle.format.proofs.Locating.{count_is}
use Rattle.format.proofs.Appending.{Fresh, append_list, append_full, append_sized}
use Rattle.format.proofs.Looked.{looked_there, looked_refused, looked_new}
use Rattle.appending.proofs.append_fault.Goals as goal
use Rattle.appending.proofs.append_fault.Goals.{After-read16, Else-bad-ne0, After-list_fault-bad, Else-read16-ge-MOST_SIGNALS}

pub returns-in-0 : goal.returns-in-0
returns-in-0 c =
    sym (looked_there c.args.sheet.now c.args.name.now c.args.list.now c.args.room (sym c.lookup_fault.ensures ∙ c.in-0.is))

pub returns-in_default : goal.returns-in_default
returns-in_default c =
    c.lookup_fault.ensures
    ∙ looked_refused c.args.sheet.now c.args.name.now c.args.list.now c.args.room (λ z. omega arith) (λ z. omega arith)

-- what is known at a place
fresh : (c : After-list_fault-bad) → Fresh c.args.sheet.now c.args.name.now
fresh c = looked_new c.args.sheet.now c.args.name.now (omega arith)

listed : (c : Else-bad-ne0) → list_fault c.args.list.now ≡ 0
listed c = sym c.list_fault-bad.ensures ∙ c.if-bad-ne0.false

counted : (c : After-read16) → c.read16.result ≡ count_on c.args.sheet.now
counted c = count_is c.args.sheet.now c.read16.result c.read16.ensures.0

pub returns-then-bad-ne0 : goal.returns-then-bad-ne0
returns-then-bad-ne0 c =
    let list-fault = c.list_fault-bad in
    append_list c.args.sheet.now c.args.name.now c.args.list.now c.args.room (fresh (goal.at.returns-then-bad-ne0 c).After-list_fault-bad)
    list-fault.result list-fault.ensures c.if-bad-ne0.true

pub returns-then-read16-ge-MOST_SIGNALS : goal.returns-then-read16-ge-MOST_SIGNALS
returns-then-read16-ge-MOST_SIGNALS c =
    let new = fresh (goal.at.returns-then-read16-ge-MOST_SIGNALS c).After-list_fault-bad in
    sym (append_full c.args.sheet.now c.args.name.now c.args.list.now c.args.room new
    (listed (goal.at.returns-then-read16-ge-MOST_SIGNALS c).Else-bad-ne0) _
    (counted (goal.at.returns-then-read16-ge-MOST_SIGNALS c).After-read16) c.if-read16-ge-MOST_SIGNALS.true)

pub overflow_add-sheet : goal.overflow_add-sheet
overflow_add-sheet c = omega (arith, (listed_some c.args.list.now (listed (goal.at.overflow_add-sheet c).Else-bad-ne0)).1)

-- a list without a fault, and fewer than 32 signals: the room alone decides
sized : (c : Else-read16-ge-MOST_SIGNALS) → append_fault c.args.sheet.now c.args.name.now c.args.list.now c.args.room
    ≡ cond (ltb c.args.room (length c.args.sheet.now + (10 + 4 * length c.args.list.now))) 7 0
sized c =
    append_sized c.args.sheet.now c.args.name.now c.args.list.now c.args.room
    (looked_new c.args.sheet.now c.args.name.now (omega arith))
    (sym c.list_fault-bad.ensures ∙ c.if-bad-ne0.false) _ (count_is c.args.sheet.now c.read16.result c.read16.ensures.0)
    c.if-read16-ge-MOST_SIGNALS.false
    (λ i. omega (arith, c.type_inv.sheet i))

pub returns-then-room-sheet : goal.returns-then-room-sheet
returns-then-room-sheet c = sym (sized (goal.at.returns-then-room-sheet c).Else-read16-ge-MOST_SIGNALS ∙ rw
    (lt-ltb _ _ c.if-room-sheet.true) refl)

pub returns-else-room-sheet : goal.returns-else-room-sheet
returns-else-room-sheet c = sym (sized (goal.at.returns-else-room-sheet c).Else-read16-ge-MOST_SIGNALS ∙ rw
    (le-ltb _ _ c.if-room-sheet.false) refl)
