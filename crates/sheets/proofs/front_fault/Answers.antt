-- `sheets::front_fault` meets its contract: the tests that led to each return say which case of the definition holds.
use Rattle.std.proofs.Common.{◌≡◌, ◌<◌, Bool, true, false, not, cond, List, ℕ, length, take, ltb, refl, sym, ◌∙◌, arith}
use borrow.Author.Tests.{lt-ltb}
use Rattle.format.specs.Names.{same}
use Rattle.format.specs.Reading.{front_fault, mark}
use Rattle.format.proofs.Judging.{front_version, front_no_count, front_many, front_fine}
use Rattle.sheets.proofs.front_fault.Goals as goal
use Rattle.sheets.proofs.front_fault.Goals.{then-sheet-lt-COUNT_AT-via-then-sheet-lt-COUNT_AT}
use Rattle.sheets.proofs.front_fault.Goals.{then-sheet-lt-COUNT_AT-via-else-sheet-lt-COUNT_AT+then-not-alike}
use Rattle.sheets.proofs.front_fault.Goals.{then-sheet-lt-COUNT_AT-via-else-sheet-lt-COUNT_AT+else-not-alike+then-read16-ne-VERSION}
use Rattle.sheets.proofs.front_fault.Goals.{then-sheet-lt-FIRST_AT-via-then-sheet-lt-FIRST_AT}
use Rattle.sheets.proofs.front_fault.Goals.{then-sheet-lt-FIRST_AT-via-else-sheet-lt-FIRST_AT+then-read16-gt-MOST_SIGNALS}

-- one number, whichever way a test goes
either : (t : Bool) (n : ℕ) → cond t n n ≡ n
either true n = refl
either false n = refl

-- bytes too few for a mark and a version
cut : (s : List ℕ) → length s < 5 → front_fault s ≡ 14
unfolding front_fault
cut s h = rw (lt-ltb (length s) 5 h, either (not (same (take 3 s) mark)) 14) (either (ltb (length s) 3) 14)

-- no mark
unmarked : (s : List ℕ) → same (take 3 s) mark ≡ false → front_fault s ≡ 14
unfolding front_fault
unmarked s e = rw e (either (ltb (length s) 3) 14)

pub returns-then-sheet-lt-COUNT_AT : goal.returns-then-sheet-lt-COUNT_AT
returns-then-sheet-lt-COUNT_AT c =
    let s = c.args.sheet.now in
    elim c.then-sheet-lt-COUNT_AT.branch [
      | then-sheet-lt-COUNT_AT-via-then-sheet-lt-COUNT_AT w ↦ sym (cut s w.if-sheet-lt-COUNT_AT.true)
      | then-sheet-lt-COUNT_AT-via-else-sheet-lt-COUNT_AT+then-not-alike w ↦
          sym (unmarked s (sym w.alike.ensures ∙ w.if-not-alike.true))
      | then-sheet-lt-COUNT_AT-via-else-sheet-lt-COUNT_AT+else-not-alike+then-read16-ne-VERSION w ↦
          sym (front_version s (omega (arith, w.if-sheet-lt-COUNT_AT.false)) _ w.alike.ensures w.if-not-alike.false
          w.if-sheet-lt-COUNT_AT.false _ w.read16.ensures.0 w.if-read16-ne-VERSION.true)
    ]

pub returns-then-sheet-lt-FIRST_AT : goal.returns-then-sheet-lt-FIRST_AT
returns-then-sheet-lt-FIRST_AT c =
    let s = c.args.sheet.now in
    elim c.then-sheet-lt-FIRST_AT.branch [
      | then-sheet-lt-FIRST_AT-via-then-sheet-lt-FIRST_AT w ↦
          sym (front_no_count s (omega arith) _ c.alike.ensures c.if-not-alike.false c.if-sheet-lt-COUNT_AT.false _ c.read16.ensures.0
          c.if-read16-ne-VERSION.false w.if-sheet-lt-FIRST_AT.true)
      | then-sheet-lt-FIRST_AT-via-else-sheet-lt-FIRST_AT+then-read16-gt-MOST_SIGNALS w ↦
          sym (front_many s (omega arith) _ c.alike.ensures c.if-not-alike.false c.if-sheet-lt-COUNT_AT.false _ c.read16.ensures.0
          c.if-read16-ne-VERSION.false w.if-sheet-lt-FIRST_AT.false _ w.read16-else-sheet-lt-FIRST_AT.ensures.0
          w.if-read16-gt-MOST_SIGNALS.true)
    ]

pub returns : goal.returns
returns c =
    sym (front_fine c.args.sheet.now (omega arith) _ c.alike.ensures c.if-not-alike.false
    c.if-sheet-lt-COUNT_AT.false _ c.read16.ensures.0 c.if-read16-ne-VERSION.false c.if-sheet-lt-FIRST_AT.false _
    c.read16-else-sheet-lt-FIRST_AT.ensures.0 c.if-read16-gt-MOST_SIGNALS.false)
