-- `finding::find` meets its contract: the place among the signals left from here is the place among all.
use Rattle.std.proofs.Common.{◌≡◌, ◌+◌, ◌-◌, ◌≤◌, take, drop, length-drop, refl, sym, ap, ◌∙◌, arith}
use Rattle.slices.proofs.Steps.{part_rest}
use Rattle.format.specs.Names.{same, unpadded}
use Rattle.format.specs.Reading.{signal_size}
use Rattle.format.proofs.Walking.{size_least, field_is, place_short, place_end, place_cut, found, not_here}
use Rattle.finding.proofs.find.Goals as goal
use Rattle.finding.proofs.find.Goals.{After-signal_size-size, After-holds}

pub returns-then-sheet-lt-FIRST_AT : goal.returns-then-sheet-lt-FIRST_AT
returns-then-sheet-lt-FIRST_AT c = sym (place_short c.args.name.now c.args.sheet.now c.args.count c.if-sheet-lt-FIRST_AT.true)

pub returns-then-rest-lt-WORDS_AT : goal.returns-then-rest-lt-WORDS_AT
returns-then-rest-lt-WORDS_AT c =
    let rest = drop c.loop.at c.args.sheet.now in
    sym (place_cut c.args.name.now c.loop.at (c.args.count - c.loop.counter) rest
    (omega (arith, length-drop c.loop.at c.args.sheet.now, size_least rest))) ∙ c.loop.invariant.1

-- the size of the signal at the place: ten or more
size_is : (c : After-signal_size-size) → c.signal_size-size.result ≡ signal_size (drop c.loop.at c.args.sheet.now)
size_is c = c.signal_size-size.ensures ∙ ap signal_size (part_rest c.args.sheet.now c.loop.at)

ten : (c : After-signal_size-size) → 10 ≤ c.signal_size-size.result
ten c = rw c.signal_size-size.ensures (size_least _)

pub returns-then-rest-size : goal.returns-then-rest-size
returns-then-rest-size c =
    sym (place_cut c.args.name.now c.loop.at (c.args.count - c.loop.counter) (drop c.loop.at c.args.sheet.now)
    (omega (arith, length-drop c.loop.at c.args.sheet.now, size_is (goal.at.returns-then-rest-size c).After-signal_size-size))) ∙
    c.loop.invariant.1

pub overflow_sub-result : goal.overflow_sub-result
overflow_sub-result c = omega (arith, ten (goal.at.overflow_sub-result c).After-signal_size-size)

-- whether the name is that of the signal at the place
held_is : (c : After-holds)
    → c.holds.result ≡ same (unpadded (take (c.loop.at + 8 - c.loop.at) (drop c.loop.at c.args.sheet.now))) c.args.name.now
held_is c = rw (field_is c.args.sheet.now c.loop.at, ← part_rest c.args.sheet.now c.loop.at) c.holds.ensures

pub returns-then-holds : goal.returns-then-holds
returns-then-holds c =
    found c.args.name.now c.args.sheet.now c.loop.at c.args.count c.loop.counter _ c.loop-test.true
    _ (size_is (goal.at.returns-then-holds c).After-signal_size-size) (omega arith) _ _ refl
    (held_is (goal.at.returns-then-holds c).After-holds) c.loop.invariant.1 c.if-holds.true

pub loop-preserved : goal.loop-preserved
loop-preserved c = (
  omega arith,
  not_here c.args.name.now c.args.sheet.now c.loop.at c.args.count c.loop.counter _ c.loop-test.true
      _ (size_is (goal.at.loop-preserved c).After-signal_size-size) (omega arith) _ _ refl
      (held_is (goal.at.loop-preserved c).After-holds) c.loop.invariant.1 c.if-holds.false,
)

pub returns : goal.returns
returns c =
    sym (place_end c.args.name.now c.loop.at c.args.count c.loop.counter (drop c.loop.at c.args.sheet.now) c.loop-test.false)
    ∙ c.loop.invariant.1
