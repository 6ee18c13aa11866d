-- `uptimes::stretches_in` meets its contract: the stretches done and those of the words left are all of the list's.
use native.Mathlib.Omega.{arith}
use mathlib.Core.Path.{refl, ap, ◌∙◌}
use Rattle.format.specs.Theorems.{decoded}
use Rattle.sources.specs.Sources.{start_of}
use Rattle.uptimes.specs.Turns.{state_of}
use Rattle.uptimes.proofs.PartRead.{part_list, part_words, reads_part, along_part, can_go, Turned, turn, end_up, end_down}
use Rattle.uptimes.proofs.stretches_in.Goals as goal
use Rattle.uptimes.proofs.stretches_in.Goals.{After-reader-1}

pub overflow_cast-list : goal.overflow_cast-list
overflow_cast-list c = omega (arith, (part_words _ c.requires.part_value).1)

pub loop-reader-init : goal.loop-reader-init
loop-reader-init c =
    let accepted = c.requires.part_value in
    let whole = part_list c.args.part.now _ refl in
    let at_first = c.start-reader.ensures ∙ ap start_of whole in
    let reads = reads_part _ (λ i. (c.type_inv.part i).fits) accepted _ at_first in
    (reads.0, reads.1, along_part _ _ _ accepted _ at_first)

pub pass-going-requires : goal.pass-going-requires
pass-going-requires c =
    can_go _ _ _ _ _ c.requires.part_value c.loop-reader.invariant.1 c.loop-reader.invariant.2

after_turn : (c : After-reader-1)
    →
    Turned (decoded c.args.part.now) c.args.h c.args.out.now c.loop-reader.reader c.past-passed.result.next
    (state_of c.pass-going.result c.pass-going.new.out)
after_turn c =
    turn _ _ _ _ _ (state_of _ _) (part_list c.args.part.now _ refl)
    c.loop-reader.invariant.0 c.loop-reader.invariant.2 c.loop-reader-test.true
    c.requires.h_bound
    _ c.past-passed.ensures _ c.pass-going.ensures

pub loop-reader-smaller : goal.loop-reader-smaller
loop-reader-smaller c =
    let t = after_turn (goal.at.loop-reader-smaller c).After-reader-1 in
    omega (arith, t.left, t.one)

pub loop-reader-preserved : goal.loop-reader-preserved
loop-reader-preserved c =
    let t = after_turn (goal.at.loop-reader-preserved c).After-reader-1 in
    (t.reads, omega (arith, t.left, t.one), t.along)

pub end_before-requires : goal.end_before-requires
end_before-requires c =
    can_go _ _ _ _ _ c.requires.part_value c.loop-reader.invariant.1 c.loop-reader.invariant.2

pub returns-then-reader-eq1 : goal.returns-then-reader-eq1
returns-then-reader-eq1 c =
    let accepted = c.requires.part_value in
    end_up _ _ _ _ (state_of _ _) c.loop-reader.invariant.0 c.loop-reader.invariant.2 accepted c.loop-reader-test.false c.if-reader-eq1.true
    (state_of _ _) c.end_before.ensures

pub returns : goal.returns
returns c =
    let accepted = c.requires.part_value in
    end_down _ _ _ _ (state_of _ _) c.loop-reader.invariant.0 c.loop-reader.invariant.2 accepted c.loop-reader-test.false
    c.if-reader-eq1.false
