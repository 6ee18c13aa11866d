-- `sheets::words_fault` meets its contract: the fault of the words left from here is that of all after the first.
use Rattle.std.proofs.Common.{◌≡◌, ◌+◌, ◌-◌, ◌*◌, ◌≤◌, length, drop, sym, ◌∙◌, arith}
use Rattle.format.proofs.Walking.{words_cut, words_high, later_cut, later_date, later_same, later_next, later_end}
use Rattle.sheets.proofs.WholeWords.{after_first, unchanged, changed}
use Rattle.sheets.proofs.words_fault.Goals as goal
use Rattle.sheets.proofs.words_fault.Goals.{In-loop-i, then-word-before-via-then-word-before}
use Rattle.sheets.proofs.words_fault.Goals.{then-word-before-via-else-word-before+then-word-before-2}

pub returns-then-whole-eq0 : goal.returns-then-whole-eq0
returns-then-whole-eq0 c = sym (words_cut c.args.n c.args.bytes.now 0 (omega arith))

pub returns-then-before-gt1 : goal.returns-then-before-gt1
returns-then-before-gt1 c =
    sym (words_high c.args.n c.args.bytes.now 0 c.word_at-before.result c.word_at-before.ensures (omega arith) c.if-before-gt1.true)

pub loop-i-init : goal.loop-i-init
loop-i-init c =
    after_first c.args.n c.args.bytes.now 0 c.word_at-before.result c.word_at-before.ensures (omega arith) c.if-before-gt1.false

-- in the loop the word is there
there : (c : In-loop-i) → 4 ≤ length c.args.bytes.now - 4 * c.loop-i.i
there c = omega (arith, c.min-i-end.ensures)

pub returns-then-word-before : goal.returns-then-word-before
returns-then-word-before c =
    let loop = c.loop-i in
    let w = c.word_at-word in
    let p = there (goal.at.returns-then-word-before c).In-loop-i in
    elim c.then-word-before.branch [
      | then-word-before-via-then-word-before d ↦
          sym (later_date _ _ c.args.n loop.i c.args.bytes.now (4 * loop.i) (omega arith) w.result w.ensures p d.if-word-before.true)
          ∙ loop.invariant
      | then-word-before-via-else-word-before+then-word-before-2 d ↦
          sym (later_same _ _ c.args.n loop.i c.args.bytes.now (4 * loop.i) (omega arith) w.result w.ensures p d.if-word-before.false
          (unchanged loop.before w.result d.if-word-before-2.true)) ∙ loop.invariant
    ]

pub loop-i-preserved : goal.loop-i-preserved
loop-i-preserved c =
    let loop = c.loop-i in
    let w = c.word_at-word in
    let p = there (goal.at.loop-i-preserved c).In-loop-i in
    let next : 4 * loop.i + 4 ≡ 4 * (loop.i + 1) = omega arith in
    rw (← next) (later_next _ _ c.args.n loop.i c.args.bytes.now (4 * loop.i) (omega arith) w.result w.ensures p c.if-word-before.false
    (changed loop.before w.result c.if-word-before-2.false) ∙ loop.invariant)

pub returns-then-whole-n : goal.returns-then-whole-n
returns-then-whole-n c =
    let i = c.loop-i.i in
    sym (later_cut _ _ c.args.n i c.args.bytes.now (4 * i) (omega arith) (omega arith)) ∙ c.loop-i.invariant

pub returns-else-whole-n : goal.returns-else-whole-n
returns-else-whole-n c =
    let i = c.loop-i.i in
    sym (later_end _ _ c.args.n i (drop (4 * i) c.args.bytes.now) (omega arith)) ∙ c.loop-i.invariant
