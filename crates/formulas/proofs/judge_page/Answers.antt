-- `formulas::judge_page` meets its contract: each path is one of `WholeRead`.
use Prim.Native.Nat.{ℕ, ◌≤◌}
use native.Mathlib.Omega.{arith}
use mathlib.Core.Path.{◌≡◌, sym, ap, ◌∙◌}
use lib.ListN.{length, replicate, length-replicate}
use lib.Seq.{sets}
use Rattle.marks.specs.Marks.{mark_fault, lent}
use Rattle.formulas.specs.Readers.{SumRead}
use Rattle.formulas.proofs.WholeRead.{first, begun, lent_all, refused_is, written_is}
use Rattle.formulas.proofs.WholeRead.{few_words, words_are, words_length, place_is, fault_is}
use Rattle.formulas.proofs.judge_page.Goals as goal
use Rattle.formulas.proofs.judge_page.Goals.{After-sum, Start, Then-fault-eq0}

pub sum-requires : goal.sum-requires
sum-requires c =
    begun c.args.page.now c.args.bytes (length-replicate {A = ℕ} 32 0)

-- the text is read to the mark that its words hold
read-to : (c : After-sum) →
    let a = c.args in
    SumRead (lent a.page.now a.bytes) 0 first (replicate 32 0) c.sum.new.code c.sum.new.m
read-to c = c.sum.ensures

-- the text has so many bytes, some and at most 1,024
all : (c : Start) → length (lent c.args.page.now c.args.bytes) ≡ c.args.bytes
all c = lent_all c.args.page.now c.args.bytes c.requires.0 c.requires.2

some : (c : Start) → length (lent c.args.page.now c.args.bytes) ≡ 0 → ⊥
some c e = absurd (omega (arith, all c, c.requires.1))

short : (c : Start) → length (lent c.args.page.now c.args.bytes) ≤ 1024
short c = omega (arith, all c, c.requires.2)

-- without a fault there are at most 32 parts
few : (c : Then-fault-eq0) → c.sum.new.m.parts ≤ 32
few c =
    few_words _ c.args.bytes (sym c.fault_of-fault.ensures ∙ c.if-fault-eq0.true)

pub copy-requires : goal.copy-requires
copy-requires c = (
  omega (arith, few (goal.at.copy-requires c).Then-fault-eq0, (read-to (goal.at.copy-requires c).After-sum).room),
  few
      (goal.at.copy-requires c).Then-fault-eq0,
)

pub returns-then-fault-eq0 : goal.returns-then-fault-eq0
returns-then-fault-eq0 c =
    let a = c.args in
    let text = lent a.page.now a.bytes in
    let d = read-to (goal.at.returns-then-fault-eq0 c).After-sum in
    let f = fault_is text _ _ _ d (some (goal.at.returns-then-fault-eq0 c).Start) (short (goal.at.returns-then-fault-eq0 c).Start) ∙ ap
    (mark_fault _) (all (goal.at.returns-then-fault-eq0 c).Start) in
    written_is text a.code.now c.copy.new.code _ _ (f ∙ sym c.fault_of-fault.ensures ∙ c.if-fault-eq0.true)
    (place_is text _ _ _ d (short (goal.at.returns-then-fault-eq0 c).Start)) (sym (words_length text _ _ _ d))
    (c.copy.ensures ∙ ap (sets a.code.now 0) (words_are text _ _ _ d (few (goal.at.returns-then-fault-eq0 c).Then-fault-eq0)))

pub returns : goal.returns
returns c =
    let a = c.args in
    let text = lent a.page.now a.bytes in
    let f = fault_is text _ _ _ (read-to (goal.at.returns c).After-sum) (some (goal.at.returns c).Start)
    (short (goal.at.returns c).Start) ∙ ap (mark_fault _) (all (goal.at.returns c).Start) in
    refused_is text a.code.now c.fault_of-fault.result _ (f ∙ sym c.fault_of-fault.ensures) c.if-fault-eq0.false
    (place_is text _ _ _ (read-to (goal.at.returns c).After-sum) (short (goal.at.returns c).Start))
