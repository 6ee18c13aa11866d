-- `formulas::judge` meets its contract: what it reads is the page that the text was put on.
use Prim.Native.Nat.{ℕ}
use native.Mathlib.Omega.{arith}
use mathlib.Core.Path.{◌≡◌, subst}
use mathlib.Core.Logic.{inl, inr}
use mathlib.Core.List.{List}
use lib.ListN.{length, replicate, length-replicate}
use Rattle.marks.specs.Marks.{lent}
use Rattle.formulas.specs.Calls.{CallOfJudge}
use Rattle.formulas.proofs.WholeRead.{laid, empty_is, long_is, empty_stops, long_stops, refused_is}
use Rattle.formulas.proofs.judge.Goals as goal
use Rattle.formulas.proofs.judge.Goals.{After-put}

pub returns-then-bytes-eq0 : goal.returns-then-bytes-eq0
returns-then-bytes-eq0 c =
    let a = c.args in
    elim c.then-bytes-eq0.either [
      | inl e ↦ refused_is a.text.now a.code.now 10 0 (empty_is a.text.now e) (λ q. omega arith) (empty_stops a.text.now e)
      | inr h ↦ refused_is a.text.now a.code.now 10 0 (long_is a.text.now h.0 h.1) (λ q. omega arith) (long_stops a.text.now h.1)
    ]

-- the text on its page
on-page : (c : After-put) →
    let a = c.args in
    (length c.put.new.out ≡ 1024) × (lent c.put.new.out (length a.text.now) ≡ a.text.now)
on-page c =
    laid c.args.text.now (replicate 1024 0) c.put.new.out c.put.ensures
    (length-replicate {A = ℕ} 1024 0) c.if-bytes-gt-MOST_BYTES.false

pub judge_page-requires : goal.judge_page-requires
judge_page-requires c =
    ((on-page (goal.at.judge_page-requires c).After-put).0, omega (arith, c.if-bytes-eq0.false), c.if-bytes-gt-MOST_BYTES.false)

pub returns : goal.returns
returns c =
    let a = c.args in
    subst (λ (t : List ℕ). CallOfJudge t a.code.now c.judge_page.result c.judge_page.new.code) (on-page (goal.at.returns c).After-put).1
    c.judge_page.ensures
