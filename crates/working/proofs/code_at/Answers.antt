-- `working::code_at` reads the code word at a place of two rows.
use mathlib.Core.Path.{◌≡◌, sym}
use native.Mathlib.Omega.{arith}
use Prim.Native.Nat.{◌+◌, ◌-◌}
use mathlib.Core.Path.{◌∙◌, ap}
use mathlib.Core.List.{◌++◌}
use lib.ListN.{length, get_or, get_or-append}
use lib.Seq.{get_or-append-add}
use Rattle.working.proofs.code_at.Goals as goal

pub returns-then-i-n : goal.returns-then-i-n
returns-then-i-n c = sym (get_or-append c.args.first.now c.args.second.now 0
    c.args.i c.if-i-n.true)

pub returns-else-i-n : goal.returns-else-i-n
returns-else-i-n c =
    let a = c.args in
    let e : length a.first.now + (a.i - length a.first.now) ≡ a.i = omega (arith, c.if-i-n.false) in
    sym (get_or-append-add a.first.now a.second.now (a.i - length a.first.now) 0)
    ∙ ap (λ n. get_or (a.first.now ++ a.second.now) n 0) e
