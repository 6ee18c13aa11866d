-- The readers that call each other meet their contracts: each path is one of `ReaderPaths`.
use Prim.Native.Nat.{ℕ}
use native.Mathlib.Omega.{arith}
use borrow.Author.Tests.{eqb-true}
use mathlib.Core.Path.{◌≡◌, refl, ◌∙◌}
use Rattle.marks.specs.Marks.{lent}
use Rattle.tokens.proofs.Runs.{capped_most}
use Rattle.formulas.proofs.MarkSteps.{expect_mark, begin_leaves, expect_leaves, next_told, pass_moves, pass_stays}
use Rattle.formulas.proofs.LeafPaths.{leaf_leaves}
use Rattle.formulas.proofs.Doing.{ticks_are, starting, turned, inner_needs}
use Rattle.formulas.proofs.ReaderPaths as paths
use Rattle.formulas.proofs.ReaderChains as chains
use Rattle.grammar.proofs.Branches.{plus, times}
use Rattle.formulas.proofs.reader.+factor_latch_product_products_sum_sums_timer.Goals as goal
use Rattle.formulas.proofs.reader.+factor_latch_product_products_sum_sums_timer.Goals.{factor-After-begin-first}
use Rattle.formulas.proofs.reader.+factor_latch_product_products_sum_sums_timer.Goals.{latch-After-expect}
use Rattle.formulas.proofs.reader.+factor_latch_product_products_sum_sums_timer.Goals.{products-Then-pass}
use Rattle.formulas.proofs.reader.+factor_latch_product_products_sum_sums_timer.Goals.{sums-Then-pass}
use Rattle.formulas.proofs.reader.+factor_latch_product_products_sum_sums_timer.Goals.{timer-After-expect}

-- a factor's opening is passed
factor_open : (t : ℕ) (c : factor-After-begin-first t) →
    paths.Opening (lent c.args.text.now c.args.bytes) c.args.code.now c.args.m.now c.args.deep t
    c.begin-first.result c.begin-first.new.m
factor_open t c =
    record {
      ready = c.requires;
      falls = c.decreases;
      kind = c.begin-first.ensures.1;
      moved = begin_leaves (lent c.args.text.now c.args.bytes) c.args.m.now c.begin-first.ensures;
    }

pub factor-returns-then-first-eq0 : goal.factor-returns-then-first-eq0
factor-returns-then-first-eq0 t c =
    let none = c.if-first-eq0.true in
    let o = factor_open t (goal.at.factor-returns-then-first-eq0 t c).After-begin-first in
    paths.leaf_path o none (leaf_leaves (paths.leaf_needs o none) c.leaf.ensures)

pub factor-overflow_add-deep : goal.factor-overflow_add-deep
factor-overflow_add-deep t c = let g = c.requires in omega (arith, g.opened, g.within, g.short)

pub factor-factor-requires : goal.factor-factor-requires
factor-factor-requires t c =
    paths.deeper_needs (paths.prefix_step (factor_open t (goal.at.factor-factor-requires t c).After-begin-first)
    c.if-first-eq0.false c.if-first-lt-TON.true) {level = 2} (omega arith)

pub factor-returns-then-first-lt-TON : goal.factor-returns-then-first-lt-TON
factor-returns-then-first-lt-TON t c =
    paths.opened_prefix (factor_open t (goal.at.factor-returns-then-first-lt-TON t c).After-begin-first) c.if-first-eq0.false
    c.if-first-lt-TON.true c.factor.ensures c.put.ensures

pub factor-overflow_add-deep-then-first-eq-BRACKET : goal.factor-overflow_add-deep-then-first-eq-BRACKET
factor-overflow_add-deep-then-first-eq-BRACKET t c = let g = c.requires in omega (arith, g.opened, g.within, g.short)

pub factor-sum-requires : goal.factor-sum-requires
factor-sum-requires t c =
    paths.deeper_needs (paths.bracket_step (factor_open t (goal.at.factor-sum-requires t c).After-begin-first)
    c.if-first-eq-BRACKET.true) {level = 4} (omega arith)

pub factor-returns-then-first-eq-BRACKET : goal.factor-returns-then-first-eq-BRACKET
factor-returns-then-first-eq-BRACKET t c =
    let a = c.args in
    let k = paths.bracket_step (factor_open t (goal.at.factor-returns-then-first-eq-BRACKET t c).After-begin-first)
    c.if-first-eq-BRACKET.true in
    paths.brackets_path k c.sum.ensures (expect_leaves (lent a.text.now a.bytes) 41 c.sum.new.m (omega arith) c.expect.ensures)

pub factor-timer-requires : goal.factor-timer-requires
factor-timer-requires t c =
    let n = paths.block_needs (factor_open t (goal.at.factor-timer-requires t c).After-begin-first) c.if-first-lt-TON.false
    c.if-first-eq-BRACKET.false in
    (n.0, (n.1, omega (arith, c.if-first-lt-AND.true)))

pub factor-returns-then-first-lt-AND : goal.factor-returns-then-first-lt-AND
factor-returns-then-first-lt-AND t c =
    paths.opened_timer (factor_open t (goal.at.factor-returns-then-first-lt-AND t c).After-begin-first) c.if-first-lt-TON.false
    c.if-first-eq-BRACKET.false c.if-first-lt-AND.true c.timer.ensures

pub factor-latch-requires : goal.factor-latch-requires
factor-latch-requires t c =
    paths.block_needs (factor_open t (goal.at.factor-latch-requires t c).After-begin-first) c.if-first-lt-TON.false
    c.if-first-eq-BRACKET.false

pub factor-returns : goal.factor-returns
factor-returns t c =
    paths.opened_latch (factor_open t (goal.at.factor-returns t c).After-begin-first) c.if-first-lt-TON.false
    c.if-first-eq-BRACKET.false c.if-first-lt-AND.false c.latch.ensures

pub latch-overflow_add-deep : goal.latch-overflow_add-deep
latch-overflow_add-deep t c = let g = c.requires in omega (arith, g.opened, g.within, g.short)

pub latch-sum-requires : goal.latch-sum-requires
latch-sum-requires t c = inner_needs c.args.deep c.requires (starting 4 c.requires) c.decreases

pub latch-overflow_add-deep-2 : goal.latch-overflow_add-deep-2
latch-overflow_add-deep-2 t c = let g = c.requires in omega (arith, g.opened, g.within, g.short)

-- a comma is passed after the first sum
latch_comma : (t : ℕ) (c : latch-After-expect t) →
    c.expect.new.m ≡ expect_mark (lent c.args.text.now c.args.bytes) 44 c.sum.new.m
latch_comma t c = let a = c.args in expect_leaves (lent a.text.now a.bytes) 44 c.sum.new.m (omega arith) c.expect.ensures

pub latch-sum-requires-2 : goal.latch-sum-requires-2
latch-sum-requires-2 t c =
    let e = latch_comma t (goal.at.latch-sum-requires-2 t c).After-expect in
    inner_needs c.args.deep c.requires (paths.parted c.args.deep c.requires c.sum.ensures e) c.decreases

pub latch-returns : goal.latch-returns
latch-returns t c =
    let a = c.args in
    let sum2' = c.sum-2 in
    let e = latch_comma t (goal.at.latch-returns t c).After-expect in
    let e2 = expect_leaves (lent a.text.now a.bytes) 41 sum2'.new.m (omega arith) c.expect-2.ensures in
    paths.latch_path a.deep c.requires c.sum.ensures e sum2'.ensures e2 a.part c.put.ensures.1 c.put.ensures.0

pub product-factor-requires : goal.product-factor-requires
product-factor-requires t c = chains.first_needs times c.requires c.decreases

pub product-products-requires : goal.product-products-requires
product-products-requires t c = chains.after_first times c.requires c.decreases c.factor.ensures

pub product-returns : goal.product-returns
product-returns t c = chains.whole_path times c.requires c.factor.ensures c.products.ensures

times_step : (t : ℕ) (c : products-Then-pass t) →
    paths.Step (lent c.args.text.now c.args.bytes) c.args.code.now c.args.m.now c.args.deep 1 t 46 c.pass.new.m
times_step t c =
    let text = lent c.args.text.now c.args.bytes in
    let p = c.pass.ensures in
    let e = next_told text 46 c.args.m.now p.1 (omega arith) in
    paths.step (c.decreases, c.requires) (eqb-true _ 46 (e ∙ c.if-pass.true)) (omega arith)
    (pass_moves text 46 c.args.m.now p.1 p.0 c.if-pass.true)

pub products-factor-requires : goal.products-factor-requires
products-factor-requires t c = chains.operand_needs times (times_step t (goal.at.products-factor-requires t c).Then-pass)

pub products-products-requires : goal.products-products-requires
products-products-requires t c =
    chains.rest_needs times (times_step t (goal.at.products-products-requires t c).Then-pass) c.factor.ensures c.put.ensures

pub products-returns-then-pass : goal.products-returns-then-pass
products-returns-then-pass t c =
    chains.rest_path times (times_step t (goal.at.products-returns-then-pass t c).Then-pass) c.factor.ensures c.put.ensures
    c.products.ensures

pub products-returns-else-pass : goal.products-returns-else-pass
products-returns-else-pass t c =
    let p = c.pass.ensures in
    let text = lent c.args.text.now c.args.bytes in
    let e = next_told text 46 c.args.m.now p.1 (omega arith) in
    let q = pass_stays text 46 c.args.m.now p.1 p.0 c.if-pass.false in
    turned refl q (chains.rest_end times c.requires (e ∙ c.if-pass.false))

pub sum-product-requires : goal.sum-product-requires
sum-product-requires t c = chains.first_needs plus c.requires c.decreases

pub sum-sums-requires : goal.sum-sums-requires
sum-sums-requires t c = chains.after_first plus c.requires c.decreases c.product.ensures

pub sum-returns : goal.sum-returns
sum-returns t c = chains.whole_path plus c.requires c.product.ensures c.sums.ensures

plus_step : (t : ℕ) (c : sums-Then-pass t) →
    paths.Step (lent c.args.text.now c.args.bytes) c.args.code.now c.args.m.now c.args.deep 1 t 43 c.pass.new.m
plus_step t c =
    let text = lent c.args.text.now c.args.bytes in
    let p = c.pass.ensures in
    let e = next_told text 43 c.args.m.now p.1 (omega arith) in
    paths.step (c.decreases, c.requires) (eqb-true _ 43 (e ∙ c.if-pass.true)) (omega arith)
    (pass_moves text 43 c.args.m.now p.1 p.0 c.if-pass.true)

pub sums-product-requires : goal.sums-product-requires
sums-product-requires t c = chains.operand_needs plus (plus_step t (goal.at.sums-product-requires t c).Then-pass)

pub sums-sums-requires : goal.sums-sums-requires
sums-sums-requires t c =
    chains.rest_needs plus (plus_step t (goal.at.sums-sums-requires t c).Then-pass) c.product.ensures c.put.ensures

pub sums-returns-then-pass : goal.sums-returns-then-pass
sums-returns-then-pass t c =
    chains.rest_path plus (plus_step t (goal.at.sums-returns-then-pass t c).Then-pass) c.product.ensures c.put.ensures
    c.sums.ensures

pub sums-returns-else-pass : goal.sums-returns-else-pass
sums-returns-else-pass t c =
    let p = c.pass.ensures in
    let text = lent c.args.text.now c.args.bytes in
    let e = next_told text 43 c.args.m.now p.1 (omega arith) in
    let q = pass_stays text 43 c.args.m.now p.1 p.0 c.if-pass.false in
    turned refl q (chains.rest_end plus c.requires (e ∙ c.if-pass.false))

pub timer-overflow_add-deep : goal.timer-overflow_add-deep
timer-overflow_add-deep t c = let g = c.requires.0 in omega (arith, g.opened, g.within, g.short)

-- the length and a comma are passed
timer_comma : (t : ℕ) (c : timer-After-expect t) →
    c.expect.new.m ≡ expect_mark (lent c.args.text.now c.args.bytes) 44 c.pass_length-n.new.m
timer_comma t c = let a = c.args in expect_leaves (lent a.text.now a.bytes) 44 c.pass_length-n.new.m (omega arith) c.expect.ensures

pub timer-sum-requires : goal.timer-sum-requires
timer-sum-requires t c =
    let e = timer_comma t (goal.at.timer-sum-requires t c).After-expect in
    inner_needs c.args.deep c.requires.0 (paths.timer_parted c.args.deep c.requires.0 c.pass_length-n.ensures.0 e) c.decreases

pub timer-overflow_mul-n : goal.timer-overflow_mul-n
timer-overflow_mul-n t c = omega (arith, capped_most _ _ (c.pass_length-n.ensures.1 ∙ ticks_are _ _))

pub timer-overflow_add-n : goal.timer-overflow_add-n
timer-overflow_add-n t c = omega (arith, capped_most _ _ (c.pass_length-n.ensures.1 ∙ ticks_are _ _), c.requires.1)

pub timer-returns : goal.timer-returns
timer-returns t c =
    let a = c.args in
    let n = c.pass_length-n in
    let e = timer_comma t (goal.at.timer-returns t c).After-expect in
    let e2 = expect_leaves (lent a.text.now a.bytes) 41 c.sum.new.m (omega arith) c.expect-2.ensures in
    paths.timer_path a.deep c.requires.0 n.ensures.0 e c.sum.ensures e2 a.part n.result n.ensures.1 c.put.ensures.1 c.put.ensures.0
