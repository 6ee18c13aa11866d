-- The readers that call each other end: what falls is 5 × (bytes left) + (open depth) + (the reader's level).
use Prim.Native.Nat.{◌+◌, ◌*◌, ◌-◌}
use lib.ListN.{length}
use Rattle.marks.specs.Marks.{lent}
use Rattle.formulas.proofs.reader.+factor_latch_product_products_sum_sums_timer.Given as goal

abbrev pub decreases-factor : goal.decreases-factor
decreases-factor l = 5 * (length (lent l.text.now l.bytes) - l.m.now.at) + l.deep + 2

abbrev pub decreases-latch : goal.decreases-latch
decreases-latch l = 5 * (length (lent l.text.now l.bytes) - l.m.now.at) + l.deep + 6

abbrev pub decreases-product : goal.decreases-product
decreases-product l = 5 * (length (lent l.text.now l.bytes) - l.m.now.at) + l.deep + 3

abbrev pub decreases-products : goal.decreases-products
decreases-products l = 5 * (length (lent l.text.now l.bytes) - l.m.now.at) + l.deep + 1

abbrev pub decreases-sum : goal.decreases-sum
decreases-sum l = 5 * (length (lent l.text.now l.bytes) - l.m.now.at) + l.deep + 4

abbrev pub decreases-sums : goal.decreases-sums
decreases-sums l = 5 * (length (lent l.text.now l.bytes) - l.m.now.at) + l.deep + 1

abbrev pub decreases-timer : goal.decreases-timer
decreases-timer l = 5 * (length (lent l.text.now l.bytes) - l.m.now.at) + l.deep + 6
