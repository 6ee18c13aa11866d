-- A text read as a length: digits, needless zeros, and the number that it writes up to M + 1.
use Prim.Native.Nat.{ℕ, ◌+◌, ◌*◌, ◌-◌, ◌≤◌}
use native.Mathlib.Omega.{arith}
use mathlib.Core.Path.{◌≡◌, sym, ◌∙◌}
use mathlib.Core.List.{List, [], ◌∷◌}
use Rattle.std.specs.List.{fold}
use Rattle.signals.specs.Moment.{M}
use Rattle.texts.specs.Lengths.{value_from, capped}

-- numbers up to M + 1
pub capped_under : (n : ℕ) → n ≤ M + 1 → n ≡ capped n
unfolding capped
capped_under n h = omega arith

pub capped_most : (n : ℕ) → capped n ≤ M + 1
unfolding capped
capped_most n = omega arith

again : (a b d : ℕ) → capped a ≡ capped b → capped (a * 10 + d) ≡ capped (b * 10 + d)
unfolding capped
again a b d e = omega arith

capped_from : (w : List ℕ) (a b : ℕ) → capped a ≡ capped b → capped (value_from a w) ≡ capped (value_from b w)
unfolding value_from
capped_from [] a b e = e
capped_from (d ∷ w) a b e = capped_from w (a * 10 + (d - 48)) (b * 10 + (d - 48)) (again a b (d - 48) e)

-- the digits one by one
pub ticks_are : (w : List ℕ) (a : ℕ) → a ≤ M + 1 → fold (λ n b. capped (n * 10 + (b - 48))) a w ≡ capped (value_from a w)
unfolding value_from
ticks_are [] a h = capped_under a h
ticks_are (d ∷ w) a h =
    let m = a * 10 + (d - 48) in
    ticks_are w (capped m) (capped_most m) ∙ capped_from w (capped m) m (sym (capped_under (capped m) (capped_most m)))
