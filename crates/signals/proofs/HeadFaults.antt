-- Checks 1 and 2 of a list, which tidying shares.
use Prim.Native.Nat.{ℕ}
use native.Mathlib.Omega.{arith}
use mathlib.Core.Path.{◌≡◌}
use mathlib.Core.Logic.{inl, inr}
use mathlib.Core.List.{List, ◌∷◌}
use mathlib.Core.Bool.{false, cond}
use lib.Dec.{ltb}
use lib.ListN.{length}
use borrow.Author.Tests.{ltb-true, ltb-false}
use Rattle.signals.specs.Checks.{Check}
use Rattle.signals.specs.ListFaults.{Breaks1, Breaks2}
use Rattle.signals.proofs.Checks.{check_by}
use Rattle.signals.specs.Words.{most_words}

not_breaks1 : (h : ℕ) (ws : List ℕ) → ltb most_words (length (h ∷ ws)) ≡ false → ¬ Breaks1 (h ∷ ws)
not_breaks1 h ws e (inl z) = omega arith
not_breaks1 h ws e (inr l) = omega (arith, ltb-false most_words (length (h ∷ ws)) e)

-- rest is the fault of the words after the first
pub head_checks : (h : ℕ) (ws : List ℕ) (rest : ℕ) (later : ℕ → Type 0) → later rest
    → Check 1 (Breaks1 (h ∷ ws)) (Check 2 (Breaks2 (h ∷ ws)) later) (cond (ltb most_words (length (h ∷ ws))) 1 (cond (ltb 1 h) 2 rest))
head_checks h ws rest later is =
    check_by 1 (cond (ltb 1 h) 2 rest) (Breaks1 (h ∷ ws)) (Check 2 (Breaks2 (h ∷ ws)) later) (ltb most_words (length (h ∷ ws)))
    (λ t. inr (ltb-true most_words (length (h ∷ ws)) t))
    (not_breaks1 h ws)
    (λ t. check_by 2 rest (Breaks2 (h ∷ ws)) later (ltb 1 h) (ltb-true 1 h) (λ e b. omega (arith, ltb-false 1 h e)) (λ e. is))
