-- An exact answer of one list that is no longer than the list has neither 5 nor 6: its call is that of a list handed over.
use Prim.Native.Nat.{ℕ, suc, ◌≤◌}
use native.Mathlib.Omega.{arith}
use mathlib.Core.Path.{◌≡◌, refl}
use mathlib.Core.Bool.{false}
use mathlib.Core.List.{List, [], ◌∷◌}
use lib.ListN.{length}
use borrow.Author.Tests.{le-ltb}
use Rattle.slices.specs.Bytes.{Words}
use Rattle.signals.specs.Moment.{M}
use Rattle.signals.specs.Signal.{Signal}
use Rattle.signals.specs.Words.{most_words, date_of, list_fault, last_date, signal_of}
use Rattle.signals.specs.Giving.{WithinM}
use Rattle.signals.specs.declared.Written.{Written}
use Rattle.signals.proofs.Giving.{within}
use Rattle.signals.proofs.Normal.{accepted_normal}
use Rattle.operations.specs.Calls.{exact_of_one, changes_after_m, part_fault, answer_fault, fault_of_one, CallOfOne}
use Rattle.operations.proofs.JudgedCalls.{passes_on}
use Rattle.operations.proofs.NeverMet.{last_32}
use Rattle.building.specs.Building.{HandsOver}

quiet : (l : List ℕ) → WithinM l → changes_after_m l ≡ false
unfolding changes_after_m
quiet [] w = refl
quiet (x ∷ l) w = rw (le-ltb M (date_of x) (w 0 (omega arith)), quiet l (λ i h. w (suc i) (omega arith)))

module _ (operation : Signal → Signal) (a : List ℕ) (small : Words a) where
  pub not_late_lem : changes_after_m (exact_of_one operation a) ≡ false
  unfolding exact_of_one
  not_late_lem = quiet _ (within (operation (signal_of a)) (last_date a) (last_32 a (λ i u. small i)))

  pub call_handed : list_fault a ≡ 0 → length (exact_of_one operation a) ≤ length a → (out : List ℕ) (answer : Written) (after : List ℕ)
      → HandsOver (exact_of_one operation a) out answer after → CallOfOne operation a out answer after
  unfolding fault_of_one answer_fault part_fault
  call_handed accepted fits out answer after h =
      passes_on (list_fault a) _ (exact_of_one operation a) out answer after accepted
      (passes_on (part_fault (exact_of_one operation a)) _ (exact_of_one operation a) out answer after
      (rw (le-ltb most_words (length (exact_of_one operation a)) (omega (arith, ((accepted_normal a).0 accepted).1)), not_late_lem)) h)
