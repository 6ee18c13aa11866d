-- The code words of formulas meet the 5 or 6 of a part and nothing else.
use Prim.Native.Nat.{ℕ, ◌≤◌}
use native.Mathlib.Omega.{arith}
use mathlib.Core.Path.{◌≡◌}
use mathlib.Core.Bool.{Bool, true, false, cond}
use mathlib.Core.List.{List, [], ◌∷◌}
use lib.Dec.{eqb, ltb}
use lib.ListN.{length}
use Rattle.signals.specs.Words.{most_words}
use Rattle.signals.specs.Answers.{first_of}
use Rattle.operations.specs.Calls.{part_fault, changes_after_m}
use Rattle.grammar.specs.Tree.{Tree}
use Rattle.calls.specs.OnSheet.{exact_on}
use Rattle.calls.specs.Calls.{parts_fault, working_fault}
use Rattle.machine.specs.Enough.{SlotsSuffice}
use Rattle.machine.proofs.FormulaRan.{formula_ran}
use Rattle.machine.proofs.Claiming.{both_ran}

first_small : (f g : ℕ) → f ≤ 6 → g ≤ 6 → first_of f g ≤ 6
unfolding first_of
first_small f g h k = go (eqb f 0)
  where
    go : (t : Bool) → cond t g f ≤ 6
    go true = k
    go false = h

part_small : (l : List ℕ) → part_fault l ≤ 6
unfolding part_fault
part_small l = go (ltb most_words (length l)) (changes_after_m l)
  where
    go : (t u : Bool) → cond t 5 (cond u 6 0) ≤ 6
    go true u = omega arith
    go false true = omega arith
    go false false = omega arith

parts_small : (sheet : List ℕ) (ts : List Tree) → parts_fault sheet ts ≤ 6
unfolding parts_fault
parts_small sheet [] = omega arith
parts_small sheet (t ∷ ts) = first_small _ _ (part_small (exact_on sheet t)) (parts_small sheet ts)

working_small : (sheet f : List ℕ) → working_fault sheet f ≤ 6
unfolding working_fault
working_small sheet f = parts_small sheet _

no_12 : (fault n : ℕ) → fault ≡ n → n ≤ 6 → fault ≡ 12 → ⊥
no_12 fault n e h z = absurd (omega arith)

pub slots_suffice : SlotsSuffice
slots_suffice =
    record {
      one = λ sheet f ok bytes read fault end r.
          let e = (formula_ran sheet f ok bytes read [] (omega arith) fault end r).fault_is in
          (e, no_12 fault (working_fault sheet f) e (working_small sheet f));
      two = λ sheet f g ok bytes readF readG fault end r.
          let e = (both_ran sheet f g ok bytes readF readG fault end r).0 in (
            e,
            no_12 fault (first_of (working_fault sheet f) (working_fault sheet g)) e
                (first_small (working_fault sheet f) (working_fault sheet g) (working_small sheet f) (working_small sheet g)),
          );
    }
