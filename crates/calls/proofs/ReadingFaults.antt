-- 10, 11, 8, 12 and 13 of a formula on a sheet, as tabled.
use Prim.Native.Nat.{ℕ}
use native.Mathlib.Omega.{arith}
use mathlib.Core.Path.{◌≡◌, refl, sym, ◌∙◌, ap}
use mathlib.Core.Bool.{Bool, true, false, cond, not, ◌||◌}
use mathlib.Core.Logic.{inl, inr}
use mathlib.Core.List.{List}
use lib.Dec.{ltb, eqb}
use lib.ListN.{length}
use Rattle.signals.proofs.Truth.{and_left, and_right, not_both_lem}
use Rattle.grammar.specs.Tree.{Tree, leaf, unary, binary, down, up, name}
use Rattle.grammar.specs.Grammar.{Writes}
use Rattle.grammar.specs.Formula.{accepted, formula_tree, formula_fault}
use Rattle.grammar.proofs.Reading.{tree_of_lem, refused_of}
use Rattle.grammar.proofs.Faults.{formula_checks}
use Rattle.format.specs.Names.{among}
use Rattle.format.specs.Reading.{signals_on, names}
use Rattle.calls.specs.OnSheet.{names_found}
use Rattle.calls.specs.Calls.{reading_fault}
use Rattle.calls.specs.Tabled.{Names, Breaks13, ReadingChecks}
use Rattle.signals.specs.Checks.{Check}
use Rattle.calls.proofs.FirstFault.{passed}
use Rattle.signals.specs.Answers.{first_of}
use Rattle.signals.proofs.FirstFault.{both_none, next_is, first_some, first_assoc}

-- a formula without a fault has a tree
pub derived : (formula : List ℕ) → formula_fault formula ≡ 0 → (t : Tree) × (d : ℕ) × Writes formula t d
unfolding formula_fault
derived formula e =
    let a = passed (eqb (length formula) 0 || ltb 1024 (length formula)) 10 _ (omega arith) e in
    refused_of formula (passed (not (accepted formula)) 11 _ (omega arith) a.1).0

-- a tree's names and the sheet's
pub lacks : (sheet : List ℕ) (t : Tree) → names_found sheet t ≡ false
    → (n : List ℕ) × Names t n × (among n (names (signals_on sheet)) ≡ false)
unfolding names_found
lacks sheet (leaf down) e = absurd (not_both_lem {b = true} {A = ⊥} refl e)
lacks sheet (leaf up) e = absurd (not_both_lem {b = true} {A = ⊥} refl e)
lacks sheet (leaf (name n)) e = (n, refl, e)
lacks sheet (unary o t) e = lacks sheet t e
lacks sheet (binary o t u) e = go (names_found sheet t) refl (lacks sheet t) (lacks sheet u)
  where
    Lacks : Tree → Type 0
    Lacks x = (n : List ℕ) × Names x n × (among n (names (signals_on sheet)) ≡ false)

    go : (b : Bool) → names_found sheet t ≡ b → (names_found sheet t ≡ false → Lacks t) → (names_found sheet u ≡ false → Lacks u)
        → Lacks (binary o t u)
    go false q h k = let r = h q in (r.0, inl r.1, r.2)
    go true q h k = let r = k (rw q at e) in (r.0, inr r.1, r.2)

pub has : (sheet : List ℕ) (t : Tree) → names_found sheet t ≡ true → (n : List ℕ) → Names t n → among n (names (signals_on sheet)) ≡ true
unfolding names_found
has sheet (leaf down) e n m = absurd m
has sheet (leaf up) e n m = absurd m
has sheet (leaf (name k)) e n m = rw (← m) e
has sheet (unary o t) e n m = has sheet t e n m
has sheet (binary o t u) e n (inl m) = has sheet t (and_left (names_found sheet t) (names_found sheet u) e) n m
has sheet (binary o t u) e n (inr m) = has sheet u (and_right (names_found sheet t) (names_found sheet u) e) n m

abbrev missing : List ℕ → List ℕ → ℕ
missing sheet formula = cond (names_found sheet (formula_tree formula)) 0 13

-- 13 and what is checked after it
names_check : (sheet formula : List ℕ) (later : ℕ → Type 0) (rest : ℕ) → formula_fault formula ≡ 0
    → (reading_fault sheet formula ≡ 0 → later rest)
    → Check 13 (Breaks13 sheet formula) later (first_of (missing sheet formula) rest)
unfolding reading_fault
names_check sheet formula later rest z next = go (names_found sheet (formula_tree formula)) refl
  where
    go : (b : Bool) → names_found sheet (formula_tree formula) ≡ b
        → Check 13 (Breaks13 sheet formula) later (first_of (missing sheet formula) rest)
    go true q =
        let found : missing sheet formula ≡ 0 = ap (λ b. cond b 0 13) q in
        inr (
          λ h. not_both_lem (has sheet h.0 (ap (names_found sheet) (sym (tree_of_lem formula h.0 h.1 h.2)) ∙ q) h.3.0 h.3.1)
              h.3.2,
          rw (next_is (missing sheet formula) rest found)
              (next (next_is (formula_fault formula) (missing sheet formula) z ∙ found)),
        )
    go false q =
        let w = derived formula z in
        inl (
          (w.0, w.1, w.2, lacks sheet w.0 (ap (names_found sheet) (sym (tree_of_lem formula w.0 w.1 w.2)) ∙ q)),
          first_some (missing sheet formula) rest 13 (ap (λ b. cond b 0 13) q) (omega arith),
        )

pub reading_fault_lem : (sheet formula : List ℕ) (later : ℕ → Type 0) (rest : ℕ) → (reading_fault sheet formula ≡ 0 → later rest)
    → ReadingChecks sheet formula later (first_of (reading_fault sheet formula) rest)
unfolding reading_fault
reading_fault_lem sheet formula later rest next =
    rw (first_assoc (formula_fault formula) (missing sheet formula) rest)
    (formula_checks formula (Check 13 (Breaks13 sheet formula) later) (first_of (missing sheet formula) rest)
    (λ z. names_check sheet formula later rest z next))

-- without a fault, the text has none
pub text_fine : (sheet formula : List ℕ) → reading_fault sheet formula ≡ 0 → formula_fault formula ≡ 0
unfolding reading_fault
text_fine sheet formula e = (both_none (formula_fault formula) (missing sheet formula) e).0
