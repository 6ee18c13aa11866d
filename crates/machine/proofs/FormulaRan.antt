-- The code words of a formula with the places of its names, worked out on a stack that holds at most one list: the first 5 or 6 of its
-- parts, or its list on top. Two formulas' code words in a row are worked out one after the other.
use Prim.Native.Nat.{ℕ, ◌≤◌}
use native.Mathlib.Omega.{arith}
use mathlib.Core.Path.{◌≡◌, refl, sym, ◌∙◌, ap}
use mathlib.Core.Bool.{Bool, true, false, cond}
use mathlib.Core.List.{List, [], ◌∷◌, ◌++◌}
use mathlib.Core.Logic.{◌⊎◌, inl, inr}
use lib.ListN.{length}
use Rattle.slices.specs.Bytes.{Bytes, Words}
use Rattle.signals.specs.Words.{list_fault}
use Rattle.signals.proofs.FirstFault.{both_none}
use Rattle.grammar.specs.Formula.{formula_fault, formula_tree, code_of}
use Rattle.format.specs.Reading.{sheet_fault}
use Rattle.calls.specs.OnSheet.{names_found}
use Rattle.calls.specs.Calls.{reading_fault, parts_fault, working_fault, words_on}
use Rattle.machine.specs.Machine.{placed_codes}
use Rattle.machine.specs.Stack.{Runs, Worked, lacking, high, leaf, made, refused}
use Rattle.machine.proofs.Preparing.{known_tree, lengths_small, code_is, code_short}
use Rattle.machine.proofs.Tracing.{trace_code, work_all}
use Rattle.machine.proofs.Running.{run}

-- a formula read without a fault
pub read_fine : (sheet text : List ℕ) → reading_fault sheet text ≡ 0
    → (formula_fault text ≡ 0) × (names_found sheet (formula_tree text) ≡ true)
unfolding reading_fault
read_fine sheet text z = let q = both_none (formula_fault text) _ z in (q.0, named (names_found sheet (formula_tree text)) q.1)
  where
    named : (b : Bool) → ◌≡◌ {A = ℕ} (cond b 0 13) 0 → b ≡ true
    named true h = refl
    named false h = absurd (omega arith)

-- what its code words leave on the stack
pub record Left (sheet text : List ℕ) (base : List (List ℕ)) (fault : ℕ) (end : List (List ℕ)) : Type 0 where
  pub fault_is : fault ≡ working_fault sheet text
  pub stack_is : fault ≡ 0 → end ≡ words_on sheet text ∷ base
  pub accepted : fault ≡ 0 → list_fault (words_on sheet text) ≡ 0
  pub small : fault ≡ 0 → Words (words_on sheet text)

pub formula_ran : (sheet text : List ℕ) → sheet_fault sheet ≡ 0 → Bytes sheet → reading_fault sheet text ≡ 0
    → (base : List (List ℕ)) → length base ≤ 1 → (fault : ℕ) (end : List (List ℕ))
    → Runs sheet (placed_codes sheet text) base fault end → Left sheet text base fault end
unfolding working_fault words_on
formula_ran sheet text ok bytes read base low fault end r =
    let f = read_fine sheet text read in
    let known = known_tree sheet ok (formula_tree text) f.1 (lengths_small text f.0) in
    let q = run sheet text ok bytes base low (code_of text) [] (formula_tree text) fault end (omega (arith, code_short text f.0))
    (rw (code_is text f.0) (work_all (formula_tree text))) (rw (code_is text f.0) known) tt r in
    record {
      fault_is = q.fault_is ∙ rw (code_is text f.0) (ap (parts_fault sheet) (trace_code (formula_tree text)));
      stack_is = λ z. (q.stack_is z).0;
      accepted = λ z. (q.stack_is z).1.0;
      small = λ z. (q.stack_is z).1.1;
    }

-- code words in a row
pub record Both (sheet ws vs : List ℕ) (st : List (List ℕ)) (fault : ℕ) (end : List (List ℕ)) : Type 0 where
  pub middle : List (List ℕ)
  pub ran : (Runs sheet ws st 0 middle × Runs sheet vs middle fault end) ⊎ ((fault ≡ 0 → ⊥) × Runs sheet ws st fault middle)

pub in_a_row : (sheet ws vs : List ℕ) (st : List (List ℕ)) (fault : ℕ) (end : List (List ℕ)) → Runs sheet (ws ++ vs) st fault end
    → Both sheet ws vs st fault end
in_a_row sheet [] vs st fault end r = record { middle = st; ran = inl ((refl, refl), r) }
in_a_row sheet (w ∷ ws) vs st fault end r = go r (λ next q. in_a_row sheet ws vs next fault end q)
  where
    stop : ((f : ℕ) (later : List (List ℕ) → Type 0) → f ≡ fault → Worked sheet w st f later) → (fault ≡ 0 → ⊥)
        → Both sheet (w ∷ ws) vs st fault end
    stop q x = record { middle = st; ran = inr (x, q _ _ refl) }

    on : (next : List (List ℕ)) → ((f : ℕ) (later : List (List ℕ) → Type 0) → later next → Worked sheet w st f later)
        → Both sheet ws vs next fault end → Both sheet (w ∷ ws) vs st fault end
    on next q b = record { middle = b.middle; ran = each b.ran }
      where
        each : (Runs sheet ws next 0 b.middle × Runs sheet vs b.middle fault end) ⊎ ((fault ≡ 0 → ⊥) × Runs sheet ws next fault
            b.middle)
            → (Runs sheet (w ∷ ws) st 0 b.middle × Runs sheet vs b.middle fault end)
            ⊎ ((fault ≡ 0 → ⊥) × Runs sheet (w ∷ ws) st fault b.middle)
        each (inl h) = inl (q _ _ h.0, h.1)
        each (inr h) = inr (h.0, q _ _ h.1)

    go : Worked sheet w st fault (λ next. Runs sheet (ws ++ vs) next fault end)
        → ((next : List (List ℕ)) → Runs sheet (ws ++ vs) next fault end → Both sheet ws vs next fault end)
        → Both sheet (w ∷ ws) vs st fault end
    go (lacking h e) again = stop (λ f l q. lacking h (q ∙ e)) (λ z. absurd (omega arith))
    go (high n h e) again = stop (λ f l q. high n h (q ∙ e)) (λ z. absurd (omega arith))
    go (leaf n h l) again = on _ (λ f m q. leaf n h q) (again _ l)
    go (made answer l h i p z q) again = on _ (λ f m r. made answer l h i p z r) (again _ q)
    go (refused answer l h i p z x) again = stop (λ f m q. refused answer l h i p (z ∙ sym q) (λ y. x (sym q ∙ y))) x
