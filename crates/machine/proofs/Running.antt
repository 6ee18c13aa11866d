-- The code words of a formula, worked out on a stack of lists, meet the faults of its parts in working-out order and leave its list on the
-- stack: each list there is that of the tree in its place.
use Prim.Native.Nat.{ℕ, zero, suc, ◌+◌, ◌/◌, ◌%◌, ◌≤◌}
use native.Mathlib.Omega.{arith}
use mathlib.Core.Path.{◌≡◌, refl, sym, ◌∙◌, ap}
use mathlib.Core.List.{List, [], ◌∷◌, ◌++◌, map}
use lib.ListN.{length, length-map, length-append}
use Rattle.slices.specs.Bytes.{Bytes, Words}
use Rattle.signals.specs.Words.{list_fault}
use Rattle.signals.specs.Answers.{first_of, fault_in}
use Rattle.signals.specs.declared.Written.{Written}
use Rattle.signals.proofs.FirstFault.{first_is}
use Rattle.grammar.specs.Tree.{Tree, leaf, unary, binary}
use Rattle.grammar.specs.Code.{work, top, ticks_of}
use Rattle.signals.specs.Moment.{M}
use Rattle.grammar.specs.PartWords.{part_of}
use Rattle.format.specs.Reading.{sheet_fault}
use Rattle.operations.specs.Calls.{part_fault}
use Rattle.calls.specs.OnSheet.{exact_on}
use Rattle.calls.specs.Calls.{parts_fault}
use Rattle.code_words.specs.CodeWords.{arity, operands_of}
use Rattle.applying.specs.PartCalls.{unary_of, binary_of, exact_for}
use Rattle.applying.specs.Applied.{Applied}
use Rattle.applying.proofs.AppliedExact.{applied_exact}
use Rattle.machine.specs.Machine.{placed_word}
use Rattle.machine.specs.Stack.{Runs, Worked, lacking, high, leaf, made, refused}
use Rattle.machine.proofs.KnownParts.{leaf_of, Known, AllKnown}
use Rattle.machine.proofs.Exact.{unary_exact_lem, binary_exact_lem, accepted_part, words_part}
use Rattle.machine.proofs.Leaves.{leaf_words_lem, leaf_fault, same_kind, same_word}
use Rattle.machine.proofs.PartCodes.{part_leaf, part_one, part_two, arity_small, name_none}
use Rattle.machine.proofs.Applying.{judged_one, exact_one, judged_two, exact_two}
use Rattle.machine.proofs.Tracing.{worked, Enough, trace, work_step, low_enough, grows_by_one}

module _ (sheet text : List ℕ) (ok : sheet_fault sheet ≡ 0) (bytes : Bytes sheet) (base : List (List ℕ)) (below : length base ≤ 1) where
  abbrev lists : List Tree → List (List ℕ)
  lists ts = map (exact_on sheet) ts ++ base

  height : (ts : List Tree) → length (lists ts) ≡ length ts + length base
  height ts = length-append (map (exact_on sheet) ts) base ∙ ap (λ n. n + length base) (length-map ts (exact_on sheet))

  abbrev Fine : List Tree → Type 0
  Fine [] = Unit {0}
  Fine (t ∷ ts) = (list_fault (exact_on sheet t) ≡ 0) × Words (exact_on sheet t) × Fine ts

  fine_part : (t : Tree) (ts : List Tree) → part_fault (exact_on sheet t) ≡ 0 → Fine ts → Fine (t ∷ ts)
  fine_part t ts z a = (accepted_part sheet ok t z, words_part (exact_on sheet t) z, a)

  -- one part, on lists as on trees: it goes on, or its fault ends it all
  data Steps (c : ℕ) (ts : List Tree) (fault : ℕ) (later : List (List ℕ) → Type 0) : Type 0 where
    goes : part_fault (exact_on sheet (top (worked (part_of text c) ts))) ≡ 0 → later (lists (worked (part_of text c) ts))
        → Fine (worked (part_of text c) ts) → Steps c ts fault later
    stops : fault ≡ part_fault (exact_on sheet (top (worked (part_of text c) ts))) → (fault ≡ 0 → ⊥) → Steps c ts fault later

  module _ (c fault : ℕ) (later : List (List ℕ) → Type 0) where
    on_leaf : operands_of c ≡ 0 → (ts : List Tree) → length ts ≤ 16 → Known sheet (part_of text c) → Fine ts
        → Worked sheet (placed_word sheet text c) (lists ts) fault later → Steps c ts fault later
    on_leaf e ts low k a r = go r
      where
        none : operands_of (placed_word sheet text c) ≡ 0
        none = ap arity (same_kind sheet text c) ∙ e

        go : Worked sheet (placed_word sheet text c) (lists ts) fault later → Steps c ts fault later
        go (lacking h f) = absurd (omega (arith, none))
        go (high z h f) = absurd (omega (arith, height ts))
        go (leaf z h l) =
            let known = rw (part_leaf text c e) at k in
            let fine = leaf_fault sheet (leaf_of text c) ok bytes known in
            goes (rw (part_leaf text c e) fine) (rw (part_leaf text c e) (rw (leaf_words_lem sheet text c ok bytes known) at l))
            (rw (part_leaf text c e) (fine_part _ ts fine a))
        go (made answer l h i p z n) = absurd (omega (arith, none))
        go (refused answer l h i p z n) = absurd (omega (arith, none))

    -- an operation's code word is the same with places
    plain : (n : ℕ) → operands_of c ≡ suc n → placed_word sheet text c ≡ c
    plain n e = same_word sheet text c (λ k. absurd (let z = name_none (c % 16) k in omega arith))

    on_one : operands_of c ≡ 1 → (ts : List Tree) → Enough (part_of text c) ts → Known sheet (part_of text c) → Fine ts
        → Worked sheet (placed_word sheet text c) (lists ts) fault later → Steps c ts fault later
    on_one e [] n k a r = absurd (rw (part_one text c e) at n)
    on_one e (t ∷ ts) n k a r = go (rw (plain 0 e) at r)
      where
        known : ticks_of (unary_of (c % 16) (c / 16)) ≤ M
        known = rw (part_one text c e) at k

        exact : exact_for c (exact_on sheet t) (exact_on sheet t) ≡ exact_on sheet (unary (unary_of (c % 16) (c / 16)) t)
        exact = exact_one c (exact_on sheet t) (exact_on sheet t) e known ∙ unary_exact_lem sheet ok (unary_of (c % 16) (c / 16)) t a.0

        told : (answer : Written) (l : List ℕ) → Applied c (exact_on sheet t) (exact_on sheet t) answer l
            → (fault_in answer ≡ part_fault (exact_on sheet (unary (unary_of (c % 16) (c / 16)) t)))
            × (fault_in answer ≡ 0 → l ≡ exact_on sheet (unary (unary_of (c % 16) (c / 16)) t))
        told answer l p = rw exact at (applied_exact c _ _ answer l p (judged_one c _ _ e a.0 known) a.1 a.1)

        go : Worked sheet c (lists (t ∷ ts)) fault later → Steps c (t ∷ ts) fault later
        go (lacking h f) = absurd (omega arith)
        go (high z h f) = absurd (omega arith)
        go (leaf z h l) = absurd (omega arith)
        go (made answer l h i p z w) =
            let q = told answer l (rw e at p) in
            let fine : part_fault (exact_on sheet (unary (unary_of (c % 16) (c / 16)) t)) ≡ 0 = sym q.0 ∙ z in
            goes (rw (part_one text c e) fine) (rw (part_one text c e) (rw (e, q.1 z) at w))
            (rw (part_one text c e) (fine_part _ ts fine a.2))
        go (refused answer l h i p z w) =
            let q = told answer l (rw e at p) in
            stops (rw (part_one text c e) (sym z ∙ q.0)) w

    on_two : operands_of c ≡ 2 → (ts : List Tree) → Enough (part_of text c) ts → Fine ts
        → Worked sheet (placed_word sheet text c) (lists ts) fault later → Steps c ts fault later
    on_two e [] n a r = absurd (rw (part_two text c e) at n)
    on_two e (u ∷ []) n a r = absurd (rw (part_two text c e) at n)
    on_two e (u ∷ t ∷ ts) n a r = go (rw (plain 1 e) at r)
      where
        exact : exact_for c (exact_on sheet t) (exact_on sheet u) ≡ exact_on sheet (binary (binary_of (c % 16)) t u)
        exact = exact_two c (exact_on sheet t) (exact_on sheet u) e ∙ binary_exact_lem sheet ok (binary_of (c % 16)) t u a.2.0 a.0

        told : (answer : Written) (l : List ℕ) → Applied c (exact_on sheet t) (exact_on sheet u) answer l
            → (fault_in answer ≡ part_fault (exact_on sheet (binary (binary_of (c % 16)) t u)))
            × (fault_in answer ≡ 0 → l ≡ exact_on sheet (binary (binary_of (c % 16)) t u))
        told answer l p = rw exact at (applied_exact c _ _ answer l p (judged_two c _ _ e a.2.0 a.0) a.2.1 a.1)

        go : Worked sheet c (lists (u ∷ t ∷ ts)) fault later → Steps c (u ∷ t ∷ ts) fault later
        go (lacking h f) = absurd (omega arith)
        go (high z h f) = absurd (omega arith)
        go (leaf z h l) = absurd (omega arith)
        go (made answer l h i p z w) =
            let q = told answer l (rw e at p) in
            let fine : part_fault (exact_on sheet (binary (binary_of (c % 16)) t u)) ≡ 0 = sym q.0 ∙ z in
            goes (rw (part_two text c e) fine) (rw (part_two text c e) (rw (e, q.1 z) at w))
            (rw (part_two text c e) (fine_part _ ts fine a.2.2))
        go (refused answer l h i p z w) =
            let q = told answer l (rw e at p) in
            stops (rw (part_two text c e) (sym z ∙ q.0)) w

    steps : (ts : List Tree) → length ts ≤ 16 → Enough (part_of text c) ts → Known sheet (part_of text c) → Fine ts
        → Worked sheet (placed_word sheet text c) (lists ts) fault later → Steps c ts fault later
    steps = go (operands_of c) refl (arity_small (c % 16))
      where
        go : (k : ℕ) → operands_of c ≡ k → k ≤ 2 → (ts : List Tree) → length ts ≤ 16 → Enough (part_of text c) ts
            → Known sheet (part_of text c) → Fine ts → Worked sheet (placed_word sheet text c) (lists ts) fault later
            → Steps c ts fault later
        go zero e h ts low n k a r = on_leaf e ts low k a r
        go (suc zero) e h ts low n k a r = on_one e ts n k a r
        go (suc (suc zero)) e h ts low n k a r = on_two e ts n a r
        go (suc (suc (suc j))) e h ts low n k a r = absurd (omega arith)

  -- all the parts
  pub record Ran (cs : List ℕ) (ts : List Tree) (t : Tree) (fault : ℕ) (end : List (List ℕ)) : Type 0 where
    pub fault_is : fault ≡ parts_fault sheet (trace (map (part_of text) cs) ts)
    pub stack_is : fault ≡ 0 → (end ≡ exact_on sheet t ∷ base) × Fine (t ∷ [])

  pub run : (cs : List ℕ) (ts : List Tree) (t : Tree) (fault : ℕ) (end : List (List ℕ)) → length ts + length cs ≤ 32
      → work (map (part_of text) cs) ts ≡ t ∷ [] → AllKnown sheet (map (part_of text) cs) → Fine ts
      → Runs sheet (map (placed_word sheet text) cs) (lists ts) fault end → Ran cs ts t fault end
  unfolding trace parts_fault work first_of
  run [] ts t fault end few e k a r =
      record {
        fault_is = r.0;
        stack_is = λ z. (r.1 ∙ ap lists e, rw e at a);
      }
  run (c ∷ cs) ts t fault end few e k a r =
      let p = part_of text c in
      let on = work_step p (map (part_of text) cs) ts t e in
      let low = low_enough (p ∷ map (part_of text) cs) ts in
      let long = length-map cs (part_of text) in
      let tall = ap length e in
      let grows = grows_by_one p ts in
      go (steps c fault (λ next. Runs sheet (map (placed_word sheet text) cs) next fault end) ts (omega arith) on.0 k.0 a r)
      (λ b l. run cs (worked p ts) t fault end (omega arith) on.1 k.1 b l)
    where
      go : Steps c ts fault (λ next. Runs sheet (map (placed_word sheet text) cs) next fault end)
          → (Fine (worked (part_of text c) ts)
          → Runs sheet (map (placed_word sheet text) cs) (lists (worked (part_of text c) ts)) fault end
          → Ran cs (worked (part_of text c) ts) t fault end) → Ran (c ∷ cs) ts t fault end
      go (goes z l b) again =
          let q = again b l in
          record {
            fault_is = rw z q.fault_is;
            stack_is = q.stack_is;
          }
      go (stops z x) again =
          record {
            fault_is = z ∙ sym (first_is _ _ (λ q. x (z ∙ q)));
            stack_is = λ q. absurd (x q);
          }
