-- Reading a formula for a sheet: its code words, its names on the sheet, its lengths.
use Prim.Native.Nat.{ℕ, zero, suc, ◌/◌, ◌%◌, ◌≤◌}
use native.Mathlib.Decide.{ℕ_discrete}
use native.Mathlib.Omega.{arith}
use mathlib.Core.Path.{◌≡◌, refl, sym, ◌∙◌, ap, ap₂}
use mathlib.Core.Bool.{Bool, true, false, cond, not, ◌&&◌, ◌||◌, and_assoc, and-true}
use mathlib.Core.List.{List, [], ◌∷◌, ◌++◌, map}
use lib.Dec.{eqb, ltb}
use lib.ListN.{length, length-map}
use borrow.Author.Tests.{ltb-false, eq-eqb, ne_eqb}
use Rattle.signals.specs.Moment.{M}
use Rattle.signals.proofs.Truth.{and_left, and_right}
use Rattle.grammar.specs.Kinds as kinds
use Rattle.grammar.specs.Tree.{Tree, Leaf, leaf, unary, binary, down, up, name}
use Rattle.grammar.specs.Code.{Part, one, two, code, longest}
use Rattle.grammar.specs.Formula.{code_of, formula_fault, formula_tree, longest_of, parts_of, depth_of, accepted}
use Rattle.grammar.specs.PartWords.{part_of}
use Rattle.grammar.proofs.Coding.{code_exact}
use Rattle.grammar.proofs.Reading.{reader_exact, parts_exact, longest_of_lem}
use Rattle.grammar.proofs.Faults.{fine_of}
use Rattle.names.specs.Names.{well_named}
use Rattle.format.specs.Names.{same, among}
use Rattle.format.specs.Reading.{sheet_fault, signals_on, names, Entry, name_of}
use Rattle.format.specs.Calls.{lookup_fault, byte_count, place_of, place_judged}
use Rattle.format.proofs.Judged.{judged_accepted}
use Rattle.slices.specs.Bytes.{Bytes}
use Rattle.format.proofs.Steps.{same_equal}
use Rattle.calls.specs.OnSheet.{names_found, leaf_found}
use Rattle.calls.proofs.FirstFault.{passed}
use Rattle.calls.proofs.ReadingFaults.{derived}
use Rattle.format.proofs.SheetLists.{AllSound, sheet_sound}
use Rattle.code_words.specs.CodeWords.{operands_of}
use Rattle.machine.specs.Machine.{placed_name, placed_word, placed_codes, word_found, all_found}
use Rattle.machine.proofs.KnownParts.{leaf_of, leaf_looked, part_looked, all_looked, AllKnown}
use Rattle.machine.proofs.Leaves.{leaf_name, leaf_up, leaf_down, name_kind, name_count, same_word, placed_name_lem, found_plain}
use Rattle.machine.proofs.Leaves.{part_some, part_missing}
use Rattle.machine.proofs.PartCodes.{part_leaf, part_one, part_two, name_none, arity_small}
use Rattle.signals.specs.Answers.{first_of}

-- names on an accepted sheet are names
named_well : (n : List ℕ) (es : List Entry) → AllSound es → among n (names es) ≡ true → well_named n ≡ true
unfolding among names
named_well n [] s h = absurd (let z : ◌≡◌ {A = ℕ} 1 0 = ap (λ b. cond b 0 1) h in omega arith)
named_well n (e ∷ es) s h = go (same (name_of e) n) refl h (λ k. named_well n es s.1 k)
  where
    go : (b : Bool) → same (name_of e) n ≡ b → (b || among n (names es)) ≡ true → (among n (names es) ≡ true → well_named n ≡ true)
        → well_named n ≡ true
    go true q k r = rw (same_equal (name_of e) n q) at s.0.named
    go false q k r = r k

-- so a lookup finds a name exactly when the sheet has it
pub looked : (sheet n : List ℕ) → sheet_fault sheet ≡ 0 → eqb (lookup_fault sheet n) 0 ≡ among n (names (signals_on sheet))
unfolding lookup_fault first_of
looked sheet n ok = go (among n (names (signals_on sheet))) (well_named n) refl refl
  where
    go : (a w : Bool) → among n (names (signals_on sheet)) ≡ a → well_named n ≡ w → eqb (lookup_fault sheet n) 0 ≡ among n
        (names (signals_on sheet))
    go true true p q = rw (ok, q, p)
    go true false p q = absurd (let z : ◌≡◌ {A = ℕ} 0 1 = ap (λ b. cond b 0 1)
        (sym (named_well n (signals_on sheet) (sheet_sound sheet ok) p) ∙ q) in omega arith)
    go false true p q = rw (ok, q, p)
    go false false p q = rw (ok, q, p)

-- the parts of a tree and their names
looked_append : (sheet : List ℕ) (ps qs : List Part) → all_looked sheet (ps ++ qs) ≡ (all_looked sheet ps && all_looked sheet qs)
unfolding all_looked
looked_append sheet [] qs = refl
looked_append sheet (p ∷ ps) qs = ap (λ b. part_looked sheet p && b) (looked_append sheet ps qs) ∙ sym
    (and_assoc (part_looked sheet p) (all_looked sheet ps) (all_looked sheet qs))

looked_leaf : (sheet : List ℕ) → sheet_fault sheet ≡ 0 → (l : Leaf) → leaf_looked sheet l ≡ leaf_found sheet l
looked_leaf sheet ok down = refl
looked_leaf sheet ok up = refl
looked_leaf sheet ok (name n) = looked sheet n ok

pub looked_tree : (sheet : List ℕ) → sheet_fault sheet ≡ 0 → (t : Tree) → all_looked sheet (code t) ≡ names_found sheet t
unfolding all_looked code names_found
looked_tree sheet ok (leaf l) = and-true (leaf_looked sheet l) ∙ looked_leaf sheet ok l
looked_tree sheet ok (unary o t) = looked_append sheet (code t) (one o ∷ []) ∙ ap (λ b. b && true) (looked_tree sheet ok t) ∙ and-true
    (names_found sheet t)
looked_tree sheet ok (binary o t u) =
    looked_append sheet (code t) (code u ++ (two o ∷ []))
    ∙ ap (λ b. all_looked sheet (code t) && b) (looked_append sheet (code u) (two o ∷ []) ∙ and-true (all_looked sheet (code u)))
    ∙ rw (looked_tree sheet ok t, looked_tree sheet ok u)

known_append : (sheet : List ℕ) (ps qs : List Part) → AllKnown sheet ps → AllKnown sheet qs → AllKnown sheet (ps ++ qs)
known_append sheet [] qs a b = b
known_append sheet (p ∷ ps) qs a b = (a.0, known_append sheet ps qs a.1 b)

pub known_tree : (sheet : List ℕ) → sheet_fault sheet ≡ 0 → (t : Tree) → names_found sheet t ≡ true → longest t ≤ M → AllKnown sheet
    (code t)
unfolding code names_found longest
known_tree sheet ok (leaf down) f l = (tt, tt)
known_tree sheet ok (leaf up) f l = (tt, tt)
known_tree sheet ok (leaf (name n)) f l = ((named_well n (signals_on sheet) (sheet_sound sheet ok) f, f), tt)
known_tree sheet ok (unary o t) f l = known_append sheet (code t) (one o ∷ []) (known_tree sheet ok t f (omega arith)) (omega arith, tt)
known_tree sheet ok (binary o t u) f l =
    known_append sheet (code t) (code u ++ (two o ∷ []))
    (known_tree sheet ok t (and_left (names_found sheet t) (names_found sheet u) f) (omega arith))
    (known_append sheet (code u) (two o ∷ []) (known_tree sheet ok u (and_right (names_found sheet t) (names_found sheet u) f)
    (omega arith))
    (tt, tt))

-- an accepted formula: its tree, its code words
module _ (text : List ℕ) (fine : formula_fault text ≡ 0) where
  tree_read : (d : ℕ) × ((formula_tree text ≡ (derived text fine).0) × (depth_of text ≡ d))
  tree_read = let d = derived text fine in let r = (reader_exact text d.0 d.1).0 d.2 in (d.1, (r.1, r.2))

  pub code_is : map (part_of text) (code_of text) ≡ code (formula_tree text)
  code_is =
      let d = derived text fine in
      code_exact text d.0 d.1 d.2 (fine_of text fine).near ∙ ap code (sym tree_read.1.0)

  clear : (longest_of text ≤ M) × (length (parts_of text) ≤ 32)
  unfolding formula_fault
  clear =
      let a = passed (eqb (length text) 0 || ltb 1024 (length text)) 10 _ (omega arith) fine in
      let b = passed (not (accepted text)) 11 _ (omega arith) a.1 in
      let c = passed (ltb M (longest_of text)) 8 _ (omega arith) b.1 in
      let d = passed (ltb 32 (length (parts_of text)) || ltb 16 (depth_of text)) 12 _ (omega arith) c.1 in (
        ltb-false M (longest_of text) c.0,
        ltb-false 32 (length (parts_of text))
            (or_none (ltb 32 (length (parts_of text))) (ltb 16 (depth_of text)) d.0),
      )
    where
      or_none : (a b : Bool) → (a || b) ≡ false → a ≡ false
      or_none true b h = h
      or_none false b h = refl

  pub lengths_small : longest (formula_tree text) ≤ M
  lengths_small =
      let d = derived text fine in
      let l : longest_of text ≡ longest d.0 = longest_of_lem text d.0 d.1 d.2 in
      rw tree_read.1.0 (omega (arith, clear.0))

  pub code_short : length (code_of text) ≤ 32
  code_short =
      let d = derived text fine in
      let p : parts_of text ≡ code (formula_tree text) = parts_exact text d.0 d.1 d.2 ∙ ap code (sym tree_read.1.0) in
      let m : length (code_of text) ≡ length (parts_of text) = sym (length-map (code_of text) (part_of text)) ∙ ap length
      (code_is ∙ sym p) in
      omega (arith, clear.1)

-- a code word's name is found on an accepted sheet exactly where a lookup finds it
looked_other : (sheet text : List ℕ) (w : ℕ) → (w % 16 ≡ kinds.NAME → ⊥) → true ≡ part_looked sheet (part_of text w)
looked_other sheet text w ne = go (operands_of w) refl (arity_small (w % 16))
  where
    leafy : Dec (w % 16 ≡ kinds.UP) → true ≡ leaf_looked sheet (leaf_of text w)
    leafy (yes e) = rw (leaf_up text w e)
    leafy (no x) = rw (leaf_down text w ne x)

    go : (k : ℕ) → operands_of w ≡ k → k ≤ 2 → true ≡ part_looked sheet (part_of text w)
    go zero e h = rw (part_leaf text w e) (leafy (ℕ_discrete (w % 16) kinds.UP))
    go (suc zero) e h = rw (part_one text w e)
    go (suc (suc zero)) e h = rw (part_two text w e)
    go (suc (suc (suc k))) e h = absurd (omega arith)

module _ (sheet text : List ℕ) (ok : sheet_fault sheet ≡ 0) (bytes : Bytes sheet) where
  found_name : (n : List ℕ) → word_found (placed_name (place_judged sheet n)) ≡ eqb (lookup_fault sheet n) 0
  unfolding word_found
  found_name n = rw (judged_accepted sheet n ok) (go (ℕ_discrete (lookup_fault sheet n) 0))
    where
      go : Dec (lookup_fault sheet n ≡ 0)
          → not (eqb (placed_name (place_of sheet n) % 16) kinds.NAME && eqb (placed_name (place_of sheet n) / 16 % 512) 0)
          ≡ eqb (lookup_fault sheet n) 0
      go (yes z) =
          rw (name_kind (place_of sheet n), name_count (place_of sheet n), eq-eqb _ _ z)
          (ap not (ne_eqb (byte_count (place_of sheet n) / 4 % 512) 0 (λ e. absurd (omega (
            arith,
            (part_some sheet n bytes z).0,
            (part_some sheet n bytes z).1,
          )))))
      go (no x) = rw (name_kind (place_of sheet n), name_count (place_of sheet n), ne_eqb _ _ x, part_missing sheet n x)

  found_word : (w : ℕ) → word_found (placed_word sheet text w) ≡ part_looked sheet (part_of text w)
  found_word w = go (ℕ_discrete (w % 16) kinds.NAME)
    where
      go : Dec (w % 16 ≡ kinds.NAME) → word_found (placed_word sheet text w) ≡ part_looked sheet (part_of text w)
      go (yes e) = rw (placed_name_lem sheet text w e, part_leaf text w (name_none (w % 16) e), leaf_name text w e) (found_name _)
      go (no x) = rw (same_word sheet text w x) (found_plain w x ∙ looked_other sheet text w x)

  found_words : (ws : List ℕ) → all_found (map (placed_word sheet text) ws) ≡ all_looked sheet (map (part_of text) ws)
  unfolding all_found all_looked
  found_words [] = refl
  found_words (w ∷ ws) = ap₂ ◌&&◌ (found_word w) (found_words ws)

  pub names_found_lem : formula_fault text ≡ 0 → all_found (placed_codes sheet text) ≡ names_found sheet (formula_tree text)
  names_found_lem fine = found_words (code_of text) ∙ ap (all_looked sheet) (code_is text fine) ∙ looked_tree sheet ok (formula_tree text)
