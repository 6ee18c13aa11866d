-- A name of an accepted sheet, as a formula: it is answered, and its words are the sheet's.
use Prim.Native.Nat.{ℕ}
use native.Mathlib.Omega.{arith}
use mathlib.Core.Path.{◌≡◌, refl, ◌∙◌, ap, subst}
use mathlib.Core.Bool.{true, false, cond, ◌&&◌}
use mathlib.Core.Logic.{⊎_elim}
use mathlib.Core.List.{List, [], ◌∷◌}
use lib.Dec.{leb}
use lib.ListN.{length}
use borrow.Author.Tests.{leb-true, le-ltb}
use Rattle.signals.specs.Signal.{constant}
use Rattle.signals.specs.Words.{date_of, list_fault, words_of, list_of, most_words}
use Rattle.signals.proofs.Truth.{and_left, down_of, not_both_lem}
use Rattle.signals.proofs.Normal.{accepted_normal, read_back_lem}
use Rattle.operations.specs.Calls.{changes_after_m, part_fault}
use Rattle.grammar.specs.Tree.{Tree, Leaf, leaf, unary, binary, down, up, name}
use Rattle.grammar.specs.Code.{code}
use Rattle.grammar.specs.Grammar.{Sum, Product, Factor}
use Rattle.grammar.specs.Formula.{formula_tree, formula_fault}
use Rattle.grammar.specs.Exactness.{LengthIn}
use Rattle.grammar.proofs.Reading.{tree_of_lem, one_tree}
use Rattle.grammar.proofs.Faults.{of_fine}
use Rattle.grammar.specs.Parts.{parts}
use Rattle.slices.specs.Bytes.{Bytes, Words}
use Rattle.names.specs.Names.{letter, all_of, name_byte, well_named}
use Rattle.format.specs.Names.{among}
use Rattle.format.specs.Reading.{sheet_fault, signals_on, names, list_named, environment_on}
use Rattle.calls.specs.OnSheet.{settling_date, exact_on, leaf_found, names_found}
use Rattle.calls.specs.TreesOnSheets.{TreesOnSheets}
use Rattle.calls.proofs.Settles.{settles, exact_for_lem}
use Rattle.calls.specs.Calls.{reading_fault, parts_fault, working_fault, words_on}
use Rattle.format.proofs.SheetLists.{sheet_sound, named_sound, named_words}
use Rattle.calls.proofs.PartFaults.{late_of}
use Rattle.calls.proofs.NotRefused.{Clear}
use Rattle.signals.proofs.FirstFault.{first_with_none, next_is}

-- words below 2^32 have no date past M
not_late_lem : (l : List ℕ) → Words l → changes_after_m l ≡ false
unfolding date_of
not_late_lem l h = down_of (changes_after_m l) (λ e. let w = late_of l e in omega (arith, w.2, h w.0))

-- a name as a formula
name_writes : (n : List ℕ) → well_named n ≡ true → Sum n (leaf (name n)) 0
name_writes n e = Sum.product (Product.factor (Factor.named e))

-- a leaf has no length
abbrev NoLeaf : Tree → Type 0
NoLeaf (leaf l) = ⊥
NoLeaf (unary o t) = Unit
NoLeaf (binary o t u) = Unit

no_leaf : {n : ℕ} {t : Tree} → LengthIn n t → NoLeaf t
no_leaf LengthIn.of_ton = tt
no_leaf LengthIn.of_tof = tt
no_leaf LengthIn.of_tp = tt
no_leaf (LengthIn.under h) = tt
no_leaf (LengthIn.first h) = tt
no_leaf (LengthIn.second h) = tt

name_fault : (n : List ℕ) → well_named n ≡ true → formula_fault n ≡ 0
unfolding well_named code
name_fault [] e = absurd (not_both_lem {A = ⊥} e refl)
name_fault (b ∷ bs) e =
    let l = leb-true (length (b ∷ bs)) 8 (and_left (leb (length (b ∷ bs)) 8) (letter b && all_of name_byte bs) e) in
    let w = name_writes (b ∷ bs) e in
    of_fine
    (b ∷ bs)
    (record {
      short = λ t. ⊎_elim (λ z. omega arith) (λ z. omega arith) t;
      written = λ x. x (leaf (name (b ∷ bs))) 0 w;
      near = λ x. subst NoLeaf (one_tree (b ∷ bs) x.0 (leaf (name (b ∷ bs))) x.1 0 x.3 w).0 (no_leaf x.4);
      few = λ x.
          let q = one_tree (b ∷ bs) x.0 (leaf (name (b ∷ bs))) x.1 0 x.2 w in
          let r : length (code x.0) ≡ 1 = ap (λ (y : Tree). length (code y)) q.0 in
          ⊎_elim (λ z. omega arith) (λ z. let k = q.1 in omega arith) x.3;
    })

-- the normal list of an accepted list's signal is that list
name_exact : (sheet n : List ℕ) → list_fault (list_named n (signals_on sheet)) ≡ 0
    → exact_on sheet (leaf (name n)) ≡ list_named n (signals_on sheet)
unfolding exact_on settling_date environment_on
name_exact sheet n a = (read_back_lem (list_named n (signals_on sheet)) ((accepted_normal (list_named n (signals_on sheet))).0 a).0).same

accepted_fine : (l : List ℕ) → list_fault l ≡ 0 → changes_after_m l ≡ false → part_fault l ≡ 0
unfolding part_fault
accepted_fine l a e = rw (le-ltb most_words (length l) ((accepted_normal l).0 a).1, e) refl

name_parts : (sheet n : List ℕ) → part_fault (exact_on sheet (leaf (name n))) ≡ 0 → parts_fault sheet (parts (leaf (name n))) ≡ 0
unfolding parts_fault parts
name_parts sheet n e = first_with_none (part_fault (exact_on sheet (leaf (name n)))) ∙ e

text_clear : (sheet n : List ℕ) → formula_fault n ≡ 0 → formula_tree n ≡ leaf (name n) → among n (names (signals_on sheet)) ≡ true
    → reading_fault sheet n ≡ 0
unfolding reading_fault names_found
text_clear sheet n f t e = next_is (formula_fault n) (cond (names_found sheet (formula_tree n)) 0 13) f ∙ rw (t, e) refl

-- names and constants meet neither 5 nor 6
name_fine : (sheet n : List ℕ) → Words (list_named n (signals_on sheet)) → sheet_fault sheet ≡ 0 → among n (names (signals_on sheet)) ≡ true
    → part_fault (exact_on sheet (leaf (name n))) ≡ 0
name_fine sheet n small ok e =
    let l = list_named n (signals_on sheet) in
    let a = (named_sound n (signals_on sheet) (sheet_sound sheet ok) e).1 in
    ap part_fault (name_exact sheet n a) ∙ accepted_fine l a (not_late_lem l small)

leaf_fine : (sheet : List ℕ) → Bytes sheet → sheet_fault sheet ≡ 0 → (l : Leaf) → leaf_found sheet l ≡ true
    → part_fault (exact_on sheet (leaf l)) ≡ 0
unfolding part_fault changes_after_m date_of exact_on settling_date list_of words_of constant
leaf_fine sheet small ok down e = refl
leaf_fine sheet small ok up e = refl
leaf_fine sheet small ok (name n) e = name_fine sheet n (named_words sheet n small) ok e

pub trees_on_sheets : TreesOnSheets
trees_on_sheets = record { settles = settles; exact = exact_for_lem; leaves = leaf_fine }

-- a name of the sheet as a formula
pub record NameServed (sheet n : List ℕ) : Type 0 where
  pub clear : Clear sheet n
  pub same_words : words_on sheet n ≡ list_named n (signals_on sheet)

pub name_served : (sheet n : List ℕ) → Words (list_named n (signals_on sheet)) → sheet_fault sheet ≡ 0
    → among n (names (signals_on sheet)) ≡ true → NameServed sheet n
unfolding working_fault words_on
name_served sheet n small ok e =
    let l = list_named n (signals_on sheet) in
    let s = named_sound n (signals_on sheet) (sheet_sound sheet ok) e in
    let t : formula_tree n ≡ leaf (name n) = tree_of_lem n (leaf (name n)) 0 (name_writes n s.0) in
    let x : exact_on sheet (leaf (name n)) ≡ l = name_exact sheet n s.1 in
    let z = name_fine sheet n small ok e in
    record {
      clear = record {
        sheet_ok = ok;
        text_ok = text_clear sheet n (name_fault n s.0) t e;
        parts_ok = rw t (name_parts sheet n z);
      };
      same_words = rw t x;
    }
