-- Small cases worked out: the formulas 1, 0 and !1 on the empty sheet.
use Prim.Native.Nat.{ℕ}
use native.Mathlib.Omega.{arith}
use mathlib.Core.Path.{◌≡◌, refl, ◌∙◌, ap}
use mathlib.Core.Bool.{true, cond}
use mathlib.Core.List.{List, [], ◌∷◌}
use Rattle.signals.specs.Moment.{is_gap, tick}
use Rattle.signals.specs.Signal.{constant, NOT, refuted}
use Rattle.signals.specs.Words.{date_of, words_of, list_of}
use Rattle.signals.specs.Implication.{earliest, earliest_up_to, fails_in, first_span}
use Rattle.signals.specs.declared.End.TheVariants.{Never}
use Rattle.signals.specs.declared.Verdict.TheVariants.{FailsAfter}
use Rattle.operations.specs.Calls.{changes_after_m, part_fault}
use Rattle.grammar.specs.Tree as tree
use Rattle.grammar.specs.Tree.{Tree}
use Rattle.names.specs.Names.{letter, digit, name_byte}
use Rattle.grammar.specs.Grammar.{Writes, Sum, Product, Factor}
use Rattle.grammar.specs.Reader.{run, next, bad, stepped, expect, put, prefix_kind, starts, block_kind, block_bytes, block_at, leaf_at}
use Rattle.grammar.specs.Reader.{sum_at}
use Rattle.grammar.specs.Reader.{sums_at, product_at, products_at, factor_at, read_text}
use Rattle.grammar.specs.Formula.{accepted, parts_of, formula_tree, depth_of, longest_of, formula_fault}
use Rattle.grammar.proofs.Reading.{tree_of_lem}
use Rattle.grammar.specs.Parts.{parts}
use Rattle.slices.specs.Bytes.{low16}
use Rattle.format.specs.Names.{same}
use Rattle.format.specs.Reading.{signals_fault, front_fault, count_on, sheet_fault}
use Rattle.calls.specs.OnSheet.{settling_date, exact_on, names_found}
use Rattle.calls.specs.Calls.{needed_work, reading_fault, parts_fault, working_fault, words_on, claim_fails, claim_verdict, work_words}
use Rattle.calls.specs.Answered.{Answered, Enough}
use Rattle.calls.proofs.NotRefused.{Clear, clear_answered}
use Rattle.signals.specs.Answers.{first_of, end_of}
use Rattle.signals.proofs.FirstFault.{next_is}

-- SGL 1 0 0 0
abbrev pub empty_sheet : List ℕ
empty_sheet = 83 ∷ 71 ∷ 76 ∷ 1 ∷ 0 ∷ 0 ∷ 0 ∷ []

-- 1, 0 and !1
abbrev pub one : List ℕ
one = 49 ∷ []

abbrev pub none : List ℕ
none = 48 ∷ []

abbrev pub not_one : List ℕ
not_one = 33 ∷ 49 ∷ []

abbrev pub up : Tree
up = tree.Tree.leaf tree.Leaf.up

abbrev pub down : Tree
down = tree.Tree.leaf tree.Leaf.down

pub one_writes : Writes one up 0
one_writes = Sum.product (Product.factor Factor.one)

pub none_writes : Writes none down 0
none_writes = Sum.product (Product.factor Factor.zero)

pub not_one_writes : Writes not_one (tree.Tree.unary tree.Unary.invert up) 1
not_one_writes = Sum.product (Product.factor (Factor.inverted Factor.one))

empty_fine : sheet_fault empty_sheet ≡ 0
unfolding sheet_fault front_fault signals_fault count_on low16 same first_of
empty_fine = refl

one_fine : formula_fault one ≡ 0
unfolding formula_fault accepted longest_of parts_of depth_of read_text sum_at sums_at product_at products_at factor_at leaf_at next
    stepped put bad
    expect prefix_kind starts block_kind block_bytes block_at letter digit name_byte run
one_fine = refl

none_fine : formula_fault none ≡ 0
unfolding formula_fault accepted longest_of parts_of depth_of read_text sum_at sums_at product_at products_at factor_at leaf_at next
    stepped put bad
    expect prefix_kind starts block_kind block_bytes block_at letter digit name_byte run
none_fine = refl

not_one_fine : formula_fault not_one ≡ 0
unfolding formula_fault accepted longest_of parts_of depth_of read_text sum_at sums_at product_at products_at factor_at leaf_at next
    stepped put bad
    expect prefix_kind starts block_kind block_bytes block_at letter digit name_byte run
not_one_fine = refl

-- a formula is clear when its tree is, and its words are its tree's list
pub tree_clear : (sheet formula : List ℕ) (t : Tree) (d : ℕ) → sheet_fault sheet ≡ 0 → Writes formula t d → formula_fault formula ≡ 0
    → names_found sheet t ≡ true → parts_fault sheet (parts t) ≡ 0 → Clear sheet formula
unfolding reading_fault working_fault
tree_clear sheet formula t d ok w f n p =
    record {
      sheet_ok = ok;
      text_ok = next_is (formula_fault formula) (cond (names_found sheet (formula_tree formula)) 0 13) f ∙ rw
          (tree_of_lem formula t d w, n) refl;
      parts_ok = rw (tree_of_lem formula t d w) p;
    }

pub tree_words : (sheet formula : List ℕ) (t : Tree) (d : ℕ) → Writes formula t d → words_on sheet formula ≡ exact_on sheet t
unfolding words_on
tree_words sheet formula t d w = ap (exact_on sheet) (tree_of_lem formula t d w)

one_clear : Clear empty_sheet one
unfolding names_found parts_fault parts part_fault first_of changes_after_m date_of exact_on settling_date list_of words_of constant
one_clear = tree_clear empty_sheet one up 0 empty_fine one_writes one_fine refl refl

none_clear : Clear empty_sheet none
unfolding names_found parts_fault parts part_fault first_of changes_after_m date_of exact_on settling_date list_of words_of constant
none_clear = tree_clear empty_sheet none down 0 empty_fine none_writes none_fine refl refl

not_one_clear : Clear empty_sheet not_one
unfolding names_found parts_fault parts part_fault first_of changes_after_m date_of exact_on settling_date list_of words_of constant NOT
not_one_clear = tree_clear empty_sheet not_one (tree.Tree.unary tree.Unary.invert up) 1 empty_fine not_one_writes not_one_fine refl refl

-- they are answered
pub one_answered : Answered empty_sheet one
one_answered = clear_answered empty_sheet one one_clear

pub none_answered : Answered empty_sheet none
none_answered = clear_answered empty_sheet none none_clear

pub not_one_answered : Answered empty_sheet not_one
not_one_answered = clear_answered empty_sheet not_one not_one_clear

-- 1 gives [1], !1 gives [0] and its operand [1]
pub one_words : words_on empty_sheet one ≡ 1 ∷ []
unfolding exact_on settling_date list_of words_of constant
one_words = tree_words empty_sheet one up 0 one_writes

pub not_one_words : words_on empty_sheet not_one ≡ 0 ∷ []
unfolding exact_on settling_date list_of words_of constant NOT
not_one_words = tree_words empty_sheet not_one (tree.Tree.unary tree.Unary.invert up) 1 not_one_writes

pub up_words : exact_on empty_sheet up ≡ 1 ∷ []
unfolding exact_on settling_date list_of words_of constant
up_words = refl

-- enough for one word
pub enough_of : (formula : List ℕ) (w v : ℕ) → words_on empty_sheet formula ≡ w ∷ [] → Enough empty_sheet formula work_words (v ∷ [])
unfolding needed_work
enough_of formula w v e = record { area = omega arith; room = rw e (omega arith) }

-- 1 to 0 fails after 0 for good
pub one_to_none : claim_verdict empty_sheet up down ≡ FailsAfter 0 Never
unfolding claim_fails settling_date first_span earliest_up_to earliest NOT refuted constant fails_in end_of is_gap tick
one_to_none = refl
