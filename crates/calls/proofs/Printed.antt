-- The printed case of document 01, worked out from the definitions.
use Prim.Native.Nat.{ℕ, ◌≤◌}
use native.Mathlib.Omega.{arith}
use mathlib.Core.Path.{◌≡◌, refl, ◌∙◌}
use mathlib.Core.Bool.{true}
use mathlib.Core.List.{List, [], ◌∷◌}
use lib.ListN.{length}
use Rattle.signals.specs.Moment.{is_gap, tick, started, from_to}
use Rattle.signals.specs.Signal.{every, NOT, TON, refuted}
use Rattle.signals.specs.Words.{word, date_of, value_at, value_after, head_value, changes_nothing, value_from, signal_of, last_from}
use Rattle.signals.specs.Words.{last_date}
use Rattle.signals.specs.Words.{words_of, list_of}
use Rattle.signals.specs.Implication.{earliest, earliest_up_to, fails_in, first_span}
use Rattle.signals.specs.declared.End.TheVariants.{Before}
use Rattle.signals.specs.declared.Verdict.TheVariants.{FailsAt}
use Rattle.operations.specs.Calls.{changes_after_m, part_fault}
use Rattle.grammar.specs.Tree as tree
use Rattle.grammar.specs.Tree.{Tree}
use Rattle.names.specs.Names.{digit, all_of, letter, name_byte, well_named}
use Rattle.texts.specs.Lengths.{is_length, value}
use Rattle.grammar.specs.Grammar.{Writes, Sum, Product, Factor}
use Rattle.texts.specs.Lengths as lengths
use Rattle.grammar.specs.Reader.{run, next, bad, stepped, expect, put, pass_length, value_between, prefix_kind, starts, block_kind}
use Rattle.grammar.specs.Reader.{block_bytes}
use Rattle.grammar.specs.Reader.{block_at, leaf_at, timed, sum_at, sums_at, product_at, products_at, factor_at, latch_at, timer_at}
use Rattle.grammar.specs.Reader.{read_text}
use Rattle.grammar.specs.Formula.{accepted, parts_of, depth_of, longest_of, formula_fault}
use Rattle.grammar.specs.PartWords.{timed_part}
use Rattle.grammar.proofs.Reading.{tree_of_lem}
use Rattle.grammar.specs.Parts.{parts}
use Rattle.slices.specs.Bytes.{low16, low32, words_in}
use Rattle.slices.specs.Slices.{before}
use Rattle.format.specs.Names.{zeros, field_fits, same, among}
use Rattle.format.specs.Reading as reading
use Rattle.format.specs.Reading.{word_count, signal_size, later_words_fault, sheet_words_fault, signal_fault, signals_fault, front_fault}
use Rattle.format.specs.Reading.{count_on}
use Rattle.format.specs.Reading.{sheet_fault, signals_from, signals_on, names, list_named, environment_on}
use Rattle.calls.specs.OnSheet.{settling_date, exact_on, names_found}
use Rattle.calls.specs.Calls.{needed_work, parts_fault, words_on, claim_fails, claim_verdict, work_words}
use Rattle.calls.specs.Engine.{defined}
use Rattle.calls.specs.Demand2.{Delivered}
use Rattle.calls.specs.Printed.{printed_sheet, printed_f, printed_g, Printed}
use Rattle.calls.proofs.NotRefused.{Clear, clear_answered, clear_call, given_claim}
use Rattle.calls.proofs.Demand2.{delivered}
use Rattle.calls.proofs.SmallCases.{tree_clear, tree_words}
use Rattle.signals.specs.Answers.{first_of, end_of}

abbrev f : Tree
f = tree.Tree.leaf (tree.Leaf.name printed_f)

abbrev g : Tree
g = tree.Tree.unary (tree.Unary.ton 2) f

-- the sheet is accepted and gives a the list [0,23,36]
sheet_fine : sheet_fault printed_sheet ≡ 0
unfolding sheet_fault front_fault signals_fault signal_fault sheet_words_fault later_words_fault count_on word_count signal_size
    reading.name_at low16
    low32 same among field_fits well_named letter digit all_of name_byte before zeros date_of value_at value_after head_value
    changes_nothing first_of
sheet_fine = refl

list_f : list_named printed_f (signals_on printed_sheet) ≡ 0 ∷ 23 ∷ 36 ∷ []
unfolding signals_on signals_from list_named count_on word_count signal_size reading.name_at low16 low32 words_in same before
list_f = refl

found_f : among printed_f (names (signals_on printed_sheet)) ≡ true
unfolding signals_on signals_from names among count_on word_count signal_size reading.name_at low16 same before
found_f = refl

-- the texts are read
name_f : well_named printed_f ≡ true
unfolding well_named letter name_byte all_of
name_f = refl

f_writes : Writes printed_f f 0
f_writes = Sum.product (Product.factor (Factor.named name_f))

length_two : is_length (50 ∷ []) ≡ true
unfolding is_length digit all_of
length_two = refl

g_writes : Writes printed_g g 1
unfolding value lengths.value_from
g_writes = Sum.product (Product.factor (Factor.ton (50 ∷ []) length_two f_writes))

f_fine : formula_fault printed_f ≡ 0
unfolding formula_fault accepted longest_of parts_of depth_of read_text sum_at sums_at product_at products_at factor_at leaf_at next
    stepped put bad
    expect prefix_kind starts block_kind block_bytes block_at letter digit name_byte run
f_fine = refl

g_fine : formula_fault printed_g ≡ 0
unfolding formula_fault accepted longest_of parts_of depth_of read_text sum_at sums_at product_at products_at factor_at latch_at
    timer_at timed
    timed_part pass_length value_between value lengths.value_from leaf_at next stepped put bad expect prefix_kind starts block_kind
    block_bytes block_at letter digit name_byte run
g_fine = refl

-- their lists
exact_f : exact_on printed_sheet f ≡ 0 ∷ 23 ∷ 36 ∷ []
unfolding exact_on settling_date environment_on list_of words_of word signal_of value_from head_value date_of value_at value_after
    last_date last_from
exact_f = rw list_f refl

exact_g : exact_on printed_sheet g ≡ 0 ∷ 31 ∷ 36 ∷ []
unfolding exact_on settling_date environment_on TON started every from_to list_of words_of word signal_of value_from head_value date_of
    value_at
    value_after last_date last_from
exact_g = rw list_f refl

-- no part meets 5 or 6
f_parts : parts_fault printed_sheet (parts f) ≡ 0
unfolding parts_fault parts part_fault first_of changes_after_m date_of
f_parts = rw exact_f refl

g_parts : parts_fault printed_sheet (parts g) ≡ 0
unfolding parts_fault parts part_fault first_of changes_after_m date_of
g_parts = rw (exact_f, exact_g) refl

f_clear : Clear printed_sheet printed_f
unfolding names_found
f_clear = tree_clear printed_sheet printed_f f 0 sheet_fine f_writes f_fine found_f f_parts

g_clear : Clear printed_sheet printed_g
unfolding names_found
g_clear = tree_clear printed_sheet printed_g g 1 sheet_fine g_writes g_fine found_f g_parts

f_words : words_on printed_sheet printed_f ≡ 0 ∷ 23 ∷ 36 ∷ []
f_words = tree_words printed_sheet printed_f f 0 f_writes ∙ exact_f

g_words : words_on printed_sheet printed_g ≡ 0 ∷ 31 ∷ 36 ∷ []
g_words = tree_words printed_sheet printed_g g 1 g_writes ∙ exact_g

enough_work : needed_work printed_sheet ≤ work_words
unfolding needed_work
enough_work = omega arith

abbrev old : List ℕ
old = 7 ∷ 7 ∷ 7 ∷ 7 ∷ []

given : (formula words : List ℕ) → Clear printed_sheet formula → words_on printed_sheet formula ≡ words → length words ≤ 4
    → Delivered defined printed_sheet formula work_words old words
given formula words c e l =
    rw (← e) (delivered printed_sheet formula work_words old (clear_call printed_sheet formula c work_words 4 enough_work (rw e l)))

claimed : claim_verdict printed_sheet f g ≡ FailsAt 5 (Before 7)
unfolding claim_fails settling_date environment_on first_span earliest_up_to earliest NOT refuted fails_in end_of is_gap tick TON
    started every
    from_to signal_of value_from head_value date_of value_at value_after last_date last_from
claimed = rw list_f refl

pub printed : Printed
printed =
    record {
      fails =
          given_claim printed_sheet printed_f printed_g (clear_answered printed_sheet printed_f f_clear)
          (clear_answered printed_sheet printed_g g_clear) work_words enough_work
          ∙ rw (tree_of_lem printed_f f 0 f_writes, tree_of_lem printed_g g 1 g_writes) claimed;
      count_f = (given printed_f (0 ∷ 23 ∷ 36 ∷ []) f_clear f_words (omega arith)).count;
      words_f = (given printed_f (0 ∷ 23 ∷ 36 ∷ []) f_clear f_words (omega arith)).output;
      count_g = (given printed_g (0 ∷ 31 ∷ 36 ∷ []) g_clear g_words (omega arith)).count;
      words_g = (given printed_g (0 ∷ 31 ∷ 36 ∷ []) g_clear g_words (omega arith)).output;
    }
