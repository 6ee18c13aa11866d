-- The answers of the formula call and of the claim are small.
use Prim.Native.Nat.{ℕ, ◌<◌}
use native.Mathlib.Omega.{arith}
use mathlib.Core.Path.{◌≡◌}
use mathlib.Core.Bool.{not, ◌||◌}
use mathlib.Core.List.{List, [], ◌∷◌}
use lib.Dec.{eqb, ltb}
use lib.ListN.{length}
use borrow.Author.Tests.{ltb-false}
use Rattle.signals.specs.Moment.{M}
use Rattle.operations.specs.Calls.{changes_after_m}
use Rattle.grammar.specs.Tree.{Tree}
use Rattle.grammar.specs.Formula.{formula_fault, formula_tree, accepted, longest_of, parts_of, depth_of}
use Rattle.grammar.specs.Parts.{parts}
use Rattle.format.specs.Reading.{sheet_fault}
use Rattle.calls.specs.OnSheet.{exact_on, names_found}
use Rattle.calls.specs.Calls.{needed_work, reading_fault, work_fault, parts_fault, working_fault, words_on, call_fault, call_answer}
use Rattle.calls.specs.Calls.{claim_fault}
use Rattle.calls.specs.Calls.{claim_answer}
use Rattle.operations.specs.Calls.{room_fault, part_fault}
use Rattle.calls.proofs.FirstFault.{passed}
use Rattle.calls.proofs.PartFaults.{whole_none}
use Rattle.packing.proofs.SmallAnswers.{SmallWritten, SmallVerdict, choice, written_small, answer_small}
use Rattle.packing.proofs.SmallAnswers.{first_small}
use Rattle.packing.proofs.SmallSheets.{sheet_small}
use Rattle.signals.proofs.FirstFault.{both_none}
use Rattle.signals.specs.Words.{most_words}

pub formula_small : (text : List ℕ) → formula_fault text < 65536
unfolding formula_fault
formula_small text =
    choice (eqb (length text) 0 || ltb 1024 (length text)) 10 _ (omega arith)
    (choice (not (accepted text)) 11 _ (omega arith)
    (choice (ltb M (longest_of text)) 8 _ (omega arith)
    (choice (ltb 32 (length (parts_of text)) || ltb 16 (depth_of text)) 12 0 (omega arith) (omega arith))))

reading_small : (sheet formula : List ℕ) → reading_fault sheet formula < 65536
unfolding reading_fault
reading_small sheet formula =
    first_small (formula_fault formula) _ (formula_small formula)
    (choice (names_found sheet (formula_tree formula)) 0 13 (omega arith) (omega arith))

work_small : (sheet : List ℕ) (work : ℕ) → work_fault sheet work < 65536
unfolding work_fault
work_small sheet work = choice (ltb work (needed_work sheet)) 18 0 (omega arith) (omega arith)

part_small : (exact : List ℕ) → part_fault exact < 65536
unfolding part_fault
part_small exact =
    choice (ltb most_words (length exact)) 5 _ (omega arith) (choice (changes_after_m exact) 6 0 (omega arith) (omega arith))

parts_small : (sheet : List ℕ) (ts : List Tree) → parts_fault sheet ts < 65536
unfolding parts_fault
parts_small sheet [] = omega arith
parts_small sheet (t ∷ ts) = first_small (part_fault (exact_on sheet t)) _ (part_small (exact_on sheet t)) (parts_small sheet ts)

working_small : (sheet formula : List ℕ) → working_fault sheet formula < 65536
unfolding working_fault
working_small sheet formula = parts_small sheet (parts (formula_tree formula))

words_short : (sheet formula : List ℕ) → working_fault sheet formula ≡ 0 → length (words_on sheet formula) < 65536
unfolding working_fault words_on part_fault
words_short sheet formula z =
    let e = whole_none sheet (formula_tree formula) z in
    let n = length (exact_on sheet (formula_tree formula)) in
    omega (arith, ltb-false most_words n (passed (ltb most_words n) 5 _ (omega arith) e).0)

pub call_small : (sheet formula : List ℕ) (work : ℕ) (old : List ℕ) → SmallWritten (call_answer sheet formula work old)
unfolding call_answer call_fault room_fault
call_small sheet formula work old =
    written_small _ _
    (first_small (sheet_fault sheet) _ (sheet_small sheet)
    (first_small (reading_fault sheet formula) _ (reading_small sheet formula)
    (first_small (work_fault sheet work) _ (work_small sheet work)
    (first_small (working_fault sheet formula) _ (working_small sheet formula)
    (choice (ltb (length old) (length (words_on sheet formula))) 7 0 (omega arith) (omega arith))))))
    (λ z.
    words_short sheet formula
    (both_none (working_fault sheet formula) _
    (both_none (work_fault sheet work) _ (both_none (reading_fault sheet formula) _ (both_none (sheet_fault sheet) _ z).1).1).1
    ).0)

pub claim_small : (sheet F G : List ℕ) (work : ℕ) → SmallVerdict (claim_answer sheet F G work)
unfolding claim_answer claim_fault
claim_small sheet F G work =
    answer_small _ _
    (first_small (sheet_fault sheet) _ (sheet_small sheet)
    (first_small (reading_fault sheet F) _ (reading_small sheet F)
    (first_small (reading_fault sheet G) _ (reading_small sheet G)
    (first_small (work_fault sheet work) _ (work_small sheet work)
    (first_small (working_fault sheet F) _ (working_small sheet F) (working_small sheet G))))))
