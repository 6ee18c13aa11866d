-- Mirrored: The operation that a part's code word asks for, by its kind in the low four bits: what it is judged by, its exact answer, and
-- document 01's number for what it gives in a slot.
use Rattle.std.specs.Prelude.{ℕ, ◌/◌, ◌%◌, true, false, cond, ◌&&◌, List, [], ◌∷◌, ltb, eqb}
use Rattle.signals.specs.Answers.{first_of}
use Rattle.signals.specs.declared.Written.{Written}
use Rattle.signals.specs.declared.Written.TheVariants as written
use Rattle.signals.specs.Signal.{Table, table_of, NOT, rising, falling, SR, RS, TON, TOF, TP, connective}
use Rattle.signals.specs.Words.{list_fault, pair_fault}
use Rattle.operations.specs.Calls.{length_fault, exact_of_one, exact_of_two, exact_of_delay}
use Rattle.building.specs.declared.SlotAnswer.{SlotAnswer}
use Rattle.building.specs.declared.SlotAnswer.TheVariants.{Stands, TooLong, TooLate, NotBegun}
use Rattle.grammar.specs.Kinds as kinds
use Rattle.grammar.specs.Tree.{Unary, Binary, invert, rise, fall, ton, tof, tp, and, or, sr, rs}

-- the operators by their kind, that of a timer with its length
unfoldable pub unary_of : ℕ → ℕ → Unary
unary_of kind n =
    cond (eqb kind kinds.NOT) invert
    (cond (eqb kind kinds.RISING) rise
    (cond (eqb kind kinds.FALLING) fall (cond (eqb kind kinds.TON) (ton n) (cond (eqb kind kinds.TOF) (tof n) (tp n)))))

unfoldable pub binary_of : ℕ → Binary
binary_of kind = cond (eqb kind kinds.AND) and (cond (eqb kind kinds.OR) or (cond (eqb kind kinds.SR) sr rs))

-- those of a code word, a timer's length cut to 32 bits
abbrev pub unary_in : ℕ → Unary
unary_in w = unary_of (w % 16) (w / 16 % 4294967296)

abbrev pub binary_in : ℕ → Binary
binary_in w = binary_of (w % 16)

-- what an operation of one operand is judged by, and the exact answers
abbrev pub unary_fault : Unary → List ℕ → ℕ
unary_fault invert l = list_fault l
unary_fault rise l = list_fault l
unary_fault fall l = list_fault l
unary_fault (ton d) l = first_of (list_fault l) (length_fault d)
unary_fault (tof d) l = first_of (list_fault l) (length_fault d)
unary_fault (tp d) l = first_of (list_fault l) (length_fault d)

abbrev pub unary_exact : Unary → List ℕ → List ℕ
unary_exact invert l = exact_of_one NOT l
unary_exact rise l = exact_of_one rising l
unary_exact fall l = exact_of_one falling l
unary_exact (ton d) l = exact_of_delay (TON d) d l
unary_exact (tof d) l = exact_of_delay (TOF d) d l
unary_exact (tp d) l = exact_of_delay (TP d) d l

abbrev pub AND_table : Table
AND_table = table_of ◌&&◌

abbrev pub OR_table : Table
OR_table = (false ∷ true ∷ []) ∷ (true ∷ true ∷ []) ∷ []

abbrev pub binary_exact : Binary → List ℕ → List ℕ → List ℕ
binary_exact and l m = exact_of_two (connective AND_table) l m
binary_exact or l m = exact_of_two (connective OR_table) l m
binary_exact sr l m = exact_of_two SR l m
binary_exact rs l m = exact_of_two RS l m

-- those of the operation that a code word asks for: of one operand below AND, else of two
unfoldable pub judged_for : ℕ → List ℕ → List ℕ → ℕ
judged_for w a b = cond (ltb (w % 16) kinds.AND) (unary_fault (unary_in w) a) (pair_fault a b)

unfoldable pub exact_for : ℕ → List ℕ → List ℕ → List ℕ
exact_for w a b = cond (ltb (w % 16) kinds.AND) (unary_exact (unary_in w) a) (binary_exact (binary_in w) a b)

-- document 01's number for each case: 5 or 6, or the word count; one that did not begin, which is not met, passes for no answer
abbrev pub part_answer : SlotAnswer → Written
part_answer (Stands n) = written.Count n
part_answer TooLong = written.Refused 5
part_answer TooLate = written.Refused 6
part_answer NotBegun = written.Refused 5
