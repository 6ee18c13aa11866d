-- Believed: Each operation on lists as a call: its faults in document 01's order, its exact answer, its output.
use Rattle.std.specs.Prelude.{ℕ, ◌+◌, max, ◌≡◌, Bool, false, cond, ◌||◌, List, [], ◌∷◌, ltb, length}
use Rattle.signals.specs.Answers.{first_of, written_of, output_of}
use Rattle.signals.specs.declared.Written.{Written}
use Rattle.signals.specs.Moment.{M}
use Rattle.signals.specs.Signal.{Signal}
use Rattle.signals.specs.Words.{date_of, most_words, list_fault, pair_fault, signal_of, last_date, list_of}

-- a word of the list is dated after M
unfoldable pub changes_after_m : List ℕ → Bool
changes_after_m [] = false
changes_after_m (w ∷ ws) = ltb M (date_of w) || changes_after_m ws

-- 5: the exact answer is over 256 words, those past M counted; 6: it changes after M; 5 where both apply
unfoldable pub part_fault : List ℕ → ℕ
part_fault exact = cond (ltb most_words (length exact)) 5 (cond (changes_after_m exact) 6 0)

-- 7: the output, of n words, is shorter than the answer
unfoldable pub room_fault : List ℕ → ℕ → ℕ
room_fault exact n = cond (ltb n (length exact)) 7 0

-- 5, 6, 7
unfoldable pub answer_fault : List ℕ → ℕ → ℕ
answer_fault exact n = first_of (part_fault exact) (room_fault exact n)

-- 8: the length is above M
unfoldable pub length_fault : ℕ → ℕ
length_fault d = cond (ltb M d) 8 0

-- The exact answers: the normal list of the defined signal, to the date from which it is constant.
unfoldable pub exact_of_one : (Signal → Signal) → List ℕ → List ℕ
exact_of_one operation a = list_of (operation (signal_of a)) (last_date a)

unfoldable pub exact_of_two : (Signal → Signal → Signal) → List ℕ → List ℕ → List ℕ
exact_of_two operation a b = list_of (operation (signal_of a) (signal_of b)) (max (last_date a) (last_date b))

unfoldable pub exact_of_delay : (Signal → Signal) → ℕ → List ℕ → List ℕ
exact_of_delay operation d a = list_of (operation (signal_of a)) (last_date a + d)

-- NOT, rising, falling: list, 5, 6, 7
unfoldable pub fault_of_one : (Signal → Signal) → List ℕ → ℕ → ℕ
fault_of_one operation a n = first_of (list_fault a) (answer_fault (exact_of_one operation a) n)

-- connectives, SR, RS: list, list, 5, 6, 7
unfoldable pub fault_of_two : (Signal → Signal → Signal) → List ℕ → List ℕ → ℕ → ℕ
fault_of_two operation a b n = first_of (pair_fault a b) (answer_fault (exact_of_two operation a b) n)

-- TON, TOF, TP: list, 8, 5, 6, 7
unfoldable pub fault_of_delay : (Signal → Signal) → ℕ → List ℕ → ℕ → ℕ
fault_of_delay operation d a n =
    first_of (list_fault a) (first_of (length_fault d) (answer_fault (exact_of_delay operation d a) n))

-- The whole of a call: its answer and the output at exit, from the operands and the output at entry.
abbrev pub CallOfOne : (Signal → Signal) → List ℕ → List ℕ → Written → List ℕ → Type 0
CallOfOne operation a out answer after =
    (answer ≡ written_of (fault_of_one operation a (length out)) (exact_of_one operation a))
    × (after ≡ output_of (fault_of_one operation a (length out)) (exact_of_one operation a) out)

abbrev pub CallOfTwo : (Signal → Signal → Signal) → List ℕ → List ℕ → List ℕ → Written → List ℕ → Type 0
CallOfTwo operation a b out answer after =
    (answer ≡ written_of (fault_of_two operation a b (length out)) (exact_of_two operation a b))
    × (after ≡ output_of (fault_of_two operation a b (length out)) (exact_of_two operation a b) out)

abbrev pub CallOfDelay : (Signal → Signal) → ℕ → List ℕ → List ℕ → Written → List ℕ → Type 0
CallOfDelay operation d a out answer after =
    (answer ≡ written_of (fault_of_delay operation d a (length out)) (exact_of_delay operation d a))
    × (after ≡ output_of (fault_of_delay operation d a (length out)) (exact_of_delay operation d a) out)
