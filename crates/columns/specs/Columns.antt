-- Believed: Document 02, request 5: the values of a list's signal at a rising list of moments, as a call: its faults in their order, the
-- answer by fault number and values, the output.
use Rattle.std.specs.Prelude.{ℕ, ◌-◌, ◌≡◌, Bool, false, cond, ◌||◌, List, [], ◌∷◌, map, leb, ltb, eqb, length, get_or}
use Rattle.signals.specs.Signal.{num}
use Rattle.signals.specs.Words.{list_fault, signal_of}
use Rattle.signals.specs.Answers.{first_of, output_of}
use Rattle.reading.specs.Dated.{dated_by}
use Rattle.questions.specs.Questions.{instant_fault, gap_fault}
use Rattle.columns.specs.Numbers.{is_gap_number, date_in, moment_of}
use Rattle.columns.specs.declared.Column.{Column}
use Rattle.columns.specs.declared.Column.TheVariants.{Filled, Refused}

-- the most moments that a column has
abbrev pub most_moments : ℕ
most_moments = 1000

-- a moment is not after the one before it, `last` being the one before these
unfoldable pub not_after : ℕ → List ℕ → Bool
not_after last [] = false
not_after last (m ∷ ms) = leb m last || not_after m ms

unfoldable pub not_rising : List ℕ → Bool
not_rising [] = false
not_rising (m ∷ ms) = not_after m ms

-- 20: a moment is not after the one before it, or there are more than 1,000
unfoldable pub order_fault : List ℕ → ℕ
order_fault ms = cond (ltb most_moments (length ms) || not_rising ms) 20 0

-- 9 of one moment, as in the single calls: it is instant 0, or its date is above M
unfoldable pub moment_fault : ℕ → ℕ
moment_fault m = cond (is_gap_number m) (gap_fault (date_in m)) (instant_fault (date_in m))

-- 9: one of them has it
unfoldable pub moments_fault : List ℕ → ℕ
moments_fault [] = 0
moments_fault (m ∷ ms) = first_of (moment_fault m) (moments_fault ms)

-- one word for each moment, 1 for up and 0 for down
unfoldable pub column_word : List ℕ → ℕ → ℕ
column_word l m = num (signal_of l (moment_of m))

unfoldable pub column_words : List ℕ → List ℕ → List ℕ
column_words l ms = map (column_word l) ms

-- the last of the moments, where there is one
abbrev pub last_moment : List ℕ → ℕ
last_moment ms = get_or ms (length ms - 1) 0

-- the number of list words dated at or before the last moment, the first word counted as date 0; no moments pass none
unfoldable pub words_passed : List ℕ → List ℕ → ℕ
words_passed l ms = cond (eqb (length ms) 0) 0 (dated_by (date_in (last_moment ms)) l)

-- It takes list, 20, 9, then 7, where the output has `room` words.
unfoldable pub column_fault : List ℕ → List ℕ → ℕ → ℕ
column_fault l ms room =
    first_of (list_fault l) (first_of (order_fault ms) (first_of (moments_fault ms) (cond (ltb room (length ms)) 7 0)))

-- Column. The fault number, 0 for none; the number of words and of words passed, 0 when refused.
abbrev pub fault_of_column : Column → ℕ
fault_of_column (Filled count passed) = 0
fault_of_column (Refused fault) = fault

abbrev pub count_of_column : Column → ℕ
count_of_column (Filled count passed) = count
count_of_column (Refused fault) = 0

abbrev pub passed_of_column : Column → ℕ
passed_of_column (Filled count passed) = passed
passed_of_column (Refused fault) = 0

-- the answer of a call with this fault (0 for none), so many words and so many passed
unfoldable pub column_for : ℕ → ℕ → ℕ → Column
column_for fault count passed = cond (eqb fault 0) (Filled count passed) (Refused fault)

-- the answer to a list and moments where the output has `room` words
unfoldable pub column_answer : List ℕ → List ℕ → ℕ → Column
column_answer l ms room = column_for (column_fault l ms room) (length ms) (words_passed l ms)

-- The call: the list, the moments, the output at entry, the answer, the output at exit.
abbrev pub CallOfColumn : List ℕ → List ℕ → List ℕ → Column → List ℕ → Type 0
CallOfColumn l ms out answer after =
    (answer ≡ column_answer l ms (length out)) × (after ≡ output_of (column_fault l ms (length out)) (column_words l ms) out)
