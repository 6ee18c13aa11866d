-- A sheet's fault is one of 14 to 17.
use Prim.Native.Nat.{ℕ, zero, suc, ◌-◌, ◌≤◌}
use native.Mathlib.Omega.{arith}
use mathlib.Core.Path.{◌≡◌, refl}
use mathlib.Core.Bool.{Bool, true, false, not, cond, ◌||◌}
use mathlib.Core.Logic.{◌⊎◌, inl, inr}
use mathlib.Core.List.{List, [], ◌∷◌, ◌++◌}
use lib.Dec.{leb, ltb, eqb}
use lib.ListN.{length, drop, take}
use Rattle.signals.specs.Words.{date_of, value_after, head_value, changes_nothing, most_words}
use Rattle.signals.specs.Answers.{first_of}
use Rattle.slices.specs.Bytes.{low16, low32}
use Rattle.format.specs.Names.{field_fits, same, among}
use Rattle.format.specs.Reading.{mark, name_at, word_count, signal_size, later_words_fault, sheet_words_fault}
use Rattle.format.specs.Reading.{signal_fault, signals_fault, front_fault, sheet_fault, count_on}

abbrev pub OfSheets : ℕ → Type 0
OfSheets n = (n ≡ 0) ⊎ ((14 ≤ n) × (n ≤ 17))

choice : (b : Bool) (m n : ℕ) → OfSheets m → OfSheets n → OfSheets (cond b m n)
choice true m n p q = p
choice false m n p q = q

this : (n : ℕ) → 14 ≤ n → n ≤ 17 → OfSheets n
this n l m = inr (l, m)

later_of : (last : ℕ) (before : Bool) (n : ℕ) (bytes : List ℕ) → OfSheets (later_words_fault last before n bytes)
unfolding later_words_fault
later_of last before zero bytes = inl refl
later_of last before (suc n) bytes =
    choice (ltb (length bytes) 4) 15 _ (this 15 (omega arith) (omega arith))
    (choice (leb (date_of (low32 bytes)) last || changes_nothing before (low32 bytes)) 17 _ (this 17 (omega arith) (omega arith))
    (later_of (date_of (low32 bytes)) (value_after (low32 bytes)) n (drop 4 bytes)))

words_of : (n : ℕ) (bytes : List ℕ) → OfSheets (sheet_words_fault n bytes)
unfolding sheet_words_fault
words_of n bytes =
    choice (ltb (length bytes) 4) 15 _ (this 15 (omega arith) (omega arith))
    (choice (ltb 1 (low32 bytes)) 17 _ (this 17 (omega arith) (omega arith))
    (later_of 0 (head_value (low32 bytes)) (n - 1) (drop 4 bytes)))

signal_of_lem : (earlier : List (List ℕ)) (rest : List ℕ) → OfSheets (signal_fault earlier rest)
unfolding signal_fault
signal_of_lem earlier rest =
    choice (ltb (length rest) 8) 15 _ (this 15 (omega arith) (omega arith))
    (choice (not (field_fits (take 8 rest)) || among (name_at rest) earlier) 16 _ (this 16 (omega arith) (omega arith))
    (choice (ltb (length rest) 10) 15 _ (this 15 (omega arith) (omega arith))
    (choice (eqb (word_count rest) 0 || ltb most_words (word_count rest)) 17 _ (this 17 (omega arith) (omega arith))
    (words_of (word_count rest) (drop 10 rest)))))

signals_of : (earlier : List (List ℕ)) (n : ℕ) (rest : List ℕ) → OfSheets (signals_fault earlier n rest)
unfolding signals_fault first_of
signals_of earlier zero rest = choice (eqb (length rest) 0) 0 15 (inl refl) (this 15 (omega arith) (omega arith))
signals_of earlier (suc n) rest =
    choice (eqb (signal_fault earlier rest) 0) _ _
    (signals_of (earlier ++ name_at rest ∷ []) n (drop (signal_size rest) rest))
    (signal_of_lem earlier rest)

front_of : (bytes : List ℕ) → OfSheets (front_fault bytes)
unfolding front_fault
front_of bytes =
    choice (ltb (length bytes) 3) 14 _ (this 14 (omega arith) (omega arith))
    (choice (not (same (take 3 bytes) mark)) 14 _ (this 14 (omega arith) (omega arith))
    (choice (ltb (length bytes) 5) 14 _ (this 14 (omega arith) (omega arith))
    (choice (not (eqb (low16 (drop 3 bytes)) 1)) 14 _ (this 14 (omega arith) (omega arith))
    (choice (ltb (length bytes) 7) 15 _ (this 15 (omega arith) (omega arith))
    (choice (ltb 32 (low16 (drop 5 bytes))) 15 0 (this 15 (omega arith) (omega arith)) (inl refl))))))

pub sheet_of : (sheet : List ℕ) → OfSheets (sheet_fault sheet)
unfolding sheet_fault first_of
sheet_of sheet =
    choice (eqb (front_fault sheet) 0) _ _ (signals_of [] (count_on sheet) (drop 7 sheet)) (front_of sheet)
