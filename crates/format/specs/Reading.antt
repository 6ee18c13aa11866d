-- Believed: Document 01, "Sheets": a sheet is read front to back, first fault; what an accepted sheet holds.
use Rattle.std.specs.Prelude.{ℕ, zero, suc, ◌+◌, ◌*◌, ◌-◌, Bool, not, cond, ◌||◌, List, [], ◌∷◌, ◌++◌, leb, ltb, eqb, length, take, drop}
use Rattle.signals.specs.Signal.{Signal}
use Rattle.signals.specs.Words.{date_of, value_after, head_value, changes_nothing, most_words, signal_of}
use Rattle.format.specs.Names.{field_fits, unpadded, same, among}
use Rattle.slices.specs.Bytes.{low16, low32, words_in}
use Rattle.signals.specs.Answers.{first_of}

-- The mark is the three letters SGL.
abbrev pub mark : List ℕ
mark = 83 ∷ 71 ∷ 76 ∷ []

-- A signal: 8 name bytes, a 16-bit word count, the words.
unfoldable pub name_at : List ℕ → List ℕ
name_at rest = unpadded (take 8 rest)

unfoldable pub word_count : List ℕ → ℕ
word_count rest = low16 (drop 8 rest)

unfoldable pub signal_size : List ℕ → ℕ
signal_size rest = 10 + 4 * word_count rest

-- The words after the first: each is judged before the next is read. Cut is 15, breaking 3 or 4 is 17.
unfoldable pub later_words_fault : ℕ → Bool → ℕ → List ℕ → ℕ
later_words_fault last before zero bytes = 0
later_words_fault last before (suc n) bytes =
    cond (ltb (length bytes) 4) 15
    (cond (leb (date_of (low32 bytes)) last || changes_nothing before (low32 bytes)) 17
    (later_words_fault (date_of (low32 bytes)) (value_after (low32 bytes)) n (drop 4 bytes)))

-- the words of a signal: its first is 0 or 1
unfoldable pub sheet_words_fault : ℕ → List ℕ → ℕ
sheet_words_fault n bytes =
    cond (ltb (length bytes) 4) 15
    (cond (ltb 1 (low32 bytes)) 17
    (later_words_fault 0 (head_value (low32 bytes)) (n - 1) (drop 4 bytes)))

-- One signal, after those with the earlier names. A field cut short is 15 before its content is judged; a name malformed or repeated is
-- 16 before the word count is read; a word count outside 1 to 256 is 17 before its words.
unfoldable pub signal_fault : List (List ℕ) → List ℕ → ℕ
signal_fault earlier rest =
    cond (ltb (length rest) 8) 15
    (cond (not (field_fits (take 8 rest)) || among (name_at rest) earlier) 16
    (cond (ltb (length rest) 10) 15
    (cond (eqb (word_count rest) 0 || ltb most_words (word_count rest)) 17
    (sheet_words_fault (word_count rest) (drop 10 rest)))))

-- n signals, and no bytes left over
unfoldable pub signals_fault : List (List ℕ) → ℕ → List ℕ → ℕ
signals_fault earlier zero rest = cond (eqb (length rest) 0) 0 15
signals_fault earlier (suc n) rest =
    first_of (signal_fault earlier rest) (signals_fault (earlier ++ name_at rest ∷ []) n (drop (signal_size rest) rest))

-- The mark; then the version, 16 bits, 1; a 16-bit count of signals, 0 to 32. Cut or wrong is 14 in mark or version, then 15.
unfoldable pub front_fault : List ℕ → ℕ
front_fault bytes =
    cond (ltb (length bytes) 3) 14
    (cond (not (same (take 3 bytes) mark)) 14
    (cond (ltb (length bytes) 5) 14
    (cond (not (eqb (low16 (drop 3 bytes)) 1)) 14
    (cond (ltb (length bytes) 7) 15
    (cond (ltb 32 (low16 (drop 5 bytes))) 15 0)))))

unfoldable pub count_on : List ℕ → ℕ
count_on sheet = low16 (drop 5 sheet)

-- The fault of a sheet, 0 for an accepted one.
unfoldable pub sheet_fault : List ℕ → ℕ
sheet_fault sheet = first_of (front_fault sheet) (signals_fault [] (count_on sheet) (drop 7 sheet))

-- What a sheet holds of a signal: its name and its list.
pub data Entry : Type 0 where
  entry : List ℕ → List ℕ → Entry

unfoldable pub signals_from : ℕ → List ℕ → List Entry
signals_from zero rest = []
signals_from (suc n) rest =
    entry (name_at rest) (words_in (word_count rest) (drop 10 rest)) ∷ signals_from n (drop (signal_size rest) rest)

-- The signals of an accepted sheet, in order.
unfoldable pub signals_on : List ℕ → List Entry
signals_on sheet = signals_from (count_on sheet) (drop 7 sheet)

abbrev pub name_of : Entry → List ℕ
name_of (entry name list) = name

abbrev pub list_on : Entry → List ℕ
list_on (entry name list) = list

unfoldable pub names : List Entry → List (List ℕ)
names [] = []
names (e ∷ es) = name_of e ∷ names es

-- the list that a name has among signals, empty when it has none
unfoldable pub list_named : List ℕ → List Entry → List ℕ
list_named name [] = []
list_named name (e ∷ es) = cond (same (name_of e) name) (list_on e) (list_named name es)

-- A name stands for the signal that the sheet gives it; one that the sheet does not have is down.
unfoldable pub environment_on : List ℕ → List ℕ → Signal
environment_on sheet name = signal_of (list_named name (signals_on sheet))
