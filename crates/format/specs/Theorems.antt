-- Statement: The theorems about sheets, each as a type. Bytes are below 256 and words below 2^32, as the slices that hold them are.
use Rattle.std.specs.Prelude.{ℕ, ◌/◌, ◌≤◌, ◌≡◌, List, [], ◌∷◌, ◌++◌, length}
use Rattle.signals.specs.Words.{signal_of, list_fault}
use Rattle.slices.specs.Bytes.{Bytes, Words, words_in, word_bytes}
use Rattle.format.specs.Reading.{sheet_fault, signals_on, list_named, environment_on, Entry, entry}
use Rattle.format.specs.Writing.{sheet_bytes, Holdable}
use Rattle.format.specs.Calls.{lookup_fault, lookup_of, append_fault, appended}

-- the words that a part of a sheet is
unfoldable pub decoded : List ℕ → List ℕ
decoded part = words_in (length part / 4) part

-- A sheet that holds these signals is accepted and reads back as they are.
abbrev pub WrittenReadsBack : Type 0
WrittenReadsBack = (es : List Entry) → Holdable es → (sheet_fault (sheet_bytes es) ≡ 0) × (signals_on (sheet_bytes es) ≡ es)

-- Every accepted sheet is what is written of its signals.
abbrev pub ReadWritesBack : Type 0
ReadWritesBack =
    (sheet : List ℕ) → Bytes sheet → sheet_fault sheet ≡ 0 → (sheet_bytes (signals_on sheet) ≡ sheet) × Holdable (signals_on sheet)

-- The part that a lookup gives is the bytes of the name's list, which decode to its words, an accepted list, and denote the name's signal.
pub record PartIsList (sheet name : List ℕ) : Type 0 where
  pub bytes : lookup_of sheet name ≡ word_bytes (list_named name (signals_on sheet))
  pub words : decoded (lookup_of sheet name) ≡ list_named name (signals_on sheet)
  pub listed : list_fault (list_named name (signals_on sheet)) ≡ 0
  pub denotes : signal_of (decoded (lookup_of sheet name)) ≡ environment_on sheet name

abbrev pub LookupGivesTheList : Type 0
LookupGivesTheList = (sheet name : List ℕ) → Bytes sheet → lookup_fault sheet name ≡ 0 → PartIsList sheet name

-- What append wrote is an accepted sheet whose signals are the old ones and the new one, in order.
abbrev pub AppendKeepsSheet : Type 0
AppendKeepsSheet =
    (sheet name list : List ℕ) (room : ℕ) → Bytes sheet → Words list → append_fault sheet name list room ≡ 0
    → (sheet_fault (appended sheet name list) ≡ 0) × (signals_on (appended sheet name list) ≡ signals_on sheet ++ entry name list ∷ [])

-- Looking the name up there gives exactly the bytes of the list, which decode to the same words and denote the same signal.
pub record NewIsThere (sheet name list : List ℕ) : Type 0 where
  pub found : lookup_fault (appended sheet name list) name ≡ 0
  pub bytes : lookup_of (appended sheet name list) name ≡ word_bytes list
  pub words : decoded (lookup_of (appended sheet name list) name) ≡ list
  pub denotes : environment_on (appended sheet name list) name ≡ signal_of list

abbrev pub AppendGivesNew : Type 0
AppendGivesNew =
    (sheet name list : List ℕ) (room : ℕ) → Bytes sheet → Words list → append_fault sheet name list room ≡ 0 → NewIsThere sheet name list

-- Every other name gives what it gave.
pub record AsBefore (sheet name list other : List ℕ) : Type 0 where
  pub fault : lookup_fault (appended sheet name list) other ≡ lookup_fault sheet other
  pub part : lookup_of (appended sheet name list) other ≡ lookup_of sheet other
  pub signal : environment_on (appended sheet name list) other ≡ environment_on sheet other

abbrev pub AppendKeepsOthers : Type 0
AppendKeepsOthers =
    (sheet name list other : List ℕ) (room : ℕ) → Bytes sheet → Words list → append_fault sheet name list room ≡ 0
    → (name ≡ other → ⊥) → AsBefore sheet name list other

-- the sheet after appending these signals in turn, and that no such append meets a fault when its output is long enough
unfoldable pub append_all : List ℕ → List Entry → List ℕ
append_all sheet [] = sheet
append_all sheet (entry name list ∷ es) = append_all (appended sheet name list) es

abbrev pub AllAppend : List ℕ → List Entry → Type 0
AllAppend sheet [] = Unit
AllAppend sheet (entry name list ∷ es) =
    ((room : ℕ) → length (appended sheet name list) ≤ room → append_fault sheet name list room ≡ 0)
    × AllAppend (appended sheet name list) es

-- A sheet begun and appended to n times reads back.
abbrev pub BegunReadsBack : Type 0
BegunReadsBack =
    (es : List Entry) → Holdable es
    → AllAppend (sheet_bytes []) es
    × (sheet_fault (append_all (sheet_bytes []) es) ≡ 0)
    × (signals_on (append_all (sheet_bytes []) es) ≡ es)

-- Every accepted sheet is what begin and appends of its signals write.
abbrev pub OneWriting : Type 0
OneWriting =
    (sheet : List ℕ) → Bytes sheet → sheet_fault sheet ≡ 0
    → AllAppend (sheet_bytes []) (signals_on sheet) × (append_all (sheet_bytes []) (signals_on sheet) ≡ sheet)
