-- Statement: When each fault of document 01's table is given on a sheet, its fields being read front to back and each judged before the
-- next is; and by lookup and append.
use Rattle.std.specs.Prelude.{ℕ, zero, suc, ◌≤◌, ◌<◌, ◌≡◌, List, [], ◌∷◌, ◌++◌, ◌⊎◌, length, take, drop, get_or}
use Rattle.signals.specs.Words.{most_words, list_fault}
use Rattle.signals.specs.Checks.{Check, FaultCheck, NoFault, Exactly}
use Rattle.names.specs.Sentence.{IsName}
use Rattle.format.specs.Names.{padded}
use Rattle.slices.specs.Bytes.{Bytes, bytes16, bytes32}
use Rattle.format.specs.Reading.{mark, sheet_fault, signals_on, names}
use Rattle.format.specs.Calls.{lookup_fault, append_fault, appended}

-- the bytes begin with a field of these values as written
abbrev pub Begins : {A : Type 0} → (A → Type 0) → (A → List ℕ) → List ℕ → Type 0
Begins {A} InRange written bytes = (a : A) × (rest : List ℕ) × InRange a × (bytes ≡ written a ++ rest)

-- they do, and what follows the field is judged with its value: only one value can be, since what is written determines it
abbrev pub Field : {A : Type 0} → (A → Type 0) → (A → List ℕ) → List ℕ → (A → List ℕ → ℕ → Type 0) → ℕ → Type 0
Field {A} InRange written bytes later fault =
    (a : A) × (rest : List ℕ) × InRange a × (bytes ≡ written a ++ rest) × later a rest fault

-- 8 name bytes, a 16-bit number, a word of 32 bits
abbrev pub NameField : List ℕ → (List ℕ → List ℕ → ℕ → Type 0) → ℕ → Type 0
NameField = Field IsName padded

abbrev pub NumberField : List ℕ → (ℕ → List ℕ → ℕ → Type 0) → ℕ → Type 0
NumberField = Field (λ n. n < 65536) bytes16

abbrev pub WordField : List ℕ → (ℕ → List ℕ → ℕ → Type 0) → ℕ → Type 0
WordField = Field (λ w. w < 4294967296) bytes32

-- the name is one of these
abbrev pub OneOf : List (List ℕ) → List ℕ → Type 0
OneOf given name = (i : ℕ) × (i < length given) × (get_or given i [] ≡ name)

-- n more words after those that are read: cut is 15, breaking 2, 3 or 4 is 17, and each is judged before the next is read
abbrev pub WordsFaultIs : List ℕ → ℕ → List ℕ → (List ℕ → ℕ → Type 0) → ℕ → Type 0
WordsFaultIs done zero bytes later = later bytes
WordsFaultIs done (suc n) bytes later =
    Check 15 (length bytes < 4)
    (WordField bytes (λ w rest. Check 17 (¬ (list_fault (done ++ w ∷ []) ≡ 0)) (WordsFaultIs (done ++ w ∷ []) n rest later)))

-- The word count and the words: 15 cut, 17 a count outside 1 to 256.
abbrev pub CountedWordsFaultIs : List ℕ → (List ℕ → ℕ → Type 0) → ℕ → Type 0
CountedWordsFaultIs bytes later =
    Check 15 (length bytes < 2)
    (NumberField bytes (λ n rest. Check 17 ((n ≡ 0) ⊎ (most_words < n)) (WordsFaultIs [] n rest later)))

-- One signal, after those with the earlier names: 15 its name cut, 16 malformed or repeated, then its list.
abbrev pub SignalFaultIs : List (List ℕ) → List ℕ → (List ℕ → List ℕ → ℕ → Type 0) → ℕ → Type 0
SignalFaultIs earlier bytes later =
    Check 15 (length bytes < 8)
    (Check 16 (¬ Begins IsName padded bytes)
    (NameField bytes (λ name rest. Check 16 (OneOf earlier name) (CountedWordsFaultIs rest (later name)))))

-- n signals, and no bytes left over
abbrev pub SignalsFaultIs : List (List ℕ) → ℕ → List ℕ → ℕ → Type 0
SignalsFaultIs earlier zero bytes = Check 15 (0 < length bytes) NoFault
SignalsFaultIs earlier (suc n) bytes = SignalFaultIs earlier bytes (λ name rest. SignalsFaultIs (earlier ++ name ∷ []) n rest)

-- The count of signals and the signals: 15 missing or over 32.
abbrev pub CountFaultIs : List ℕ → ℕ → Type 0
CountFaultIs bytes = Check 15 (length bytes < 2) (NumberField bytes (λ n rest. Check 15 (32 < n) (SignalsFaultIs [] n rest)))

-- A sheet: 14 mark or version wrong or cut, then its count and its signals.
abbrev pub SheetFaultIs : List ℕ → ℕ → Type 0
SheetFaultIs sheet = Check 14 (¬ (take 5 sheet ≡ mark ++ bytes16 1)) (CountFaultIs (drop 5 sheet))

abbrev pub SheetFaultsExact : Type 0
SheetFaultsExact = (sheet : List ℕ) → Bytes sheet → Exactly (SheetFaultIs sheet) (sheet_fault sheet)

-- A lookup takes sheet, 16, 13. (What is on a sheet, `signals_on`, is told by `WrittenReadsBack` and `ReadWritesBack`.)
abbrev pub LookupFaultIs : List ℕ → List ℕ → ℕ → Type 0
LookupFaultIs sheet name =
    FaultCheck (sheet_fault sheet) (Check 16 (¬ IsName name) (Check 13 (¬ OneOf (names (signals_on sheet)) name) NoFault))

abbrev pub LookupFaultsExact : Type 0
LookupFaultsExact = (sheet name : List ℕ) → Exactly (LookupFaultIs sheet name) (lookup_fault sheet name)

-- Appending takes sheet, 16 malformed or repeated, list, 15 when the sheet has 32, 7.
abbrev pub AppendFaultIs : List ℕ → List ℕ → List ℕ → ℕ → ℕ → Type 0
AppendFaultIs sheet name list room =
    FaultCheck (sheet_fault sheet)
    (Check 16 ((¬ IsName name) ⊎ OneOf (names (signals_on sheet)) name)
    (FaultCheck (list_fault list)
    (Check 15 (32 ≤ length (signals_on sheet)) (Check 7 (room < length (appended sheet name list)) NoFault))))

abbrev pub AppendFaultsExact : Type 0
AppendFaultsExact =
    (sheet name list : List ℕ) (room : ℕ) → Exactly (AppendFaultIs sheet name list room) (append_fault sheet name list room)
