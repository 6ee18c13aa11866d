-- Statement: When each fault of the column's call is given, what it gives without one and how that stands to the single calls; what an
-- answer made of a fault and numbers is read as.
use Rattle.std.specs.Prelude.{ℕ, zero, suc, ◌≤◌, ◌<◌, ◌≡◌, Bool, cond, List, [], ◌∷◌, ◌++◌, ◌⊎◌, ◌↔◌, length, get_or, drop}
use Rattle.signals.specs.Moment.{M}
use Rattle.signals.specs.Signal.{num}
use Rattle.signals.specs.Words.{date_of, list_fault}
use Rattle.signals.specs.Checks.{Check, FaultCheck, NoFault, Exactly}
use Rattle.signals.specs.Answers.{fault_of_told, told_value}
use Rattle.signals.specs.declared.Told.{Told}
use Rattle.signals.specs.declared.Told.TheVariants as told
use Rattle.questions.specs.Questions.{value_at_of, value_in_of}
use Rattle.columns.specs.Numbers.{instant_number, gap_number, is_gap_number, date_in}
use Rattle.columns.specs.Columns.{column_fault, column_for, CallOfColumn}
use Rattle.columns.specs.Columns.{fault_of_column, count_of_column, passed_of_column}
use Rattle.columns.specs.declared.Column.{Column}
use Rattle.columns.specs.declared.Column.TheVariants.{Filled, Refused}

-- 20: "a moment is not after the one before it or there are more than 1,000"
abbrev pub Breaks20 : List ℕ → Type 0
Breaks20 ms = ((i : ℕ) × (suc i < length ms) × (get_or ms (suc i) 0 ≤ get_or ms i 0)) ⊎ (1000 < length ms)

-- 9 of one moment: "instant 0, or date above M"
abbrev pub Outside : ℕ → Type 0
Outside m = (m ≡ instant_number 0) ⊎ (gap_number M < m)

abbrev pub Breaks9 : List ℕ → Type 0
Breaks9 ms = (i : ℕ) × (i < length ms) × Outside (get_or ms i 0)

-- list, 20 "tested after the list and before 9", 9, then 7
abbrev pub ColumnFaultIs : List ℕ → List ℕ → ℕ → ℕ → Type 0
ColumnFaultIs l ms room =
    FaultCheck (list_fault l) (Check 20 (Breaks20 ms) (Check 9 (Breaks9 ms) (Check 7 (room < length ms) NoFault)))

abbrev pub ColumnFaultsExact : Type 0
ColumnFaultsExact = (l ms : List ℕ) (room : ℕ) → Exactly (ColumnFaultIs l ms room) (column_fault l ms room)

-- The single call on a moment: at the instant or in the gap (`calls`, below).
unfoldable pub single_call : List ℕ → ℕ → Told
single_call l m = cond (is_gap_number m) (value_in_of l (date_in m)) (value_at_of l (date_in m))

-- the date of word i, the first word counted as date 0
abbrev pub word_date : List ℕ → ℕ → ℕ
word_date l zero = 0
word_date l (suc i) = date_of (get_or l (suc i) 0)

-- "The number of list words dated at or before the last moment, the first word counted as date 0": the words of a list stand in the order
-- of their dates, and the first n are those. "An empty list of moments passes none."
pub record PassedBy (l ms : List ℕ) (n : ℕ) : Type 0 where
  pub within : n ≤ length l
  pub those : (last : ℕ) → suc last ≡ length ms → (i : ℕ) → i < length l → (i < n) ↔ (instant_number (word_date l i) ≤ get_or ms last 0)
  pub none : length ms ≡ 0 → n ≡ 0

-- What the call gives without a fault, by its contract.
pub record Gives (l ms out : List ℕ) (answer : Column) (after : List ℕ) : Type 0 where
  pub passed : ℕ
  pub counted : PassedBy l ms passed
  pub few : passed ≤ 256
  pub answered : answer ≡ Filled (length ms) passed
  -- a word for each moment, those past them being the old ones
  pub words : List ℕ
  pub many : length words ≡ length ms
  pub fits : length ms ≤ length out
  pub most : length ms ≤ 1000
  pub written : after ≡ words ++ drop (length ms) out
  -- "The answers equal those of single calls": 1 where that is yes, 0 where it is no
  pub single : (i : ℕ) → i < length ms → (v : Bool) × (single_call l (get_or ms i 0) ≡ told_value v) × (get_or words i 0 ≡ num v)

pub record ColumnGives : Type 0 where
  pub gives : (l ms out : List ℕ) (answer : Column) (after : List ℕ)
      → CallOfColumn l ms out answer after → column_fault l ms (length out) ≡ 0 → Gives l ms out answer after
  -- with a fault: its number, and the output is as it was
  pub refused : (l ms out : List ℕ) (answer : Column) (after : List ℕ)
      → CallOfColumn l ms out answer after → ¬ (column_fault l ms (length out) ≡ 0)
      → (answer ≡ Refused (column_fault l ms (length out))) × (after ≡ out)
  -- one number only is that of the words passed
  pub only : (l ms : List ℕ) (m n : ℕ) → PassedBy l ms m → PassedBy l ms n → m ≡ n
  -- which call the single one is
  pub calls : (l : List ℕ) (k : ℕ) → (single_call l (instant_number k) ≡ value_at_of l k) × (single_call l (gap_number k) ≡ value_in_of l k)
  -- a column of one moment has the single call's fault; that of the list is everyone's; up to 1,000 rising moments of an accepted list are
  -- refused with 9 exactly when some single call is
  pub one : (l : List ℕ) (m : ℕ) → column_fault l (m ∷ []) 1 ≡ fault_of_told (single_call l m)
  pub listed : (l ms : List ℕ) (m room : ℕ) → ¬ (list_fault l ≡ 0)
      → (single_call l m ≡ told.Refused (list_fault l)) × (column_fault l ms room ≡ list_fault l)
  pub outside : (l ms : List ℕ) (room : ℕ) → list_fault l ≡ 0 → ¬ Breaks20 ms
      → (column_fault l ms room ≡ 9) ↔ ((i : ℕ) × (i < length ms) × (single_call l (get_or ms i 0) ≡ told.Refused 9))

-- the answers: a refusal has a number
abbrev pub GivenColumn : Column → Type 0
GivenColumn (Filled count passed) = Unit
GivenColumn (Refused fault) = 1 ≤ fault

pub record ColumnSays : Type 0 where
  pub fault : (f count passed : ℕ) → fault_of_column (column_for f count passed) ≡ f
  pub value : (count passed : ℕ)
      → (count_of_column (column_for 0 count passed) ≡ count) × (passed_of_column (column_for 0 count passed) ≡ passed)
  pub refused : (f count passed : ℕ) → 1 ≤ f
      → (count_of_column (column_for f count passed) ≡ 0) × (passed_of_column (column_for f count passed) ≡ 0)
  pub given : (f count passed : ℕ) → GivenColumn (column_for f count passed)
  pub every : (answer : Column) → GivenColumn answer
      → column_for (fault_of_column answer) (count_of_column answer) (passed_of_column answer) ≡ answer
