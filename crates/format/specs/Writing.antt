-- Believed: Document 01, "Sheets": the bytes of a sheet that holds these signals, and which signals a sheet can hold.
use Rattle.std.specs.Prelude.{ℕ, ◌≤◌, ◌≡◌, true, false, List, [], ◌∷◌, ◌++◌, length}
use Rattle.signals.specs.Words.{list_fault}
use Rattle.names.specs.Names.{well_named}
use Rattle.format.specs.Names.{padded, among}
use Rattle.slices.specs.Bytes.{bytes16, word_bytes, Words}
use Rattle.format.specs.Reading.{mark, Entry, entry, name_of, list_on}

unfoldable pub entry_bytes : Entry → List ℕ
entry_bytes (entry name list) = padded name ++ (bytes16 (length list) ++ word_bytes list)

unfoldable pub entries_bytes : List Entry → List ℕ
entries_bytes [] = []
entries_bytes (e ∷ es) = entry_bytes e ++ entries_bytes es

-- the mark, the version 1, the count of signals, then each signal
unfoldable pub sheet_bytes : List Entry → List ℕ
sheet_bytes es = mark ++ (bytes16 1 ++ (bytes16 (length es) ++ entries_bytes es))

-- a signal that may stand after those with the earlier names
pub record Fits (earlier : List (List ℕ)) (e : Entry) : Type 0 where
  pub named : well_named (name_of e) ≡ true
  pub new : among (name_of e) earlier ≡ false
  pub listed : list_fault (list_on e) ≡ 0
  pub words : Words (list_on e)

abbrev pub AllFit : List (List ℕ) → List Entry → Type 0
AllFit earlier [] = Unit
AllFit earlier (e ∷ es) = Fits earlier e × AllFit (earlier ++ name_of e ∷ []) es

-- the signals that a sheet can hold: at most 32, no two names alike
pub record Holdable (es : List Entry) : Type 0 where
  pub few : length es ≤ 32
  pub fit : AllFit [] es
