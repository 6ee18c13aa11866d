-- Statement: The place that a lookup names is that of the name's own words: past mark, version and count, the signals before it, its name
-- and its word count; and it holds all the words of its list.
use Rattle.std.specs.Prelude.{ℕ, ◌+◌, ◌*◌, ◌≡◌, List, ◌∷◌, ◌++◌, length}
use Rattle.format.specs.Reading.{signals_on, Entry, entry}
use Rattle.format.specs.Writing.{entries_bytes}
use Rattle.format.specs.Calls.{lookup_fault, first_byte, byte_count, place_of}

pub record AtItsWords (sheet name : List ℕ) : Type 0 where
  pub before : List Entry
  pub list : List ℕ
  pub after : List Entry
  pub signals : signals_on sheet ≡ before ++ entry name list ∷ after
  pub first : first_byte (place_of sheet name) ≡ 7 + (length (entries_bytes before) + 10)
  pub count : byte_count (place_of sheet name) ≡ 4 * length list

abbrev pub LookupPlace : Type 0
LookupPlace = (sheet name : List ℕ) → lookup_fault sheet name ≡ 0 → AtItsWords sheet name
