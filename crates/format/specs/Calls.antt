-- Believed: The calls on sheets, by document 01: begin, check, lookup with its sister, append.
use Rattle.std.specs.Prelude.{ℕ, zero, suc, ◌+◌, ◌*◌, Bool, not, cond, ◌||◌, List, [], ◌∷◌, ◌++◌, leb, ltb, eqb, length, take, drop}
use Rattle.signals.specs.Words.{list_fault}
use Rattle.names.specs.Names.{well_named}
use Rattle.format.specs.Names.{same, among}
use Rattle.format.specs.Reading.{name_at, word_count, signal_size, sheet_fault, count_on, signals_on, names, entry}
use Rattle.format.specs.Writing.{sheet_bytes}
use Rattle.format.specs.declared.Place.{Place}
use Rattle.format.specs.declared.Place.TheVariants.{At, Refused}
use Rattle.signals.specs.Answers.{first_of}

-- begin: the empty sheet; 7 when the output, of `room` bytes, is shorter
unfoldable pub begin_fault : ℕ → ℕ
begin_fault room = cond (ltb room (length (sheet_bytes []))) 7 0

-- A lookup takes sheet, 16, 13.
unfoldable pub lookup_fault : List ℕ → List ℕ → ℕ
lookup_fault sheet name =
    first_of (sheet_fault sheet) (cond (well_named name) (cond (among name (names (signals_on sheet))) 0 13) 16)

-- Place. The fault number, 0 for none; the first byte and the number of bytes, 0 when refused.
abbrev pub fault_of_place : Place → ℕ
fault_of_place (At start count) = 0
fault_of_place (Refused fault) = fault

abbrev pub first_byte : Place → ℕ
first_byte (At start count) = start
first_byte (Refused fault) = 0

abbrev pub byte_count : Place → ℕ
byte_count (At start count) = count
byte_count (Refused fault) = 0

-- the answer of a lookup with this fault (0 for none), this first byte and this number of bytes
abbrev pub place_for : ℕ → ℕ → ℕ → Place
place_for fault start count = cond (eqb fault 0) (At start count) (Refused fault)

-- where the words of the signal with this name stand among n signals, of which the first starts at this place; 13 when none has it
unfoldable pub place_from : List ℕ → ℕ → ℕ → List ℕ → Place
place_from name at zero rest = Refused 13
place_from name at (suc n) rest =
    cond (same (name_at rest) name) (At (at + 10) (4 * word_count rest))
    (place_from name (at + signal_size rest) n (drop (signal_size rest) rest))

-- the place of a signal's words among all the signals of a sheet, which start at its byte 7
abbrev pub place_on : List ℕ → List ℕ → Place
place_on sheet name = place_from name 7 (count_on sheet) (drop 7 sheet)

-- A lookup's place: the first byte and the number of bytes of the signal's words on the sheet.
unfoldable pub place_of : List ℕ → List ℕ → Place
place_of sheet name = place_for (lookup_fault sheet name) (first_byte (place_on sheet name)) (byte_count (place_on sheet name))

-- how many of the first n signals are whole, before the first that is not
unfoldable pub whole_signals : ℕ → List ℕ → ℕ
whole_signals zero rest = 0
whole_signals (suc n) rest =
    cond (ltb (length rest) (signal_size rest)) 0 (suc (whole_signals n (drop (signal_size rest) rest)))

-- where the words of the signal with this name stand among those
abbrev pub place_among : List ℕ → ℕ → ℕ → List ℕ → Place
place_among name at n rest = place_from name at (whole_signals n rest) rest

-- a place, or 13 where there is none, 16 for what is no name
abbrev pub or_missing : Bool → Place → Place
or_missing named (At start count) = At start count
or_missing named (Refused fault) = Refused (cond named 13 16)

-- Where a name's words stand on a sheet that is judged already: what a lookup says on every accepted sheet; on any other, the place among
-- the whole signals at its front.
unfoldable pub place_judged : List ℕ → List ℕ → Place
place_judged sheet name =
    cond (eqb (sheet_fault sheet) 0) (place_of sheet name) (or_missing (well_named name)
    (place_among name 7 (count_on sheet) (drop 7 sheet)))

-- the bytes of a sheet at a place, none when refused
abbrev pub part_at : List ℕ → Place → List ℕ
part_at sheet place = take (byte_count place) (drop (first_byte place) sheet)

-- Looking up a name gives the part of the sheet's bytes that is that signal's words; refused, an empty part.
unfoldable pub lookup_of : List ℕ → List ℕ → List ℕ
lookup_of sheet name = part_at sheet (place_of sheet name)

-- Appending writes the sheet with one signal appended.
unfoldable pub appended : List ℕ → List ℕ → List ℕ → List ℕ
appended sheet name list = sheet_bytes (signals_on sheet ++ entry name list ∷ [])

-- Appending takes sheet, 16, list, 15, 7.
unfoldable pub append_fault : List ℕ → List ℕ → List ℕ → ℕ → ℕ
append_fault sheet name list room =
    first_of (sheet_fault sheet)
    (cond (not (well_named name) || among name (names (signals_on sheet))) 16
    (first_of (list_fault list)
    (cond (leb 32 (length (signals_on sheet))) 15
    (cond (ltb room (length (appended sheet name list))) 7 0))))
