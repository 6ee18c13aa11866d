-- The answers of the calls on sheets are small: a sheet has at most 32 signals of at most 1,034 bytes.
use Prim.Native.Nat.{ℕ, ◌+◌, ◌*◌, ◌<◌, ◌≤◌}
use native.Mathlib.Omega.{arith}
use mathlib.Core.Path.{◌≡◌, refl, sym, ap, ◌∙◌}
use mathlib.Core.Bool.{true, not, ◌||◌}
use mathlib.Core.Logic.{inl, inr}
use mathlib.Core.List.{List, [], ◌∷◌, ◌++◌}
use lib.Dec.{eqb, ltb, leb}
use lib.ListN.{length, length-append}
use Rattle.signals.specs.Words.{list_fault}
use Rattle.signals.specs.Answers.{written_of}
use Rattle.slices.specs.Bytes.{bytes16}
use Rattle.names.specs.Names.{well_named}
use Rattle.format.specs.Names.{among}
use Rattle.format.specs.Reading.{sheet_fault, signals_on, names, Entry}
use Rattle.format.specs.Reading.{entry}
use Rattle.format.specs.Writing.{entry_bytes, entries_bytes, sheet_bytes}
use Rattle.format.specs.Calls.{fault_of_place, begin_fault, lookup_fault, place_of, appended, append_fault}
use Rattle.format.specs.declared.Place.{Place}
use Rattle.format.specs.declared.Place.TheVariants as place
use Rattle.format.proofs.Locating.{place_within, lookup_none, place_fault}
use Rattle.format.proofs.SheetSize.{sheet_short}
use Rattle.format.proofs.Fields.{named_short}
use Rattle.format.proofs.Filling.{length_entry}
use Rattle.format.proofs.Accepting.{listed_some}
use Rattle.format.proofs.Appending.{length_on, entries_snoc, appends}
use Rattle.format.proofs.SheetLists.{AllSound, sheet_sound}
use Rattle.format.proofs.FaultNumbers.{OfSheets, sheet_of}
use Rattle.packing.proofs.SmallAnswers.{SmallWritten, SmallPlace, choice, list_small, written_small}
use Rattle.signals.specs.Answers.{first_of}

pub sheet_small : (sheet : List ℕ) → sheet_fault sheet < 65536
sheet_small sheet = go (sheet_fault sheet) (sheet_of sheet)
  where
    go : (f : ℕ) → OfSheets f → f < 65536
    go f (inl e) = omega arith
    go f (inr e) = omega (arith, e.1)

empty_short : length (sheet_bytes []) < 65536
unfolding sheet_bytes bytes16 entries_bytes
empty_short = omega arith

pub begin_small : (room : ℕ) → SmallWritten (written_of (begin_fault room) (sheet_bytes []))
unfolding begin_fault
begin_small room =
    written_small _ _ (choice (ltb room (length (sheet_bytes []))) 7 0 (omega arith) (omega arith)) (λ z. empty_short)

pub lookup_small : (sheet name : List ℕ) → lookup_fault sheet name < 65536
unfolding lookup_fault first_of
lookup_small sheet name =
    choice (eqb (sheet_fault sheet) 0) _ (sheet_fault sheet)
    (choice (well_named name) _ 16 (choice (among name (names (signals_on sheet))) 0 13 (omega arith) (omega arith)) (omega arith))
    (sheet_small sheet)

pub place_small : (sheet name : List ℕ) → SmallPlace (place_of sheet name)
place_small sheet name = go (place_of sheet name) refl
  where
    go : (p : Place) → place_of sheet name ≡ p → SmallPlace p
    go (place.At start count) e =
        let z : lookup_fault sheet name ≡ 0 = sym (place_fault sheet name) ∙ ap fault_of_place e in
        let l = sheet_short sheet (lookup_none sheet name z).fine in
        let w = place_within sheet name start count e in
        (omega arith, omega arith, omega arith)
    go (place.Refused f) e =
        let z : f ≡ lookup_fault sheet name = sym (ap fault_of_place e) ∙ place_fault sheet name in
        (omega (arith, lookup_small sheet name), omega arith, omega arith)

entry_short : (name list : List ℕ) → well_named name ≡ true → list_fault list ≡ 0 → length (entry_bytes (entry name list)) ≤ 1034
entry_short name list n l = omega (arith, length_entry name list (named_short name n), (listed_some list l).1)

entries_short : (es : List Entry) → AllSound es → length (entries_bytes es) ≤ 1034 * length es
unfolding entries_bytes
entries_short [] h = omega arith
entries_short (entry name list ∷ es) h =
    let first = entry_short name list h.0.named h.0.listed in
    let rest = entries_short es h.1 in
    omega (arith, length-append (entry_bytes (entry name list)) (entries_bytes es))

-- a sheet with one signal more
bytes_of : (es : List Entry) (name list : List ℕ)
    → length (sheet_bytes (es ++ entry name list ∷ [])) ≡ 7 + (length (entries_bytes es) + length (entry_bytes (entry name list)))
unfolding sheet_bytes bytes16
bytes_of es name list =
    simp (length-append, entries_snoc) (omega arith)

appended_bytes : (sheet name list : List ℕ)
    → length (appended sheet name list) ≡ 7 + (length (entries_bytes (signals_on sheet)) + length (entry_bytes (entry name list)))
unfolding appended
appended_bytes sheet name list = bytes_of (signals_on sheet) name list

appended_short : (sheet name list : List ℕ) (room : ℕ) → append_fault sheet name list room ≡ 0 → length (appended sheet name list) < 65536
appended_short sheet name list room z =
    let a = appends sheet name list room z in
    let s = entries_short (signals_on sheet) (sheet_sound sheet a.fine) in
    let e = entry_short name list a.named a.listed in
    let f = a.fewer in
    omega (arith, length_on sheet, appended_bytes sheet name list)

append_fault_small : (sheet name list : List ℕ) (room : ℕ) → append_fault sheet name list room < 65536
unfolding append_fault first_of
append_fault_small sheet name list room =
    choice (eqb (sheet_fault sheet) 0) _ (sheet_fault sheet)
    (choice (not (well_named name) || among name (names (signals_on sheet))) 16 _ (omega arith)
    (choice (eqb (list_fault list) 0) _ (list_fault list)
    (choice (leb 32 (length (signals_on sheet))) 15 _ (omega arith)
    (choice (ltb room (length (appended sheet name list))) 7 0 (omega arith) (omega arith)))
    (list_small list)))
    (sheet_small sheet)

pub append_small : (sheet name list : List ℕ) (room : ℕ)
    → SmallWritten (written_of (append_fault sheet name list room) (appended sheet name list))
append_small sheet name list room =
    written_small _ _ (append_fault_small sheet name list room) (appended_short sheet name list room)
