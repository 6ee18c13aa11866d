-- Where a name's words stand, by the cases of a lookup.
use Prim.Native.Nat.{ℕ, zero, suc, ◌+◌, ◌-◌, ◌*◌, ◌≤◌}
use native.Mathlib.Omega.{arith}
use mathlib.Core.Path.{◌≡◌, refl, sym, ap, ◌∙◌}
use mathlib.Core.Bool.{Bool, true, false, cond}
use mathlib.Core.List.{List, [], ◌∷◌, ◌++◌}
use lib.Dec.{eqb}
use lib.ListN.{length, take, drop, length-drop}
use borrow.Author.Tests.{eq-eqb, ne_eqb, eqb-true}
use Rattle.signals.proofs.Truth.{true_false}
use Rattle.format.proofs.Judging.{sound, found_in, found_known, Fronted, fronted}
use Rattle.format.proofs.PlaceSays.{place_says}
use Rattle.names.specs.Names.{well_named}
use Rattle.format.specs.Names.{same, among}
use Rattle.slices.specs.Bytes.{low16}
use Rattle.format.specs.Reading.{name_at, word_count, signal_size, signal_fault, signals_fault, front_fault, sheet_fault, count_on}
use Rattle.format.specs.Reading.{signals_on}
use Rattle.format.specs.Reading.{signals_from, names}
use Rattle.format.specs.Calls.{fault_of_place, first_byte, byte_count, place_for, place_from, place_on, place_of, lookup_fault, lookup_of}
use Rattle.format.specs.Calls.{part_at}
use Rattle.format.specs.Walk.{Whole}
use Rattle.format.specs.declared.Place.{Place}
use Rattle.format.specs.declared.Place.TheVariants.{At, Refused}
use Rattle.signals.specs.Answers.{first_of}
use Rattle.signals.proofs.FirstFault.{both_none}

-- signals without a fault are whole
pub all_whole : (earlier : List (List ℕ)) (n : ℕ) (rest : List ℕ) → signals_fault earlier n rest ≡ 0 → Whole n rest
unfolding signals_fault first_of
all_whole earlier zero rest h = tt
all_whole earlier (suc n) rest h =
    let e = both_none (signal_fault earlier rest) _ h in
    ((sound earlier rest e.0).whole, all_whole (earlier ++ name_at rest ∷ []) n (drop (signal_size rest) rest) e.1)

-- an accepted sheet: its front passed, its signals are whole
pub front_none : (sheet : List ℕ) → sheet_fault sheet ≡ 0 → Fronted sheet
unfolding sheet_fault first_of
front_none sheet h = fronted sheet (both_none (front_fault sheet) _ h).0

pub signals_none : (sheet : List ℕ) → sheet_fault sheet ≡ 0 → signals_fault [] (count_on sheet) (drop 7 sheet) ≡ 0
unfolding sheet_fault first_of
signals_none sheet h = (both_none (front_fault sheet) _ h).1

pub sheet_whole : (sheet : List ℕ) → sheet_fault sheet ≡ 0 → Whole (count_on sheet) (drop 7 sheet)
sheet_whole sheet h = all_whole [] (count_on sheet) (drop 7 sheet) (signals_none sheet h)

pub place_refused : (name : List ℕ) (at n : ℕ) (rest : List ℕ) → found_in (place_from name at n rest) ≡ false
    → place_from name at n rest ≡ Refused 13
unfolding place_from
place_refused name at zero rest h = refl
place_refused name at (suc n) rest h =
    go (same (name_at rest) name) (λ k. place_refused name (at + signal_size rest) n (drop (signal_size rest) rest) k) h
  where
    go : (t : Bool)
        → (found_in (place_from name (at + signal_size rest) n (drop (signal_size rest) rest)) ≡ false
        → place_from name (at + signal_size rest) n (drop (signal_size rest) rest) ≡ Refused 13)
        → found_in (cond t (At (at + 10) (4 * word_count rest)) (place_from name (at + signal_size rest) n
        (drop (signal_size rest) rest))) ≡ false
        → cond t (At (at + 10) (4 * word_count rest)) (place_from name (at + signal_size rest) n (drop (signal_size rest) rest)) ≡
        Refused 13
    go true again k = true_false k
    go false again k = again k

found_place : (p : Place) → found_in p ≡ true → At (first_byte p) (byte_count p) ≡ p
found_place (At start count) e = refl
found_place (Refused fault) e = true_false (sym e)

pub count_is : (sheet : List ℕ) (n : ℕ) → n ≡ low16 (drop 5 sheet) → n ≡ count_on sheet
unfolding count_on
count_is sheet n e = e

module _ (sheet name : List ℕ) where
  pub place_bad_sheet : (sheet_fault sheet ≡ 0 → ⊥) → Refused (sheet_fault sheet) ≡ place_of sheet name
  unfolding place_of lookup_fault first_of
  place_bad_sheet z = sym (rw (ne_eqb _ _ z, ne_eqb _ _ z))

  module _ (z : sheet_fault sheet ≡ 0) where
    pub place_bad_name : well_named name ≡ false → Refused 16 ≡ place_of sheet name
    unfolding place_of lookup_fault first_of
    place_bad_name f = sym (rw (eq-eqb _ _ z, f))

    pub place_walked : well_named name ≡ true → place_from name 7 (count_on sheet) (drop 7 sheet) ≡ place_of sheet name
    unfolding place_of lookup_fault signals_on first_of
    place_walked t =
        sym (rw (eq-eqb _ _ z, t)
        (go (among name (names (signals_from (count_on sheet) (drop 7 sheet)))) (found_known name 7 (count_on sheet) (drop 7 sheet))))
      where
        go : (k : Bool) → found_in (place_on sheet name) ≡ k
            → place_for (cond k 0 13) (first_byte (place_on sheet name)) (byte_count (place_on sheet name)) ≡ place_on sheet name
        go true e = found_place (place_on sheet name) e
        go false e = sym (place_refused name 7 (count_on sheet) (drop 7 sheet) e)

-- a place that a lookup gives lies within the sheet
within_from : (name : List ℕ) (at n : ℕ) (rest : List ℕ) (start count : ℕ) → Whole n rest
    → place_from name at n rest ≡ At start count → (at ≤ start) × (start + count ≤ at + length rest)
unfolding place_from signal_size
within_from name at zero rest start count w e = absurd (let z : ◌≡◌ {A = Bool} false true = ap found_in e in true_false (sym z))
within_from name at (suc n) rest start count w e =
    go (same (name_at rest) name)
    (λ k. within_from name (at + signal_size rest) n (drop (signal_size rest) rest) start count w.1 k) e
  where
    go : (t : Bool)
        → (place_from name (at + signal_size rest) n (drop (signal_size rest) rest) ≡ At start count
        → (at + signal_size rest ≤ start) × (start + count ≤ at + signal_size rest + length (drop (signal_size rest) rest)))
        → cond t (At (at + 10) (4 * word_count rest))
        (place_from name (at + signal_size rest) n (drop (signal_size rest) rest)) ≡ At start count
        → (at ≤ start) × (start + count ≤ at + length rest)
    go true again k =
        let a : at + 10 ≡ start = cc in
        let b : 4 * word_count rest ≡ count = cc in
        (omega arith, omega (arith, w.0))
    go false again k = (omega (arith, (again k).0), omega (arith, (again k).1, w.0, length-drop (signal_size rest) rest))

-- a lookup without a fault
pub record Found (sheet name : List ℕ) : Type 0 where
  pub fine : sheet_fault sheet ≡ 0
  pub named : well_named name ≡ true
  pub held : among name (names (signals_on sheet)) ≡ true

pub lookup_none : (sheet name : List ℕ) → lookup_fault sheet name ≡ 0 → Found sheet name
unfolding lookup_fault first_of
lookup_none sheet name h =
    let e = both_none (sheet_fault sheet) _ h in
    go (well_named name) (among name (names (signals_on sheet))) refl refl e.0 e.1
  where
    go : (w k : Bool) → well_named name ≡ w → among name (names (signals_on sheet)) ≡ k → sheet_fault sheet ≡ 0
        → ◌≡◌ {A = ℕ} (cond w (cond k 0 13) 16) 0 → Found sheet name
    go true true a b z q = record { fine = z; named = a; held = b }
    go true false a b z q = absurd (omega arith)
    go false k a b z q = absurd (omega arith)

pub held_from : (sheet name : List ℕ) → among name (names (signals_on sheet)) ≡ true
    → among name (names (signals_from (count_on sheet) (drop 7 sheet))) ≡ true
unfolding signals_on
held_from sheet name h = h

pub place_within : (sheet name : List ℕ) (start count : ℕ) → place_of sheet name ≡ At start count
    → (start ≤ length sheet) × (start + count ≤ length sheet)
unfolding place_of lookup_fault first_of
place_within sheet name start count e = go (eqb (lookup_fault sheet name) 0) refl e
  where
    go : (t : Bool) → eqb (lookup_fault sheet name) 0 ≡ t
        → cond t (At (first_byte (place_on sheet name)) (byte_count (place_on sheet name))) (Refused (lookup_fault sheet name)) ≡ At
        start count
        → (start ≤ length sheet) × (start + count ≤ length sheet)
    go true z k =
        let f = lookup_none sheet name (eqb-true (lookup_fault sheet name) 0 z) in
        let p = found_place (place_on sheet name) (found_known name 7 (count_on sheet) (drop 7 sheet) ∙ held_from sheet name f.held) in
        let w = within_from name 7 (count_on sheet) (drop 7 sheet) start count (sheet_whole sheet f.fine) (sym p ∙ k) in
        let m = (front_none sheet f.fine).room in
        (omega (arith, w.1, length-drop 7 sheet), omega (arith, w.1, length-drop 7 sheet))
    go false z k = absurd (let q : ◌≡◌ {A = Bool} false true = ap found_in k in true_false (sym q))

pub place_fault : (sheet name : List ℕ) → fault_of_place (place_of sheet name) ≡ lookup_fault sheet name
unfolding place_of
place_fault sheet name = place_says.fault (lookup_fault sheet name) _ _

-- the part at the place that a lookup gives: its bytes, and where it lies in the sheet's memory
pub part_is : (sheet name : List ℕ) (start count : ℕ) → place_of sheet name ≡ At start count
    → take (start + count - start) (drop start sheet) ≡ lookup_of sheet name
unfolding lookup_of
part_is sheet name start count e =
    let k : start + count - start ≡ count = omega arith in
    rw k (sym (ap (part_at sheet) e))

pub lies_at : (sheet name : List ℕ) (p : ℕ × ℕ) (place : Place) → place_of sheet name ≡ place
    → ◌≡◌ {A = ℕ × ℕ} (p.0, first_byte place + p.1) (p.0, first_byte (place_of sheet name) + p.1)
lies_at sheet name p place e = sym (ap (λ (x : Place). (p.0, first_byte x + p.1)) e)

pub part_none : (sheet name part : List ℕ) (fault : ℕ) → place_of sheet name ≡ Refused fault → length part ≡ 0 → part ≡ lookup_of sheet name
unfolding lookup_of
part_none sheet name [] fault e k = sym (ap (part_at sheet) e)
part_none sheet name (b ∷ bs) fault e k = absurd (omega arith)
