-- Appending: the cases of its faults, and the sheet with one signal more, written piece after piece.
use Prim.Native.Nat.{ℕ, ◌+◌, ◌-◌, ◌*◌, ◌≤◌, ◌<◌}
use native.Mathlib.Nat.{zero-add}
use native.Mathlib.Omega.{arith}
use mathlib.Core.Path.{◌≡◌, refl, sym, ap, ◌∙◌}
use mathlib.Core.Bool.{true, false, not, ◌||◌, cond}
use mathlib.Core.List.{List, [], ◌∷◌, ◌++◌, append_assoc, append-nil}
use lib.Dec.{leb, ltb}
use lib.ListN.{length, take, drop, length-append, length-drop}
use lib.Seq.{length-take-le}
use borrow.Author.Tests.{ltb-false, le-leb, lt-leb, leb-false, ne_eqb, eq-eqb}
use Rattle.signals.specs.Words.{list_fault}
use Rattle.signals.specs.Answers.{written_of, output_of}
use Rattle.signals.specs.declared.Written.TheVariants.{Count, Refused}
use Rattle.signals.proofs.Truth.{neither_left, neither_right, not_down}
use Rattle.format.proofs.Judging.{past}
use Rattle.slices.proofs.Steps.{part_rest}
use Rattle.format.proofs.Locating.{front_none}
use Rattle.format.proofs.Fields.{named_short}
use Rattle.format.proofs.Filling.{length_entry, two}
use Rattle.slices.proofs.Placing.{then_put}
use Rattle.format.proofs.ReadBack.{sheet_written, length_signals}
use Rattle.names.specs.Names.{well_named}
use Rattle.format.specs.Names.{among}
use Rattle.slices.specs.Bytes.{bytes16, Bytes}
use Rattle.format.specs.Reading.{mark, sheet_fault, count_on, signals_on, names, Entry, entry}
use Rattle.format.specs.Writing.{entry_bytes, entries_bytes, sheet_bytes}
use Rattle.format.specs.Calls.{appended, append_fault}
use Rattle.slices.specs.Slices.{placed}
use Rattle.signals.specs.Answers.{first_of}
use Rattle.signals.proofs.FirstFault.{both_none}

pub length_on : (sheet : List ℕ) → length (signals_on sheet) ≡ count_on sheet
unfolding signals_on
length_on sheet = length_signals (count_on sheet) (drop 7 sheet)

pub entries_snoc : (es : List Entry) (e : Entry) → entries_bytes (es ++ e ∷ []) ≡ entries_bytes es ++ entry_bytes e
unfolding entries_bytes
entries_snoc [] e = append-nil (entry_bytes e)
entries_snoc (x ∷ es) e =
    ap (λ (l : List ℕ). entry_bytes x ++ l) (entries_snoc es e) ∙ sym (append_assoc (entry_bytes x) (entries_bytes es) (entry_bytes e))

length_snoc : (es : List Entry) (e : Entry) → length (es ++ e ∷ []) ≡ length es + 1
length_snoc es e = length-append es (e ∷ [])

-- the sheet with one more, by pieces of the old sheet
module _ (sheet : List ℕ) (b : Bytes sheet) (z : sheet_fault sheet ≡ 0) where
  written : sheet_bytes (signals_on sheet) ≡ sheet
  written = (sheet_written sheet b z).0

  front_of : take 5 (sheet_bytes (signals_on sheet)) ≡ mark ++ bytes16 1
  unfolding sheet_bytes bytes16
  front_of = refl

  body_of : drop 7 (sheet_bytes (signals_on sheet)) ≡ entries_bytes (signals_on sheet)
  unfolding sheet_bytes bytes16
  body_of = refl

  front_kept : mark ++ bytes16 1 ≡ take 5 sheet
  front_kept = sym front_of ∙ ap (λ (l : List ℕ). take 5 l) written

  body_kept : entries_bytes (signals_on sheet) ≡ drop 7 sheet
  body_kept = sym body_of ∙ ap (λ (l : List ℕ). drop 7 l) written

  pub appended_as : (name list : List ℕ)
      → appended sheet name list ≡ ((take 5 sheet ++ bytes16 (count_on sheet + 1)) ++ drop 7 sheet) ++ entry_bytes (entry name list)
  unfolding appended sheet_bytes
  appended_as name list =
      ap (λ (l : List ℕ). mark ++ (bytes16 1 ++ (bytes16 (length (signals_on sheet ++ entry name list ∷ [])) ++ l)))
      (entries_snoc (signals_on sheet) (entry name list) ∙ ap (λ (l : List ℕ). l ++ entry_bytes (entry name list)) body_kept)
      ∙ ap (λ (k : ℕ). mark ++ (bytes16 1 ++ (bytes16 k ++ (drop 7 sheet ++ entry_bytes (entry name list)))))
      (length_snoc (signals_on sheet) (entry name list) ∙ ap (λ (k : ℕ). k + 1) (length_on sheet))
      ∙ sym (append_assoc mark (bytes16 1) (bytes16 (count_on sheet + 1) ++ (drop 7 sheet ++ entry_bytes (entry name list))))
      ∙ ap (λ (l : List ℕ). l ++ (bytes16 (count_on sheet + 1) ++ (drop 7 sheet ++ entry_bytes (entry name list)))) front_kept
      ∙ sym (append_assoc (take 5 sheet) (bytes16 (count_on sheet + 1)) (drop 7 sheet ++ entry_bytes (entry name list)))
      ∙ sym (append_assoc (take 5 sheet ++ bytes16 (count_on sheet + 1)) (drop 7 sheet) (entry_bytes (entry name list)))

  pub length_appended : (name list : List ℕ) → length name ≤ 8 → length (appended sheet name list) ≡ length sheet + (10 + 4 * length list)
  length_appended name list h =
      let r = (front_none sheet z).room in
      let f = length-take-le 5 sheet (omega arith) in
      ap length (appended_as name list)
      ∙ simp (length-append, f, two, length-drop, length_entry name list h) (omega arith)

-- a new name for a sheet without a fault
pub record Fresh (sheet name : List ℕ) : Type 0 where
  pub fine : sheet_fault sheet ≡ 0
  pub named : well_named name ≡ true
  pub new : among name (names (signals_on sheet)) ≡ false

-- the cases of its faults
module _ (sheet name list : List ℕ) (room : ℕ) where
  pub append_sheet : (sheet_fault sheet ≡ 0 → ⊥) → sheet_fault sheet ≡ append_fault sheet name list room
  unfolding append_fault first_of
  append_sheet n = sym (rw (ne_eqb _ _ n))

  module _ (z : sheet_fault sheet ≡ 0) where
    pub append_malformed : well_named name ≡ false → append_fault sheet name list room ≡ 16
    unfolding append_fault first_of
    append_malformed f = rw (eq-eqb _ _ z, f)

    pub append_repeated : well_named name ≡ true → among name (names (signals_on sheet)) ≡ true → append_fault sheet name list room ≡ 16
    unfolding append_fault first_of
    append_repeated t k = rw (eq-eqb _ _ z, t, k)

  module _ (f : Fresh sheet name) where
    pub append_list : (l : ℕ) → l ≡ list_fault list → (l ≡ 0 → ⊥) → l ≡ append_fault sheet name list room
    unfolding append_fault first_of
    append_list l le n = sym (rw (eq-eqb _ _ f.fine, f.named, f.new, ← le, ne_eqb _ _ n))

    module _ (m : list_fault list ≡ 0) (n : ℕ) (ne : n ≡ count_on sheet) where
      pub append_full : 32 ≤ n → append_fault sheet name list room ≡ 15
      unfolding append_fault first_of
      append_full p = rw (eq-eqb _ _ f.fine, f.named, f.new, eq-eqb _ _ m, length_on sheet, ← ne, le-leb _ _ p)

      pub append_sized : n < 32 → Bytes sheet → append_fault sheet name list room ≡ cond
          (ltb room (length sheet + (10 + 4 * length list))) 7 0
      unfolding append_fault first_of
      append_sized q b =
          rw (
            eq-eqb _ _ f.fine,
            f.named,
            f.new,
            eq-eqb _ _ m,
            length_on sheet,
            ← ne,
            lt-leb _ _ q,
            length_appended sheet b f.fine name list (named_short name f.named),
          )
          refl

-- an appending that has no fault
pub record Appends (sheet name list : List ℕ) (room : ℕ) : Type 0 where
  pub fine : sheet_fault sheet ≡ 0
  pub named : well_named name ≡ true
  pub new : among name (names (signals_on sheet)) ≡ false
  pub listed : list_fault list ≡ 0
  pub fewer : count_on sheet < 32
  pub room_enough : length (appended sheet name list) ≤ room

pub appends : (sheet name list : List ℕ) (room : ℕ) → append_fault sheet name list room ≡ 0 → Appends sheet name list room
unfolding append_fault first_of
appends sheet name list room h =
    let a = both_none (sheet_fault sheet) _ h in
    let n = past (not (well_named name) || among name (names (signals_on sheet))) 15 _ a.1 in
    let l = both_none (list_fault list) _ n.1 in
    let k = past (leb 32 (length (signals_on sheet))) 14 _ l.1 in
    let r = past (ltb room (length (appended sheet name list))) 6 _ k.1 in
    record {
      fine = a.0;
      named = not_down _ (neither_left _ (among name (names (signals_on sheet))) n.0);
      new = neither_right (not (well_named name)) _ n.0;
      listed = l.0;
      fewer = rw length_on at (leb-false 32 (length (signals_on sheet)) k.0);
      room_enough = ltb-false room (length (appended sheet name list)) r.0;
    }

-- a refused appending writes nothing
pub append_refused : (sheet name list out : List ℕ) (f : ℕ) → f ≡ append_fault sheet name list (length out) → (f ≡ 0 → ⊥)
    → (Refused f ≡ written_of (append_fault sheet name list (length out)) (appended sheet name list))
    × (out ≡ output_of (append_fault sheet name list (length out)) (appended sheet name list) out)
unfolding written_of output_of
append_refused sheet name list out f e n = (sym (rw (← e, ne_eqb f 0 n)), sym (rw (← e, ne_eqb f 0 n)))

placed_front : (out x : List ℕ) → placed out 0 x ≡ x ++ drop (length x) out
placed_front out x = ap (λ (k : ℕ). x ++ drop k out) (zero-add (length x))

-- an appending without a fault writes the sheet with one signal more
module _ (sheet name list out o₁ o₂ o₃ o₄ : List ℕ) (n : ℕ) (b : Bytes sheet) (z : append_fault sheet name list (length out) ≡ 0)
    (ne : n ≡ count_on sheet) (e : o₁ ≡ placed out 0 (take 5 sheet)) (f : o₂ ≡ placed o₁ 5 (bytes16 (n + 1)))
    (g : o₃ ≡ placed o₂ 7 (take (length sheet - 7) (drop 7 sheet))) (h : o₄ ≡ placed o₃ (length sheet) (entry_bytes (entry name list)))
  where
    append_size : length (appended sheet name list) ≡ length sheet + (10 + 4 * length list)
    append_size =
        let a = appends sheet name list (length out) z in
        length_appended sheet b a.fine name list (named_short name a.named)

    pieces : o₄ ≡ placed out 0 (((take 5 sheet ++ bytes16 (n + 1)) ++ drop 7 sheet) ++ entry_bytes (entry name list))
    pieces =
        let a = appends sheet name list (length out) z in
        let r = (front_none sheet a.fine).room in
        let s = append_size in
        let m = a.room_enough in
        let l₁ : length (take 5 sheet) ≡ 5 = length-take-le 5 sheet (omega arith) in
        let l₂ : length (take 5 sheet ++ bytes16 (n + 1)) ≡ 7 = simp (length-append, l₁, two) in
        let l₃ : length ((take 5 sheet ++ bytes16 (n + 1)) ++ drop 7 sheet) ≡ length sheet = simp (length-append, l₁, two, length-drop)
        (omega arith) in
        let l₄ = length_entry name list (named_short name a.named) in
        let h₂ = then_put out o₁ o₂ 0 5 (take 5 sheet) (bytes16 (n + 1)) e f (omega arith) (omega (arith, two (n + 1))) in
        let h₃ =
        then_put out o₂ o₃ 0 7 (take 5 sheet ++ bytes16 (n + 1)) (drop 7 sheet) h₂
        (g ∙ ap (λ (l : List ℕ). placed o₂ 7 l) (part_rest sheet 7)) (omega arith) (omega (arith, length-drop 7 sheet)) in
        then_put out o₃ o₄ 0 (length sheet) ((take 5 sheet ++ bytes16 (n + 1)) ++ drop 7 sheet) (entry_bytes (entry name list)) h₃ h
        (omega arith) (omega arith)

    pub append_put : (Count (length sheet + (10 + 4 * length list)) ≡ written_of (append_fault sheet name list (length out))
        (appended sheet name list))
        × (o₄ ≡ output_of (append_fault sheet name list (length out)) (appended sheet name list) out)
    unfolding written_of output_of
    append_put =
        let a = appends sheet name list (length out) z in (
          sym (rw (z, append_size)),
          pieces
              ∙ ap
              (λ (k : ℕ). placed out 0 (((take 5 sheet ++ bytes16 (k + 1)) ++ drop 7 sheet) ++ entry_bytes (entry name list))) ne
              ∙ ap (λ (l : List ℕ). placed out 0 l) (sym (appended_as sheet b a.fine name list))
              ∙ placed_front out (appended sheet name list)
              ∙ sym (rw z),
        )

-- what an appending without a fault knows of sizes
pub record Roomy (sheet name list out : List ℕ) : Type 0 where
  pub front : 7 ≤ length sheet
  pub short : length name ≤ 8
  pub all : length sheet + (10 + 4 * length list) ≤ length out

pub append_room : (sheet name list out : List ℕ) → Bytes sheet → append_fault sheet name list (length out) ≡ 0 → Roomy sheet name list out
append_room sheet name list out b z =
    let a = appends sheet name list (length out) z in
    let s = named_short name a.named in
    let e = length_appended sheet b a.fine name list s in
    let r = a.room_enough in
    record { front = (front_none sheet a.fine).room; short = s; all = omega arith }
