-- The terms that prove the theorems of specs/Theorems.
use Prim.Native.Nat.{ℕ, suc, ◌+◌, ◌≤◌}
use native.Mathlib.Nat.{mul-div_cancel_left}
use native.Mathlib.Omega.{arith}
use mathlib.Core.Path.{◌≡◌, refl, sym, ap, ◌∙◌}
use mathlib.Core.Bool.{Bool, true, false, cond, ◌||◌}
use mathlib.Core.List.{List, [], ◌∷◌, ◌++◌, append_assoc, append-nil}
use lib.Dec.{eqb}
use lib.ListN.{length, length-append}
use borrow.Author.Tests.{eqb-true, eqb-false, ne_eqb, lt-leb, le-ltb}
use Rattle.signals.specs.Words.{signal_of}
use Rattle.signals.proofs.Truth.{down_of}
use Rattle.format.proofs.Steps.{same_equal, same_refl}
use Rattle.format.proofs.Digits.{words_read}
use Rattle.format.proofs.Placing.{length_words}
use Rattle.format.proofs.Locating.{Found, lookup_none, sheet_whole, place_walked}
use Rattle.format.proofs.ReadBack.{sheet_read, sheet_written}
use Rattle.format.proofs.Appending.{appends, length_on}
use Rattle.format.proofs.Named.{part_list, among_snoc, named_other, named_new, fit_snoc, named_listed, bytes_sheet, fit_split}
use Rattle.names.specs.Names.{well_named}
use Rattle.format.specs.Names.{same, among}
use Rattle.slices.specs.Bytes.{Bytes, Words, word_bytes}
use Rattle.format.specs.Reading.{sheet_fault, count_on, signals_on, names, list_named, environment_on, Entry, entry}
use Rattle.format.specs.Writing.{sheet_bytes, Fits, AllFit, Holdable}
use Rattle.format.specs.Calls.{place_of, part_at, lookup_fault, lookup_of, append_fault, appended}
use Rattle.format.specs.Theorems.{decoded, WrittenReadsBack, ReadWritesBack, LookupGivesTheList, AppendKeepsSheet, AppendGivesNew}
use Rattle.format.specs.Theorems.{AppendKeepsOthers, append_all, AllAppend, BegunReadsBack, OneWriting}
use Rattle.signals.specs.Answers.{first_of}

pub written_reads_back : WrittenReadsBack
written_reads_back = sheet_read

pub read_writes_back : ReadWritesBack
read_writes_back = sheet_written

-- a lookup's part, by its fault
part_found : (sheet name : List ℕ) → Bytes sheet → Found sheet name → lookup_of sheet name ≡ word_bytes (list_named name (signals_on sheet))
unfolding lookup_of signals_on
part_found sheet name b f =
    ap (part_at sheet) (sym (place_walked sheet name f.fine f.named))
    ∙ part_list name sheet 7 (count_on sheet) b (sheet_whole sheet f.fine)

part_refused : (sheet name : List ℕ) → (lookup_fault sheet name ≡ 0 → ⊥) → lookup_of sheet name ≡ []
unfolding lookup_of place_of
part_refused sheet name n = rw (ne_eqb _ _ n)

decoded_bytes : (list : List ℕ) → Words list → decoded (word_bytes list) ≡ list
unfolding decoded
decoded_bytes list k =
    rw (length_words list, mul-div_cancel_left (length list) {n = 4} (omega arith), ← append-nil (word_bytes list)) (words_read list [] k)

pub lookup_gives_the_list : LookupGivesTheList
unfolding environment_on
lookup_gives_the_list sheet name b z =
    let f = lookup_none sheet name z in
    let h = (sheet_written sheet b f.fine).1 in
    let l = named_listed [] name (signals_on sheet) h.fit f.held in
    let p = part_found sheet name b f in
    let d : decoded (lookup_of sheet name) ≡ list_named name (signals_on sheet) = ap decoded p ∙ decoded_bytes _ l.1 in
    record { bytes = p; words = d; listed = l.0; denotes = ap signal_of d }

-- the signals after an append
grown : (sheet name list : List ℕ) (room : ℕ) → Bytes sheet → Words list → append_fault sheet name list room ≡ 0
    → Holdable (signals_on sheet ++ entry name list ∷ [])
grown sheet name list room b k z =
    let a = appends sheet name list room z in
    let h = (sheet_written sheet b a.fine).1 in
    record {
      few = rw (length-append, length_on) (omega (arith, a.fewer));
      fit =
          fit_snoc [] (signals_on sheet) (entry name list) h.fit
          (record { named = a.named; new = a.new; listed = a.listed; words = k });
    }

pub append_keeps_sheet : AppendKeepsSheet
unfolding appended
append_keeps_sheet sheet name list room b k z = sheet_read (signals_on sheet ++ entry name list ∷ []) (grown sheet name list room b k z)

bytes_appended : (sheet name list : List ℕ) (room : ℕ) → Bytes sheet → Words list → append_fault sheet name list room ≡ 0
    → Bytes (appended sheet name list)
unfolding appended
bytes_appended sheet name list room b k z = bytes_sheet (signals_on sheet ++ entry name list ∷ []) (grown sheet name list room b k z)

or_none : (t : Bool) → t || false ≡ t
or_none true = refl
or_none false = refl

-- what an append without a fault leaves of names and lists
module _ (sheet name list : List ℕ) (room : ℕ) (b : Bytes sheet) (k : Words list) (z : append_fault sheet name list room ≡ 0) where
  after : signals_on (appended sheet name list) ≡ signals_on sheet ++ entry name list ∷ []
  after = (append_keeps_sheet sheet name list room b k z).1

  fine_after : sheet_fault (appended sheet name list) ≡ 0
  fine_after = (append_keeps_sheet sheet name list room b k z).0

  lookup_after : (m : List ℕ)
      → lookup_fault (appended sheet name list) m
      ≡ cond (well_named m) (cond (among m (names (signals_on sheet)) || same name m) 0 13) 16
  unfolding lookup_fault first_of
  lookup_after m = rw (fine_after, after, among_snoc)

  lookup_before : (m : List ℕ) → lookup_fault sheet m ≡ cond (well_named m) (cond (among m (names (signals_on sheet))) 0 13) 16
  unfolding lookup_fault first_of
  lookup_before m = rw (appends sheet name list room z).fine

  list_new : list_named name (signals_on (appended sheet name list)) ≡ list
  list_new =
      rw after (named_new name (signals_on sheet) (entry name list) (appends sheet name list room z).new (same_refl name))

  list_other : (m : List ℕ) → (name ≡ m → ⊥) → list_named m (signals_on (appended sheet name list)) ≡ list_named m (signals_on sheet)
  list_other m n = rw after (named_other m (signals_on sheet) (entry name list) (down_of (same name m) (λ e. n (same_equal name m e))))

pub append_gives_new : AppendGivesNew
unfolding environment_on
append_gives_new sheet name list room b k z =
    let a = appends sheet name list room z in
    let f : lookup_fault (appended sheet name list) name ≡ 0 =
    lookup_after sheet name list room b k z name ∙ rw (a.named, a.new, same_refl name) in
    let l = list_new sheet name list room b k z in
    let g = lookup_gives_the_list (appended sheet name list) name (bytes_appended sheet name list room b k z) f in
    record {
      found = f;
      bytes = g.bytes ∙ ap word_bytes l;
      words = g.words ∙ l;
      denotes = ap signal_of l;
    }

pub append_keeps_others : AppendKeepsOthers
unfolding environment_on
append_keeps_others sheet name list other room b k z n =
    record { fault = f; part = p (eqb (lookup_fault sheet other) 0) refl; signal = ap signal_of l }
  where
    f : lookup_fault (appended sheet name list) other ≡ lookup_fault sheet other
    f =
        lookup_after sheet name list room b k z other
        ∙ rw (down_of (same name other) (λ e. n (same_equal name other e)))
        (ap (λ (t : Bool). cond (well_named other) (cond t 0 13) 16) (or_none (among other (names (signals_on sheet)))))
        ∙ sym (lookup_before sheet name list room b k z other)

    l : list_named other (signals_on (appended sheet name list)) ≡ list_named other (signals_on sheet)
    l = list_other sheet name list room b k z other n

    p : (t : Bool) → eqb (lookup_fault sheet other) 0 ≡ t → lookup_of (appended sheet name list) other ≡ lookup_of sheet other
    p true e =
        let q = eqb-true (lookup_fault sheet other) 0 e in
        (lookup_gives_the_list (appended sheet name list) other (bytes_appended sheet name list room b k z) (f ∙ q)).bytes
        ∙ ap word_bytes l
        ∙ sym (lookup_gives_the_list sheet other b q).bytes
    p false e =
        let q = eqb-false (lookup_fault sheet other) 0 e in
        part_refused (appended sheet name list) other (λ h. q (sym f ∙ h)) ∙ sym (part_refused sheet other q)

-- appending to a written sheet
module _ (es : List Entry) (name list : List ℕ) (fs : List Entry) (h : Holdable (es ++ entry name list ∷ fs)) where
  part_fits : AllFit [] es × Fits (names es) (entry name list)
  part_fits = fit_split [] es (entry name list) fs h.fit

  total : length es + suc (length fs) ≤ 32
  total = rw (length-append es (entry name list ∷ fs)) at h.few

  part_holds : Holdable es
  part_holds = record { few = omega (arith, total); fit = part_fits.0 }

  on_part : signals_on (sheet_bytes es) ≡ es
  on_part = (sheet_read es part_holds).1

  next_sheet : appended (sheet_bytes es) name list ≡ sheet_bytes (es ++ entry name list ∷ [])
  unfolding appended
  next_sheet = rw on_part

  no_fault : (room : ℕ) → length (appended (sheet_bytes es) name list) ≤ room → append_fault (sheet_bytes es) name list room ≡ 0
  unfolding append_fault first_of
  no_fault room r =
      rw (
        (sheet_read es part_holds).0,
        part_fits.1.named,
        on_part,
        part_fits.1.new,
        part_fits.1.listed,
        lt-leb 32 (length es) (omega (arith, total)),
        le-ltb room _ r,
      )

  regrouped : (es ++ entry name list ∷ []) ++ fs ≡ es ++ entry name list ∷ fs
  regrouped = append_assoc es (entry name list ∷ []) fs

-- appending signal after signal to a written sheet
all_append : (es fs : List Entry) → Holdable (es ++ fs) → AllAppend (sheet_bytes es) fs
    × (append_all (sheet_bytes es) fs ≡ sheet_bytes (es ++ fs))
unfolding append_all
all_append es [] h = (tt, ap sheet_bytes (sym (append-nil es)))
all_append es (entry name list ∷ fs) h =
    let e = next_sheet es name list fs h in
    let g = regrouped es name list fs h in
    let r = all_append (es ++ entry name list ∷ []) fs (rw g h) in
    ((no_fault es name list fs h, rw e r.0), rw e (r.1 ∙ ap sheet_bytes g))

pub begun_reads_back : BegunReadsBack
begun_reads_back es h =
    let a = all_append [] es h in
    let r = sheet_read es h in
    (a.0, ap sheet_fault a.1 ∙ r.0, ap signals_on a.1 ∙ r.1)

pub one_writing : OneWriting
one_writing sheet b z =
    let w = sheet_written sheet b z in
    let a = all_append [] (signals_on sheet) w.1 in
    (a.0, a.1 ∙ w.0)
