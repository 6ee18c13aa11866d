-- Signals after signals, and whole sheets, written and read.
use Prim.Native.Nat.{ℕ, zero, suc, ◌+◌, ◌≤◌}
use native.Mathlib.Nat.{add-zero, zero-add}
use native.Mathlib.Omega.{arith}
use mathlib.Core.Path.{◌≡◌, refl, sym, ap, ◌∙◌}
use mathlib.Core.Bool.{true, cond}
use mathlib.Core.List.{List, [], ◌∷◌, ◌++◌, append_assoc, append-nil}
use lib.Dec.{eqb}
use lib.ListN.{length, take, drop, take-append-drop, length-drop}
use lib.Seq.{drop-drop}
use borrow.Author.Tests.{ne_eqb}
use Rattle.format.proofs.Judging.{sound, Fronted, front_fine, sheet_past}
use Rattle.format.proofs.Locating.{front_none, signals_none}
use Rattle.format.proofs.Steps.{same_equal}
use Rattle.format.proofs.Digits.{low16_written, written16, bytes_drop}
use Rattle.format.proofs.OneSignal.{name_back, words_back, tail_back, signal_back, signal_written, signal_fits}
use Rattle.format.specs.Names.{same}
use Rattle.slices.specs.Bytes.{low16, bytes16, words_in, Bytes}
use Rattle.format.specs.Reading.{mark, name_at, word_count, signal_size, signal_fault, signals_fault, front_fault, sheet_fault, count_on}
use Rattle.format.specs.Reading.{signals_from, signals_on, names, Entry, entry}
use Rattle.format.specs.Writing.{entry_bytes, entries_bytes, sheet_bytes, AllFit, Holdable}
use Rattle.signals.specs.Answers.{first_of}
use Rattle.signals.proofs.FirstFault.{both_none}

-- signals that are written read back, and are accepted with what follows
pub signals_back : (earlier : List (List ℕ)) (es : List Entry) (tail : List ℕ) → AllFit earlier es
    → signals_from (length es) (entries_bytes es ++ tail) ≡ es
unfolding signals_from entries_bytes
signals_back earlier [] tail f = refl
signals_back earlier (entry name list ∷ es) tail f =
    rw (
      append_assoc (entry_bytes (entry name list)) (entries_bytes es) tail,
      name_back earlier name list (entries_bytes es ++ tail) f.0,
      words_back earlier name list (entries_bytes es ++ tail) f.0,
      tail_back earlier name list (entries_bytes es ++ tail) f.0,
    )
    (ap (λ (l : List Entry). entry name list ∷ l) (signals_back (earlier ++ name ∷ []) es tail f.1))

pub signals_passed : (earlier : List (List ℕ)) (es : List Entry) (n : ℕ) (tail : List ℕ) → AllFit earlier es
    → signals_fault earlier (length es + n) (entries_bytes es ++ tail) ≡ signals_fault (earlier ++ names es) n tail
unfolding signals_fault entries_bytes names first_of
signals_passed earlier [] n tail f = rw (zero-add, append-nil)
signals_passed earlier (entry name list ∷ es) n tail f =
    let k : suc (length es) + n ≡ suc (length es + n) = omega arith in
    rw (
      k,
      append_assoc (entry_bytes (entry name list)) (entries_bytes es) tail,
      signal_back earlier name list (entries_bytes es ++ tail) f.0,
      name_back earlier name list (entries_bytes es ++ tail) f.0,
      tail_back earlier name list (entries_bytes es ++ tail) f.0,
    )
    (signals_passed (earlier ++ name ∷ []) es n tail f.1
    ∙ ap (λ (l : List (List ℕ)). signals_fault l n tail) (append_assoc earlier (name ∷ []) (names es)))

none_over : (rest : List ℕ) → ◌≡◌ {A = ℕ} (cond (eqb (length rest) 0) 0 15) 0 → [] ≡ rest
none_over [] h = refl
none_over (x ∷ xs) h = absurd (let z = rw (ne_eqb (suc (length xs)) 0 (λ e. omega (arith, e))) at h in omega arith)

-- accepted signals are what is written of what they hold
pub signals_written : (earlier : List (List ℕ)) (n : ℕ) (rest : List ℕ) → Bytes rest → signals_fault earlier n rest ≡ 0
    → (entries_bytes (signals_from n rest) ≡ rest) × AllFit earlier (signals_from n rest)
unfolding signals_fault signals_from entries_bytes first_of
signals_written earlier zero rest b h = (none_over rest h, tt)
signals_written earlier (suc n) rest b h =
    let e = both_none (signal_fault earlier rest) _ h in
    let s = sound earlier rest e.0 in
    let r = signals_written (earlier ++ name_at rest ∷ []) n (drop (signal_size rest) rest) (bytes_drop rest (signal_size rest) b) e.1 in (
      ap (λ (l : List ℕ). entry_bytes (entry (name_at rest) (words_in (word_count rest) (drop 10 rest))) ++ l) r.0
          ∙ signal_written earlier rest b s,
      (signal_fits earlier rest b s, r.1),
    )

pub length_signals : (n : ℕ) (rest : List ℕ) → length (signals_from n rest) ≡ n
unfolding signals_from
length_signals zero rest = refl
length_signals (suc n) rest = ap suc (length_signals n (drop (signal_size rest) rest))

-- the front of a sheet that is written
module _ (es : List Entry) (few : length es ≤ 32) where
  pub count_written : count_on (sheet_bytes es) ≡ length es
  unfolding count_on sheet_bytes bytes16
  count_written = low16_written (length es) (entries_bytes es) (omega arith)

  pub body_written : drop 7 (sheet_bytes es) ≡ entries_bytes es
  unfolding sheet_bytes bytes16
  body_written = refl

  pub front_written : front_fault (sheet_bytes es) ≡ 0
  unfolding sheet_bytes bytes16 same low16
  front_written =
      front_fine (sheet_bytes es) (omega arith) true refl refl (omega arith) 1 refl refl (omega arith) (length es)
      (sym (low16_written (length es) (entries_bytes es) (omega arith))) few

accepted : (es : List Entry) → AllFit [] es → signals_fault [] (length es) (entries_bytes es) ≡ 0
unfolding signals_fault first_of
accepted es f =
    ap (λ (k : ℕ). signals_fault [] k (entries_bytes es)) (sym (add-zero (length es)))
    ∙ ap (λ (l : List ℕ). signals_fault [] (length es + 0) l) (sym (append-nil (entries_bytes es)))
    ∙ signals_passed [] es 0 [] f

-- A sheet that is written of signals that it can hold is accepted and holds them.
pub sheet_read : (es : List Entry) → Holdable es → (sheet_fault (sheet_bytes es) ≡ 0) × (signals_on (sheet_bytes es) ≡ es)
unfolding signals_on
sheet_read es h = (
  sheet_past (sheet_bytes es) (front_written es h.few) ∙ rw (count_written es h.few, body_written es h.few) (accepted es h.fit),
  rw (count_written es h.few, body_written es h.few, ← append-nil (entries_bytes es)) (signals_back [] es [] h.fit),
)

-- the front of an accepted sheet
module _ (sheet : List ℕ) (b : Bytes sheet) (f : Fronted sheet) where
  count_kept : bytes16 (count_on sheet) ++ drop 7 sheet ≡ drop 5 sheet
  unfolding count_on
  count_kept =
      rw (← drop-drop 2 5 sheet) (written16 (drop 5 sheet) (bytes_drop sheet 5 b) (rw length-drop (omega (arith, f.room))))

  version_kept : bytes16 1 ++ drop 5 sheet ≡ drop 3 sheet
  version_kept =
      rw (← f.version, ← drop-drop 2 3 sheet) (written16 (drop 3 sheet) (bytes_drop sheet 3 b) (rw length-drop (omega (arith, f.room))))

  mark_kept : mark ++ drop 3 sheet ≡ sheet
  mark_kept =
      ap (λ (l : List ℕ). l ++ drop 3 sheet) (sym (same_equal (take 3 sheet) mark f.marked)) ∙ take-append-drop 3 sheet

-- An accepted sheet is what is written of the signals that it holds, and a sheet can hold them.
pub sheet_written : (sheet : List ℕ) → Bytes sheet → sheet_fault sheet ≡ 0
    → (sheet_bytes (signals_on sheet) ≡ sheet) × Holdable (signals_on sheet)
unfolding signals_on sheet_bytes
sheet_written sheet b h =
    let f = front_none sheet h in
    let s = signals_written [] (count_on sheet) (drop 7 sheet) (bytes_drop sheet 7 b) (signals_none sheet h) in
    let n = length_signals (count_on sheet) (drop 7 sheet) in (
      ap (λ (k : ℕ). mark ++ (bytes16 1 ++ (bytes16 k ++ entries_bytes (signals_from (count_on sheet) (drop 7 sheet))))) n
          ∙ ap (λ (l : List ℕ). mark ++ (bytes16 1 ++ (bytes16 (count_on sheet) ++ l))) s.0
          ∙ ap (λ (l : List ℕ). mark ++ (bytes16 1 ++ l)) (count_kept sheet b f)
          ∙ ap (λ (l : List ℕ). mark ++ l) (version_kept sheet b f)
          ∙ mark_kept sheet b f,
      record { few = rw n f.few; fit = s.1 },
    )
