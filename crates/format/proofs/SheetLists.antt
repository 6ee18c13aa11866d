-- The lists of an accepted sheet are accepted, and its names are names.
use Prim.Native.Nat.{ℕ, zero, suc}
use native.Mathlib.Omega.{arith}
use mathlib.Core.Path.{◌≡◌, refl, sym, ◌∙◌, ap}
use mathlib.Core.Bool.{Bool, true, false, cond}
use mathlib.Core.List.{List, [], ◌∷◌, ◌++◌}
use lib.ListN.{drop, take}
use Rattle.signals.specs.Words.{list_fault}
use Rattle.slices.specs.Bytes.{Bytes, Words, words_in}
use Rattle.names.specs.Names.{well_named}
use Rattle.format.specs.Names.{same, among}
use Rattle.format.specs.Reading.{name_at, word_count, signal_size, signal_fault, signals_fault, front_fault, sheet_fault, count_on}
use Rattle.format.specs.Reading.{Entry, entry, signals_from, signals_on, name_of, list_on, names, list_named}
use Rattle.signals.proofs.Truth.{true_false}
use Rattle.format.proofs.Steps.{same_equal}
use Rattle.format.proofs.Digits.{bytes_drop, words_in_below}
use Rattle.format.proofs.Fields.{fits_named}
use Rattle.format.proofs.Judging.{sound}
use Rattle.format.proofs.Accepting.{words_listed}
use Rattle.signals.specs.Answers.{first_of}
use Rattle.signals.proofs.FirstFault.{both_none}

-- an entry with a name that is one and an accepted list
pub record Sound (e : Entry) : Type 0 where
  pub named : well_named (name_of e) ≡ true
  pub listed : list_fault (list_on e) ≡ 0

abbrev pub AllSound : List Entry → Type 0
AllSound [] = Unit
AllSound (e ∷ es) = Sound e × AllSound es

entry_sound : (earlier : List (List ℕ)) (rest : List ℕ) → signal_fault earlier rest ≡ 0
    → Sound (entry (name_at rest) (words_in (word_count rest) (drop 10 rest)))
unfolding name_at
entry_sound earlier rest e =
    let s = sound earlier rest e in
    record {
      named = fits_named (take 8 rest) s.field;
      listed = words_listed (word_count rest) (drop 10 rest) s.some s.most
          s.words;
    }

entries_sound : (earlier : List (List ℕ)) (n : ℕ) (rest : List ℕ) → signals_fault earlier n rest ≡ 0 → AllSound (signals_from n rest)
unfolding signals_fault signals_from first_of
entries_sound earlier zero rest e = tt
entries_sound earlier (suc n) rest e =
    let a = both_none (signal_fault earlier rest) _ e in
    (entry_sound earlier rest a.0, entries_sound (earlier ++ name_at rest ∷ []) n (drop (signal_size rest) rest) a.1)

pub sheet_sound : (sheet : List ℕ) → sheet_fault sheet ≡ 0 → AllSound (signals_on sheet)
unfolding sheet_fault signals_on first_of
sheet_sound sheet e = entries_sound [] (count_on sheet) (drop 7 sheet) (both_none (front_fault sheet) _ e).1

-- a name among an accepted sheet's is a name, and its list is accepted
pub named_sound : (n : List ℕ) (es : List Entry) → AllSound es → among n (names es) ≡ true
    → (well_named n ≡ true) × (list_fault (list_named n es) ≡ 0)
unfolding among names list_named
named_sound n [] h e = true_false (sym e)
named_sound n (x ∷ es) h e = go (same (name_of x) n) refl (named_sound n es h.1)
  where
    go : (b : Bool) → same (name_of x) n ≡ b → (among n (names es) ≡ true → (well_named n ≡ true) × (list_fault (list_named n es) ≡ 0))
        → (well_named n ≡ true) × (list_fault (cond b (list_on x) (list_named n es)) ≡ 0)
    go true q r = (ap well_named (sym (same_equal (name_of x) n q)) ∙ h.0.named, h.0.listed)
    go false q r = r (rw q at e)

-- its words are words
no_words : Words []
no_words i = omega arith

words_from : (x : List ℕ) (n : ℕ) (rest : List ℕ) → Bytes rest → Words (list_named x (signals_from n rest))
unfolding list_named signals_from
words_from x zero rest h = no_words
words_from x (suc n) rest h =
    go (same (name_at rest) x) (words_from x n (drop (signal_size rest) rest) (bytes_drop rest (signal_size rest) h))
  where
    go : (b : Bool) → Words (list_named x (signals_from n (drop (signal_size rest) rest)))
        → Words (cond b (words_in (word_count rest) (drop 10 rest)) (list_named x (signals_from n (drop (signal_size rest) rest))))
    go true r = words_in_below (word_count rest) (drop 10 rest) (bytes_drop rest 10 h)
    go false r = r

pub named_words : (sheet n : List ℕ) → Bytes sheet → Words (list_named n (signals_on sheet))
unfolding signals_on
named_words sheet n small = words_from n (count_on sheet) (drop 7 sheet) (bytes_drop sheet 7 small)
