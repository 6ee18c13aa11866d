-- The place of a name's words among signals, by the walk along them.
use Prim.Native.Nat.{ℕ, zero, suc, ◌+◌, ◌*◌, ◌≤◌}
use native.Mathlib.Omega.{arith}
use mathlib.Core.Path.{◌≡◌, refl, sym, ap, ◌∙◌}
use mathlib.Core.Bool.{Bool, true, false, cond}
use mathlib.Core.List.{List, [], ◌∷◌, ◌++◌}
use lib.Dec.{eqb}
use lib.ListN.{length, take, drop, length-append}
use borrow.Author.Tests.{eq-eqb}
use Rattle.slices.specs.Slices.{before}
use Rattle.format.specs.Names.{same}
use Rattle.slices.specs.Bytes.{words_in}
use Rattle.format.specs.Reading.{name_at, word_count, signal_size, count_on, signals_on, signals_from, Entry, entry}
use Rattle.format.specs.Writing.{entry_bytes, entries_bytes}
use Rattle.format.specs.Calls.{lookup_fault, first_byte, byte_count, place_from, place_of}
use Rattle.format.specs.LookupPlace.{LookupPlace}
use Rattle.format.specs.declared.Place.{Place}
use Rattle.format.specs.declared.Place.TheVariants.{At}
use Rattle.signals.proofs.Truth.{true_false}
use Rattle.format.proofs.Steps.{same_equal}
use Rattle.format.proofs.Judging.{found_in, found_known}
use Rattle.format.proofs.Digits.{length_words_in}
use Rattle.format.proofs.Filling.{length_entry}
use Rattle.format.proofs.Locating.{lookup_none, held_from}

before_short : (stop : ℕ) (l : List ℕ) → length (before stop l) ≤ length l
unfolding before
before_short stop [] = omega arith
before_short stop (b ∷ bs) = go (eqb b stop) (before_short stop bs)
  where
    go : (t : Bool) → length (before stop bs) ≤ length bs → length (cond t [] (b ∷ before stop bs)) ≤ length (b ∷ bs)
    go true h = omega arith
    go false h = omega arith

take_short : (n : ℕ) (l : List ℕ) → length (take n l) ≤ n
take_short zero l = omega arith
take_short (suc n) [] = omega arith
take_short (suc n) (b ∷ bs) = omega (arith, take_short n bs)

name_short : (rest : List ℕ) → length (name_at rest) ≤ 8
unfolding name_at
name_short rest = omega (arith, before_short 0 (take 8 rest), take_short 8 rest)

-- among n signals, of which the first starts at this place
record Stands (name : List ℕ) (at : ℕ) (es : List Entry) (p : Place) : Type 0 where
  before_it : List Entry
  list : List ℕ
  after_it : List Entry
  signals : es ≡ before_it ++ entry name list ∷ after_it
  first : first_byte p ≡ at + (length (entries_bytes before_it) + 10)
  count : byte_count p ≡ 4 * length list

stands : (name : List ℕ) (at n : ℕ) (rest : List ℕ) → found_in (place_from name at n rest) ≡ true
    → Stands name at (signals_from n rest) (place_from name at n rest)
unfolding place_from signals_from entries_bytes signal_size
stands name at zero rest f = true_false (sym f)
stands name at (suc n) rest f =
    go (same (name_at rest) name) refl (λ k. stands name (at + signal_size rest) n (drop (signal_size rest) rest) k) f
  where
    words : List ℕ
    words = words_in (word_count rest) (drop 10 rest)

    later : Place
    later = place_from name (at + signal_size rest) n (drop (signal_size rest) rest)

    others : List Entry
    others = signals_from n (drop (signal_size rest) rest)

    go : (t : Bool) → same (name_at rest) name ≡ t → (found_in later ≡ true → Stands name (at + signal_size rest) others later)
        → found_in (cond t (At (at + 10) (4 * word_count rest)) later) ≡ true
        → Stands name at (entry (name_at rest) words ∷ others) (cond t (At (at + 10) (4 * word_count rest)) later)
    go true e again k =
        record {
          before_it = [];
          list = words;
          after_it = others;
          signals = ap (λ (m : List ℕ). entry m words ∷ others) (same_equal (name_at rest) name e);
          first = omega arith;
          count = ap (λ (m : ℕ). 4 * m) (sym (length_words_in (word_count rest) (drop 10 rest)));
        }
    go false e again k =
        let s = again k in
        record {
          before_it = entry (name_at rest) words ∷ s.before_it;
          list = s.list;
          after_it = s.after_it;
          signals = ap (λ (es : List Entry). entry (name_at rest) words ∷ es) s.signals;
          first =
              omega (
                arith,
                s.first,
                length-append (entry_bytes (entry (name_at rest) words)) (entries_bytes s.before_it),
                length_entry (name_at rest) words (name_short rest),
                length_words_in (word_count rest) (drop 10 rest),
              );
          count = s.count;
        }

pub lookup_place : LookupPlace
unfolding place_of signals_on
lookup_place sheet name z =
    let s = stands name 7 (count_on sheet) (drop 7 sheet)
    (found_known name 7 (count_on sheet) (drop 7 sheet) ∙ held_from sheet name (lookup_none sheet name z).held) in
    record {
      before = s.before_it;
      list = s.list;
      after = s.after_it;
      signals = s.signals;
      first = rw (eq-eqb (lookup_fault sheet name) 0 z) s.first;
      count = rw (eq-eqb (lookup_fault sheet name) 0 z) s.count;
    }
