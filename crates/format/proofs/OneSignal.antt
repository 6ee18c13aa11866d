-- One signal, written and read.
use Prim.Native.Nat.{ℕ, ◌+◌, ◌*◌, ◌≤◌}
use native.Mathlib.Omega.{arith}
use mathlib.Core.Path.{◌≡◌, refl, sym, ap, ◌∙◌}
use mathlib.Core.List.{List, ◌++◌, append_assoc}
use lib.ListN.{length, take, drop, length-append, length-drop, take-append-drop}
use lib.Seq.{take_at, drop_at, drop-drop, length-take-le}
use borrow.Author.Tests.{le-ltb, ne_eqb}
use Rattle.format.proofs.Judging.{Sound}
use Rattle.format.proofs.Digits.{length_words_in, words_in_below, low16_written, written16, words_read, words_written, bytes_drop}
use Rattle.format.proofs.Fields.{named_short, padded_unpadded, padded_fits, fits_named, fits_padded}
use Rattle.format.proofs.Filling.{length_padded, length_entry, two}
use Rattle.format.proofs.Accepting.{words_listed, words_accepted, listed_some}
use Rattle.format.specs.Names.{padded, unpadded}
use Rattle.slices.specs.Bytes.{low16, bytes16, words_in, word_bytes, Bytes}
use Rattle.format.specs.Reading.{name_at, word_count, signal_size, signal_fault, entry}
use Rattle.format.specs.Writing.{entry_bytes, Fits}
use Rattle.signals.specs.Words.{most_words}

-- a signal that is written reads back, whatever follows
module _ (earlier : List (List ℕ)) (name list tail : List ℕ) (f : Fits earlier (entry name list)) where
  short : length name ≤ 8
  short = named_short name f.named

  apart : entry_bytes (entry name list) ++ tail ≡ padded name ++ (bytes16 (length list) ++ (word_bytes list ++ tail))
  unfolding entry_bytes
  apart =
      append_assoc (padded name) (bytes16 (length list) ++ word_bytes list) tail
      ∙ ap (λ (l : List ℕ). padded name ++ l) (append_assoc (bytes16 (length list)) (word_bytes list) tail)

  field_back : take 8 (entry_bytes (entry name list) ++ tail) ≡ padded name
  field_back = rw apart (take_at (padded name) _ 8 (length_padded name short))

  after_name : drop 8 (entry_bytes (entry name list) ++ tail) ≡ bytes16 (length list) ++ (word_bytes list ++ tail)
  after_name = rw apart (drop_at (padded name) _ 8 (length_padded name short))

  after_count : drop 10 (entry_bytes (entry name list) ++ tail) ≡ word_bytes list ++ tail
  after_count =
      sym (drop-drop 2 8 (entry_bytes (entry name list) ++ tail))
      ∙ ap (λ (l : List ℕ). drop 2 l) after_name
      ∙ drop_at (bytes16 (length list)) (word_bytes list ++ tail) 2 (two (length list))

  pub name_back : name_at (entry_bytes (entry name list) ++ tail) ≡ name
  unfolding name_at
  name_back = ap unpadded field_back ∙ padded_unpadded name f.named

  pub count_back : word_count (entry_bytes (entry name list) ++ tail) ≡ length list
  unfolding word_count
  count_back =
      ap low16 after_name ∙ low16_written (length list) (word_bytes list ++ tail) (omega (arith, (listed_some list f.listed).1))

  pub words_back : words_in (word_count (entry_bytes (entry name list) ++ tail)) (drop 10 (entry_bytes (entry name list) ++ tail)) ≡ list
  words_back = rw (count_back, after_count) (words_read list tail f.words)

  pub size_back : signal_size (entry_bytes (entry name list) ++ tail) ≡ length (entry_bytes (entry name list))
  unfolding signal_size
  size_back = rw (count_back, length_entry name list short)

  pub tail_back : drop (signal_size (entry_bytes (entry name list) ++ tail)) (entry_bytes (entry name list) ++ tail) ≡ tail
  tail_back = rw size_back (drop_at (entry_bytes (entry name list)) tail _ refl)

  pub signal_back : signal_fault earlier (entry_bytes (entry name list) ++ tail) ≡ 0
  unfolding signal_fault
  signal_back =
      let s = length_entry name list short in
      let t = length-append (entry_bytes (entry name list)) tail in
      let m = listed_some list f.listed in
      rw (
        le-ltb (length (entry_bytes (entry name list) ++ tail)) 8 (omega arith),
        field_back,
        padded_fits name f.named,
        name_back,
        f.new,
        le-ltb (length (entry_bytes (entry name list) ++ tail)) 10 (omega arith),
        count_back,
        ne_eqb (length list) 0 m.0,
        le-ltb most_words (length list) m.1,
        after_count,
      )
      (words_accepted list tail f.words f.listed)

-- an accepted signal is what is written of what it holds
module _ (earlier : List (List ℕ)) (rest : List ℕ) (b : Bytes rest) (s : Sound earlier rest) where
  room : 10 + 4 * word_count rest ≤ length rest
  unfolding signal_size
  room = s.whole

  words_kept : word_bytes (words_in (word_count rest) (drop 10 rest)) ++ drop (signal_size rest) rest ≡ drop 10 rest
  unfolding signal_size
  words_kept =
      ap (λ (l : List ℕ). word_bytes (words_in (word_count rest) (drop 10 rest)) ++ l) (sym (drop-drop (4 * word_count rest) 10 rest))
      ∙ words_written (word_count rest) (drop 10 rest) (bytes_drop rest 10 b) (rw length-drop (omega (arith, room)))

  count_kept : bytes16 (length (words_in (word_count rest) (drop 10 rest))) ++ drop 10 rest ≡ drop 8 rest
  unfolding word_count
  count_kept =
      rw (length_words_in, ← drop-drop 2 8 rest) (written16 (drop 8 rest) (bytes_drop rest 8 b) (rw length-drop (omega (arith, room))))

  name_kept : padded (name_at rest) ++ drop 8 rest ≡ rest
  unfolding name_at
  name_kept =
      ap (λ (l : List ℕ). l ++ drop 8 rest) (fits_padded (take 8 rest) (length-take-le 8 rest (omega (arith, room))) s.field)
      ∙ take-append-drop 8 rest

  pub signal_written : entry_bytes (entry (name_at rest) (words_in (word_count rest) (drop 10 rest))) ++ drop (signal_size rest) rest ≡ rest
  unfolding entry_bytes
  signal_written =
      append_assoc (padded (name_at rest)) _ (drop (signal_size rest) rest)
      ∙ ap (λ (l : List ℕ). padded (name_at rest) ++ l)
      (append_assoc (bytes16 (length (words_in (word_count rest) (drop 10 rest)))) (word_bytes (words_in (word_count rest) (drop 10 rest)))
      (drop (signal_size rest) rest)
      ∙ ap (λ (l : List ℕ). bytes16 (length (words_in (word_count rest) (drop 10 rest))) ++ l) words_kept
      ∙ count_kept)
      ∙ name_kept

  pub signal_fits : Fits earlier (entry (name_at rest) (words_in (word_count rest) (drop 10 rest)))
  unfolding name_at
  signal_fits =
      record {
        named = fits_named (take 8 rest) s.field;
        new = s.new;
        listed = words_listed (word_count rest) (drop 10 rest) s.some s.most s.words;
        words = words_in_below (word_count rest) (drop 10 rest) (bytes_drop rest 10 b);
      }
