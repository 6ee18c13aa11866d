-- The list of a name among signals, with one signal more; the bytes of a written sheet.
use Prim.Native.Nat.{ℕ, zero, suc, ◌+◌, ◌-◌, ◌*◌, ◌/◌, ◌%◌, ◌≤◌, ◌<◌}
use native.Mathlib.Omega.{arith}
use mathlib.Core.Path.{◌≡◌, refl, sym, ap, ◌∙◌}
use mathlib.Core.Bool.{Bool, true, false, cond, ◌&&◌, ◌||◌}
use mathlib.Core.List.{List, [], ◌∷◌, ◌++◌, append_assoc, append-nil}
use lib.Dec.{leb}
use lib.ListN.{length, take, drop, replicate, length-drop}
use lib.Seq.{take_at, drop-drop}
use borrow.Author.Tests.{leb-true}
use Rattle.signals.specs.Words.{list_fault}
use Rattle.signals.proofs.Truth.{true_false, and_left, and_right}
use Rattle.format.proofs.Fields.{named_characters}
use Rattle.format.proofs.Digits.{words_written, length_words_in, bytes_drop}
use Rattle.format.proofs.Placing.{length_words}
use Rattle.names.specs.Names.{letter, digit, all_of, name_byte, well_named}
use Rattle.format.specs.Names.{padded, same, among}
use Rattle.slices.specs.Bytes.{bytes16, bytes32, words_in, word_bytes, Bytes, Words}
use Rattle.format.specs.Reading.{mark, name_at, word_count, signal_size, signals_from, names, list_named, Entry, entry, name_of, list_on}
use Rattle.format.specs.Writing.{entry_bytes, entries_bytes, sheet_bytes, Fits, AllFit, Holdable}
use Rattle.format.specs.Calls.{place_from, part_at}
use Rattle.format.specs.Walk.{Whole}
use Rattle.format.specs.declared.Place.TheVariants.{At}

-- n words at the front are their bytes
pub take_words : (n : ℕ) (b : List ℕ) → Bytes b → 4 * n ≤ length b → take (4 * n) b ≡ word_bytes (words_in n b)
take_words n b k h =
    ap (λ (l : List ℕ). take (4 * n) l) (sym (words_written n b k h))
    ∙ take_at (word_bytes (words_in n b)) (drop (4 * n) b) (4 * n)
    (length_words (words_in n b) ∙ ap (λ (m : ℕ). 4 * m) (length_words_in n b))

-- the part at a name's place is the bytes of its list
pub part_list : (name sheet : List ℕ) (at n : ℕ) → Bytes sheet → Whole n (drop at sheet)
    → part_at sheet (place_from name at n (drop at sheet)) ≡ word_bytes (list_named name (signals_from n (drop at sheet)))
unfolding place_from list_named signals_from word_bytes signal_size
part_list name sheet at zero b w = refl
part_list name sheet at (suc n) b w =
    go (same (name_at (drop at sheet)) name)
    (part_list name sheet (at + signal_size (drop at sheet)) n b (rw drop-drop at w.1))
  where
    go : (t : Bool)
        → part_at sheet (place_from name (at + signal_size (drop at sheet)) n (drop (at + signal_size (drop at sheet)) sheet))
        ≡ word_bytes (list_named name (signals_from n (drop (at + signal_size (drop at sheet)) sheet)))
        → part_at sheet
        (cond t (At (at + 10) (4 * word_count (drop at sheet)))
        (place_from name (at + signal_size (drop at sheet)) n (drop (signal_size (drop at sheet)) (drop at sheet))))
        ≡ word_bytes
        (cond t (words_in (word_count (drop at sheet)) (drop 10 (drop at sheet)))
        (list_named name (signals_from n (drop (signal_size (drop at sheet)) (drop at sheet)))))
    go true h =
        ap (λ (l : List ℕ). take (4 * word_count (drop at sheet)) l) (sym (drop-drop 10 at sheet))
        ∙ take_words (word_count (drop at sheet)) (drop 10 (drop at sheet)) (bytes_drop (drop at sheet) 10 (bytes_drop sheet at b))
        (rw length-drop (omega (arith, w.0)))
    go false h = rw drop-drop h

-- one signal more
pub among_snoc : (m : List ℕ) (es : List Entry) (e : Entry) → among m (names (es ++ e ∷ [])) ≡ among m (names es) || same (name_of e) m
unfolding among names
among_snoc m [] e = go (same (name_of e) m)
  where
    go : (t : Bool) → t || false ≡ t
    go true = refl
    go false = refl
among_snoc m (x ∷ es) e = go (same (name_of x) m) (among_snoc m es e)
  where
    go : (t : Bool) → among m (names (es ++ e ∷ [])) ≡ among m (names es) || same (name_of e) m
        → t || among m (names (es ++ e ∷ [])) ≡ (t || among m (names es)) || same (name_of e) m
    go true h = refl
    go false h = h

pub named_other : (m : List ℕ) (es : List Entry) (e : Entry) → same (name_of e) m ≡ false → list_named m (es ++ e ∷ []) ≡ list_named m es
unfolding list_named
named_other m [] e h = rw h
named_other m (x ∷ es) e h = rw (named_other m es e h)

pub named_new : (m : List ℕ) (es : List Entry) (e : Entry) → among m (names es) ≡ false → same (name_of e) m ≡ true
    → list_named m (es ++ e ∷ []) ≡ list_on e
unfolding list_named among names
named_new m [] e k h = rw h
named_new m (x ∷ es) e k h = go (same (name_of x) m) k (λ q. named_new m es e q h)
  where
    go : (t : Bool) → t || among m (names es) ≡ false → (among m (names es) ≡ false → list_named m (es ++ e ∷ []) ≡ list_on e)
        → cond t (list_on x) (list_named m (es ++ e ∷ [])) ≡ list_on e
    go true q again = true_false q
    go false q again = again q

pub fit_snoc : (earlier : List (List ℕ)) (es : List Entry) (e : Entry) → AllFit earlier es → Fits (earlier ++ names es) e
    → AllFit earlier (es ++ e ∷ [])
unfolding names
fit_snoc earlier [] e a f = (rw append-nil at f, tt)
fit_snoc earlier (x ∷ es) e a f =
    (a.0, fit_snoc (earlier ++ name_of x ∷ []) es e a.1 (rw (append_assoc earlier (name_of x ∷ []) (names es)) f))

-- a named list of signals that fit is accepted
pub named_listed : (earlier : List (List ℕ)) (m : List ℕ) (es : List Entry) → AllFit earlier es → among m (names es) ≡ true
    → (list_fault (list_named m es) ≡ 0) × Words (list_named m es)
unfolding list_named among names
named_listed earlier m [] a h = true_false (sym h)
named_listed earlier m (x ∷ es) a h = go (same (name_of x) m) h (λ q. named_listed (earlier ++ name_of x ∷ []) m es a.1 q)
  where
    go : (t : Bool) → t || among m (names es) ≡ true
        → (among m (names es) ≡ true → (list_fault (list_named m es) ≡ 0) × Words (list_named m es))
        → (list_fault (cond t (list_on x) (list_named m es)) ≡ 0) × Words (cond t (list_on x) (list_named m es))
    go true q again = (a.0.listed, a.0.words)
    go false q again = again q

-- a written sheet is bytes
bytes_append : (x y : List ℕ) → Bytes x → Bytes y → Bytes (x ++ y)
bytes_append [] y a b i = b i
bytes_append (u ∷ x) y a b zero = a 0
bytes_append (u ∷ x) y a b (suc i) = bytes_append x y (λ k. a (suc k)) b i

bytes_none : Bytes []
bytes_none i = omega arith

bytes_cons : (u : ℕ) (x : List ℕ) → u < 256 → Bytes x → Bytes (u ∷ x)
bytes_cons u x h b zero = h
bytes_cons u x h b (suc i) = b i

low : (n : ℕ) → n % 256 < 256
low n = omega arith

bytes_16 : (n : ℕ) → Bytes (bytes16 n)
unfolding bytes16
bytes_16 n zero = low n
bytes_16 n (suc zero) = low (n / 256)
bytes_16 n (suc (suc i)) = omega arith

bytes_words : (ws : List ℕ) → Bytes (word_bytes ws)
unfolding word_bytes bytes32
bytes_words [] i = omega arith
bytes_words (w ∷ ws) zero = low w
bytes_words (w ∷ ws) (suc zero) = low (w / 256)
bytes_words (w ∷ ws) (suc (suc zero)) = low (w / 65536)
bytes_words (w ∷ ws) (suc (suc (suc zero))) = low (w / 16777216)
bytes_words (w ∷ ws) (suc (suc (suc (suc i)))) = bytes_words ws i

bytes_mark : Bytes mark
bytes_mark zero = omega arith
bytes_mark (suc zero) = omega arith
bytes_mark (suc (suc zero)) = omega arith
bytes_mark (suc (suc (suc i))) = omega arith

bytes_padding : (k : ℕ) → Bytes (replicate k 0)
bytes_padding zero = bytes_none
bytes_padding (suc k) = bytes_cons 0 (replicate k 0) (omega arith) (bytes_padding k)

character_below : (b : ℕ) → name_byte b ≡ true → b < 256
unfolding name_byte letter digit
character_below b h = go (leb 97 b && leb b 122) refl h
  where
    go : (t : Bool) → leb 97 b && leb b 122 ≡ t → t || (leb 48 b && leb b 57) ≡ true → b < 256
    go true p q = let m = leb-true b 122 (and_right (leb 97 b) (leb b 122) p) in omega arith
    go false p q = let m = leb-true b 57 (and_right (leb 48 b) (leb b 57) q) in omega arith

bytes_characters : (n : List ℕ) → all_of name_byte n ≡ true → Bytes n
unfolding all_of
bytes_characters [] h = bytes_none
bytes_characters (b ∷ bs) h =
    bytes_cons b bs (character_below b (and_left (name_byte b) _ h)) (bytes_characters bs (and_right (name_byte b) _ h))

bytes_entry : (name list : List ℕ) → well_named name ≡ true → Bytes (entry_bytes (entry name list))
unfolding entry_bytes padded
bytes_entry name list h =
    bytes_append (padded name) (bytes16 (length list) ++ word_bytes list)
    (bytes_append name (replicate (8 - length name) 0) (bytes_characters name (named_characters name h)) (bytes_padding (8 - length name)))
    (bytes_append (bytes16 (length list)) (word_bytes list) (bytes_16 (length list)) (bytes_words list))

bytes_entries : (earlier : List (List ℕ)) (es : List Entry) → AllFit earlier es → Bytes (entries_bytes es)
unfolding entries_bytes
bytes_entries earlier [] a = bytes_none
bytes_entries earlier (entry name list ∷ es) a =
    bytes_append (entry_bytes (entry name list)) (entries_bytes es) (bytes_entry name list a.0.named)
    (bytes_entries (earlier ++ name ∷ []) es a.1)

pub bytes_sheet : (es : List Entry) → Holdable es → Bytes (sheet_bytes es)
unfolding sheet_bytes
bytes_sheet es h =
    bytes_append mark (bytes16 1 ++ (bytes16 (length es) ++ entries_bytes es)) bytes_mark
    (bytes_append (bytes16 1) (bytes16 (length es) ++ entries_bytes es) (bytes_16 1)
    (bytes_append (bytes16 (length es)) (entries_bytes es) (bytes_16 (length es)) (bytes_entries [] es h.fit)))

pub fit_split : (earlier : List (List ℕ)) (es : List Entry) (e : Entry) (fs : List Entry) → AllFit earlier (es ++ e ∷ fs)
    → AllFit earlier es × Fits (earlier ++ names es) e
unfolding names
fit_split earlier [] e fs a = (tt, rw append-nil a.0)
fit_split earlier (x ∷ es) e fs a =
    let r = fit_split (earlier ++ name_of x ∷ []) es e fs a.1 in
    ((a.0, r.0), rw (append_assoc earlier (name_of x ∷ []) (names es)) at r.1)
