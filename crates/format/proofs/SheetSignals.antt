-- The computed fault of a signal, and of signals in a row, is the one that their checks give.
use Prim.Native.Nat.{ℕ, zero, suc, ◌*◌, ◌≤◌, ◌<◌}
use native.Mathlib.Omega.{arith}
use mathlib.Core.Path.{◌≡◌, refl, sym, ap, subst, ◌∙◌}
use mathlib.Core.Bool.{Bool, true, false, not, cond, ◌||◌}
use mathlib.Core.List.{List, [], ◌∷◌, ◌++◌}
use mathlib.Core.Logic.{◌⊎◌, inl, inr}
use lib.Dec.{ltb, eqb}
use lib.ListN.{length, take, drop, length-drop, take-append-drop}
use lib.Seq.{take_at, drop-drop, length-take-le}
use borrow.Author.Tests.{ltb-true, ltb-false, eqb-true, eqb-false}
use Rattle.signals.specs.Answers.{first_of}
use Rattle.signals.specs.Checks.{Check, NoFault}
use Rattle.signals.specs.Words.{most_words}
use Rattle.signals.proofs.Checks.{Single, check_single, none_single}
use Rattle.signals.proofs.Truth.{true_false, neither_left, neither_right}
use Rattle.names.proofs.NamesExact.{names_exact}
use Rattle.names.specs.Sentence.{IsName}
use Rattle.slices.specs.Bytes.{bytes16, Bytes}
use Rattle.format.proofs.Digits.{low16_below, written16, bytes_drop}
use Rattle.format.proofs.Fields.{padded_fits, fits_named, fits_padded}
use Rattle.format.proofs.Filling.{length_padded}
use Rattle.format.proofs.SheetFields.{name_single, number_single, among_one, not_one_lem}
use Rattle.format.proofs.SheetWords.{words_single, all_words}
use Rattle.format.specs.Names.{padded, unpadded, field_fits, among}
use Rattle.format.specs.Reading.{name_at, word_count, signal_size, sheet_words_fault, signal_fault, signals_fault}
use Rattle.format.specs.Sentences.{Begins, OneOf, WordsFaultIs, CountedWordsFaultIs, SignalFaultIs, SignalsFaultIs}

signal_single : (earlier : List (List ℕ)) (bytes : List ℕ) (later : List ℕ → List ℕ → ℕ → Type 0)
    → ((name rest : List ℕ) → Single (later name rest)) → Single (SignalFaultIs earlier bytes later)
signal_single earlier bytes later h =
    check_single
    (check_single
    (name_single bytes _
    (λ name counted. check_single
    (check_single
    (number_single counted _ (λ n words. check_single (words_single [] n words (later name) (h name))))))))

pub signals_single : (earlier : List (List ℕ)) (n : ℕ) (bytes : List ℕ) → Single (SignalsFaultIs earlier n bytes)
signals_single earlier zero bytes = check_single none_single
signals_single earlier (suc n) bytes =
    signal_single earlier bytes (λ name rest. SignalsFaultIs (earlier ++ name ∷ []) n rest)
    (λ name rest. signals_single (earlier ++ name ∷ []) n rest)

-- what is judged after the name
abbrev AfterName : List (List ℕ) → List ℕ → List ℕ → (List ℕ → ℕ → Type 0) → ℕ → Type 0
AfterName earlier name bytes later = Check 16 (OneOf earlier name) (CountedWordsFaultIs bytes later)

-- a word count outside 1 to 256
outside : (k : ℕ) → eqb k 0 || ltb most_words k ≡ true → (k ≡ 0) ⊎ (most_words < k)
outside k h = go (eqb k 0) refl h
  where
    go : (t : Bool) → eqb k 0 ≡ t → t || ltb most_words k ≡ true → (k ≡ 0) ⊎ (most_words < k)
    go true p q = inl (eqb-true k 0 p)
    go false p q = inr (ltb-true most_words k q)

inside : (k : ℕ) → eqb k 0 || ltb most_words k ≡ false → (k ≡ 0 → ⊥) × (k ≤ most_words)
inside k h = (eqb-false k 0 (neither_left (eqb k 0) _ h), ltb-false most_words k (neither_right (eqb k 0) _ h))

-- the fields of a signal, read from its bytes
module _ (bytes : List ℕ) (b : Bytes bytes) where
  unnamed : field_fits (take 8 bytes) ≡ false → ¬ Begins IsName padded bytes
  unnamed e (name, rest, n, p) =
      let f : take 8 bytes ≡ padded name =
      ap (λ (l : List ℕ). take 8 l) p ∙ take_at (padded name) rest 8 (length_padded name n.most) in
      true_false (sym (ap field_fits f ∙ padded_fits name ((names_exact name).1 n)) ∙ e)

  module _ (l : 8 ≤ length bytes) (e : field_fits (take 8 bytes) ≡ true) where
    is_name : IsName (name_at bytes)
    unfolding name_at
    is_name = (names_exact (unpadded (take 8 bytes))).0 (fits_named (take 8 bytes) e)

    field_is : take 8 bytes ≡ padded (name_at bytes)
    unfolding name_at
    field_is = sym (fits_padded (take 8 bytes) (length-take-le 8 bytes l) e)

    name_first : bytes ≡ padded (name_at bytes) ++ drop 8 bytes
    name_first = sym (take-append-drop 8 bytes) ∙ ap (λ (x : List ℕ). x ++ drop 8 bytes) field_is

  count_first : 10 ≤ length bytes → drop 8 bytes ≡ bytes16 (word_count bytes) ++ drop 10 bytes
  unfolding word_count
  count_first m = sym (rw (← drop-drop 2 8 bytes) (written16 (drop 8 bytes) (bytes_drop bytes 8 b) (rw length-drop (omega arith))))

  count_below : word_count bytes < 65536
  unfolding word_count
  count_below = low16_below (drop 8 bytes) (bytes_drop bytes 8 b)

  -- the checks after the name, by their tests
  after_name : (earlier : List (List ℕ)) (later : List ℕ → List ℕ → ℕ → Type 0) (next : ℕ) (t₃ t₄ t₅ : Bool) → 8 ≤ length bytes
      → among (name_at bytes) earlier ≡ t₃ → ltb (length bytes) 10 ≡ t₄
      → eqb (word_count bytes) 0 || ltb most_words (word_count bytes) ≡ t₅
      → (cond t₃ 16 (cond t₄ 15 (cond t₅ 17 (sheet_words_fault (word_count bytes) (drop 10 bytes)))) ≡ 0
      → later (name_at bytes) (drop (signal_size bytes) bytes) next)
      → AfterName earlier (name_at bytes) (drop 8 bytes) (later (name_at bytes))
      (first_of (cond t₃ 16 (cond t₄ 15 (cond t₅ 17 (sheet_words_fault (word_count bytes) (drop 10 bytes))))) next)
  unfolding signal_size first_of
  after_name earlier later next true t₄ t₅ l p₃ p₄ p₅ g = inl (among_one (name_at bytes) earlier p₃, refl)
  after_name earlier later next false true t₅ l p₃ p₄ p₅ g =
      inr (not_one_lem (name_at bytes) earlier p₃, inl (rw length-drop (omega (arith, ltb-true (length bytes) 10 p₄)), refl))
  after_name earlier later next false false t₅ l p₃ p₄ p₅ g =
      let m = ltb-false (length bytes) 10 p₄ in
      inr (
        not_one_lem (name_at bytes) earlier p₃,
        inr ((λ c. omega (arith, c, length-drop 8 bytes)), (word_count bytes, drop 10 bytes, count_below, count_first m, words t₅ p₅ g)),
      )
    where
      words : (t : Bool) → eqb (word_count bytes) 0 || ltb most_words (word_count bytes) ≡ t
          → (cond t 17 (sheet_words_fault (word_count bytes) (drop 10 bytes)) ≡ 0 → later (name_at bytes)
          (drop (signal_size bytes) bytes) next)
          → Check 17 ((word_count bytes ≡ 0) ⊎ (most_words < word_count bytes))
          (WordsFaultIs [] (word_count bytes) (drop 10 bytes) (later (name_at bytes)))
          (first_of (cond t 17 (sheet_words_fault (word_count bytes) (drop 10 bytes))) next)
      words true p g = inl (outside (word_count bytes) p, refl)
      words false p g =
          let i = inside (word_count bytes) p in
          inr (
            within i,
            all_words (later (name_at bytes)) next (word_count bytes) (drop 10 bytes) i.0 i.1 (bytes_drop bytes 10 b)
                (λ z. subst (λ (x : List ℕ). later (name_at bytes) x next) (sym (drop-drop (4 * word_count bytes) 10 bytes)) (g z)),
          )
        where
          within : (word_count bytes ≡ 0 → ⊥) × (word_count bytes ≤ most_words) → ¬
              ((word_count bytes ≡ 0) ⊎ (most_words < word_count bytes))
          within i (inl z) = i.0 z
          within i (inr c) = omega (arith, c, i.1)

  pub signal_checks : (earlier : List (List ℕ)) (later : List ℕ → List ℕ → ℕ → Type 0) (next : ℕ)
      → (signal_fault earlier bytes ≡ 0 → later (name_at bytes) (drop (signal_size bytes) bytes) next)
      → SignalFaultIs earlier bytes later (first_of (signal_fault earlier bytes) next)
  unfolding signal_fault signal_size first_of
  signal_checks earlier later next h =
      go (ltb (length bytes) 8) (field_fits (take 8 bytes)) (among (name_at bytes) earlier) (ltb (length bytes) 10)
      (eqb (word_count bytes) 0 || ltb most_words (word_count bytes)) refl refl refl refl refl h
    where
      go : (t₁ t₂ t₃ t₄ t₅ : Bool) → ltb (length bytes) 8 ≡ t₁ → field_fits (take 8 bytes) ≡ t₂ → among (name_at bytes) earlier ≡ t₃
          → ltb (length bytes) 10 ≡ t₄ → eqb (word_count bytes) 0 || ltb most_words (word_count bytes) ≡ t₅
          → (cond t₁ 15 (cond (not t₂ || t₃) 16 (cond t₄ 15 (cond t₅ 17 (sheet_words_fault (word_count bytes) (drop 10 bytes))))) ≡ 0
          → later (name_at bytes) (drop (signal_size bytes) bytes) next)
          → SignalFaultIs earlier bytes later
          (first_of (cond t₁ 15 (cond (not t₂ || t₃) 16 (cond t₄ 15
          (cond t₅ 17 (sheet_words_fault (word_count bytes) (drop 10 bytes)))))) next)
      go true t₂ t₃ t₄ t₅ p₁ p₂ p₃ p₄ p₅ g = inl (ltb-true (length bytes) 8 p₁, refl)
      go false false t₃ t₄ t₅ p₁ p₂ p₃ p₄ p₅ g = inr ((λ c. omega (arith, c, ltb-false (length bytes) 8 p₁)), inl (unnamed p₂, refl))
      go false true t₃ t₄ t₅ p₁ p₂ p₃ p₄ p₅ g =
          let l = ltb-false (length bytes) 8 p₁ in
          inr (
            (λ c. omega (arith, c)),
            inr (
              (λ c. c (name_at bytes, drop 8 bytes, is_name l p₂, name_first l p₂)),
              (name_at bytes, drop 8 bytes, is_name l p₂, name_first l p₂, after_name earlier later next t₃ t₄ t₅ l p₃ p₄ p₅ g),
            ),
          )

pub signals_checks : (earlier : List (List ℕ)) (n : ℕ) (bytes : List ℕ) → Bytes bytes
    → SignalsFaultIs earlier n bytes (signals_fault earlier n bytes)
unfolding signals_fault
signals_checks earlier zero bytes b = go (eqb (length bytes) 0) refl
  where
    some : (m : ℕ) → (m ≡ 0 → ⊥) → 0 < m
    some zero q = absurd (q refl)
    some (suc m) q = omega arith

    go : (t : Bool) → eqb (length bytes) 0 ≡ t → Check 15 (0 < length bytes) NoFault (cond t 0 15)
    go true p = inr ((λ c. omega (arith, c, eqb-true (length bytes) 0 p)), refl)
    go false p = inl (some (length bytes) (eqb-false (length bytes) 0 p), refl)
signals_checks earlier (suc n) bytes b =
    signal_checks bytes b earlier (λ name rest. SignalsFaultIs (earlier ++ name ∷ []) n rest)
    (signals_fault (earlier ++ name_at bytes ∷ []) n (drop (signal_size bytes) bytes))
    (λ z. signals_checks (earlier ++ name_at bytes ∷ []) n (drop (signal_size bytes) bytes) (bytes_drop bytes (signal_size bytes) b))
