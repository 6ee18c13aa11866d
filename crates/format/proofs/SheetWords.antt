-- The computed fault of a signal's words is the one that their checks give.
use Prim.Native.Nat.{ℕ, zero, suc, ◌+◌, ◌-◌, ◌*◌, ◌≤◌}
use native.Mathlib.Omega.{arith}
use mathlib.Core.Path.{◌≡◌, refl, sym, ap, subst, ◌∙◌}
use mathlib.Core.Bool.{Bool, true, false, cond, ◌||◌}
use mathlib.Core.List.{List, [], ◌∷◌, ◌++◌, append_assoc}
use mathlib.Core.Logic.{inl, inr}
use lib.Dec.{leb, ltb}
use lib.ListN.{length, drop, length-append}
use lib.Seq.{drop-drop}
use borrow.Author.Tests.{ltb-true, ltb-false, le-ltb}
use Rattle.signals.specs.Answers.{first_of}
use Rattle.signals.specs.Checks.{Check}
use Rattle.signals.specs.Words.{date_of, value_after, head_value, changes_nothing, words_fault, list_fault, most_words}
use Rattle.signals.proofs.Checks.{Single, check_single}
use Rattle.signals.proofs.Truth.{true_false}
use Rattle.slices.specs.Bytes.{low32, Bytes}
use Rattle.format.proofs.Digits.{low32_below, written32, bytes_drop}
use Rattle.format.proofs.SheetFields.{word_single}
use Rattle.format.specs.Reading.{later_words_fault, sheet_words_fault}
use Rattle.format.specs.Sentences.{WordsFaultIs}

pub words_single : (before : List ℕ) (n : ℕ) (bytes : List ℕ) (later : List ℕ → ℕ → Type 0) → ((rest : List ℕ) → Single (later rest))
    → Single (WordsFaultIs before n bytes later)
words_single before zero bytes later h = h bytes
words_single before (suc n) bytes later h =
    check_single (word_single bytes _ (λ w rest. check_single (words_single (before ++ w ∷ []) n rest later h)))

-- the words read so far: further words have the fault that they have after a date and a value
abbrev Read : List ℕ → ℕ → Bool → Type 0
Read done last value = (ws : List ℕ) → length done + length ws ≤ most_words → list_fault (done ++ ws) ≡ words_fault last value ws

-- a word that breaks no rule
fine : (done : List ℕ) (last : ℕ) (value : Bool) → Read done last value → (w : ℕ) → length done + 1 ≤ most_words
    → leb (date_of w) last || changes_nothing value w ≡ false → list_fault (done ++ w ∷ []) ≡ 0
unfolding words_fault
fine done last value read w l e = read (w ∷ []) l ∙ go (leb (date_of w) last) (changes_nothing value w) e
  where
    go : (s t : Bool) → s || t ≡ false → ◌≡◌ {A = ℕ} (cond s 3 (cond t 4 0)) 0
    go true t p = absurd (true_false p)
    go false true p = absurd (true_false p)
    go false false p = refl

-- one that breaks one
broken : (done : List ℕ) (last : ℕ) (value : Bool) → Read done last value → (w : ℕ) → length done + 1 ≤ most_words
    → leb (date_of w) last || changes_nothing value w ≡ true → ¬ (list_fault (done ++ w ∷ []) ≡ 0)
unfolding words_fault
broken done last value read w l e z = go (leb (date_of w) last) (changes_nothing value w) e (sym (read (w ∷ []) l) ∙ z)
  where
    go : (s t : Bool) → s || t ≡ true → ¬ (◌≡◌ {A = ℕ} (cond s 3 (cond t 4 0)) 0)
    go true t p q = omega arith
    go false true p q = omega arith
    go false false p q = true_false (sym p)

-- the words read with one more
one_more_lem : (done : List ℕ) (last : ℕ) (value : Bool) → Read done last value → (w : ℕ)
    → leb (date_of w) last || changes_nothing value w ≡ false → Read (done ++ w ∷ []) (date_of w) (value_after w)
unfolding words_fault
one_more_lem done last value read w e ws l =
    ap list_fault (append_assoc done (w ∷ []) ws)
    ∙ read (w ∷ ws) (omega (arith, length-append done (w ∷ [])))
    ∙ go (leb (date_of w) last) (changes_nothing value w) e
  where
    go : (s t : Bool) → s || t ≡ false
        → cond s 3 (cond t 4 (words_fault (date_of w) (value_after w) ws)) ≡ words_fault (date_of w) (value_after w) ws
    go true t p = absurd (true_false p)
    go false true p = absurd (true_false p)
    go false false p = refl

drop_word : (n : ℕ) (bytes : List ℕ) → drop (4 * suc n) bytes ≡ drop (4 * n) (drop 4 bytes)
drop_word n bytes = let e : 4 * suc n ≡ 4 + 4 * n = omega arith in rw e (sym (drop-drop (4 * n) 4 bytes))

-- the fault of the words after one, and after the first
abbrev past_word_lem : ℕ → List ℕ → ℕ
past_word_lem n bytes = later_words_fault (date_of (low32 bytes)) (value_after (low32 bytes)) n (drop 4 bytes)

abbrev past_first : ℕ → List ℕ → ℕ
past_first n bytes = later_words_fault 0 (head_value (low32 bytes)) (suc n - 1) (drop 4 bytes)

-- the first word
first_alone : (w : ℕ) (t : Bool) → ltb 1 w ≡ t → list_fault (w ∷ []) ≡ cond t 2 0
unfolding list_fault words_fault
first_alone w t p = rw p refl

first_read : (w : ℕ) → ltb 1 w ≡ false → Read (w ∷ []) 0 (head_value w)
unfolding list_fault
first_read w p ws l = rw (le-ltb most_words (length (w ∷ ws)) (omega arith), p)

module _ (later : List ℕ → ℕ → Type 0) (next : ℕ) where
  later_words : (done : List ℕ) (last : ℕ) (value : Bool) (n : ℕ) (bytes : List ℕ) → Read done last value → length done + n ≤ most_words
      → Bytes bytes → (later_words_fault last value n bytes ≡ 0 → later (drop (4 * n) bytes) next)
      → WordsFaultIs done n bytes later (first_of (later_words_fault last value n bytes) next)
  unfolding later_words_fault first_of
  later_words done last value zero bytes read m b h = h refl
  later_words done last value (suc n) bytes read m b h =
      cut (ltb (length bytes) 4) refl h
      (λ l p g. later_words (done ++ low32 bytes ∷ []) (date_of (low32 bytes)) (value_after (low32 bytes)) n (drop 4 bytes)
      (one_more_lem done last value read (low32 bytes) p) (omega (arith, length-append done (low32 bytes ∷ []))) (bytes_drop bytes 4 b)
      (λ z. subst (λ (x : List ℕ). later x next) (drop_word n bytes) (g z)))
    where
      judged : (t : Bool) → leb (date_of (low32 bytes)) last || changes_nothing value (low32 bytes) ≡ t
          → (t ≡ false → WordsFaultIs (done ++ low32 bytes ∷ []) n (drop 4 bytes) later (first_of (past_word_lem n bytes) next))
          → Check 17 (¬ (list_fault (done ++ low32 bytes ∷ []) ≡ 0)) (WordsFaultIs (done ++ low32 bytes ∷ []) n (drop 4 bytes) later)
          (first_of (cond t 17 (past_word_lem n bytes)) next)
      judged true p on = inl (broken done last value read (low32 bytes) (omega arith) p, refl)
      judged false p on = inr ((λ z. z (fine done last value read (low32 bytes) (omega arith) p)), on refl)

      cut : (t : Bool) → ltb (length bytes) 4 ≡ t
          → (cond t 15 (cond (leb (date_of (low32 bytes)) last || changes_nothing value (low32 bytes)) 17 (past_word_lem n bytes)) ≡ 0
          → later (drop (4 * suc n) bytes) next)
          → (4 ≤ length bytes → leb (date_of (low32 bytes)) last || changes_nothing value (low32 bytes) ≡ false
          → (past_word_lem n bytes ≡ 0 → later (drop (4 * suc n) bytes) next)
          → WordsFaultIs (done ++ low32 bytes ∷ []) n (drop 4 bytes) later (first_of (past_word_lem n bytes) next))
          → WordsFaultIs done (suc n) bytes later
          (first_of (cond t 15 (cond (leb (date_of (low32 bytes)) last || changes_nothing value (low32 bytes)) 17
          (past_word_lem n bytes))) next)
      cut true p g again = inl (ltb-true (length bytes) 4 p, refl)
      cut false p g again =
          let l = ltb-false (length bytes) 4 p in
          inr (
            (λ c. omega (arith, c)),
            (
              low32 bytes,
              drop 4 bytes,
              low32_below bytes b,
              sym (written32 bytes b l),
              judged (leb (date_of (low32 bytes)) last || changes_nothing value (low32 bytes)) refl (λ e. again l e (λ z. g (rw e z))),
            ),
          )

  pub all_words : (n : ℕ) (bytes : List ℕ) → (n ≡ 0 → ⊥) → n ≤ most_words → Bytes bytes
      → (sheet_words_fault n bytes ≡ 0 → later (drop (4 * n) bytes) next)
      → WordsFaultIs [] n bytes later (first_of (sheet_words_fault n bytes) next)
  unfolding sheet_words_fault first_of
  all_words zero bytes z m b h = absurd (z refl)
  all_words (suc n) bytes z m b h = cut (ltb (length bytes) 4) refl h
    where
      one_less : suc n - 1 ≡ n
      one_less = omega arith

      judged : (t : Bool) → ltb 1 (low32 bytes) ≡ t → (cond t 17 (past_first n bytes) ≡ 0 → later (drop (4 * suc n) bytes) next)
          → Check 17 (¬ (list_fault (low32 bytes ∷ []) ≡ 0)) (WordsFaultIs (low32 bytes ∷ []) n (drop 4 bytes) later)
          (first_of (cond t 17 (past_first n bytes)) next)
      judged true p g = inl ((λ q. omega (arith, sym (first_alone (low32 bytes) true p) ∙ q)), refl)
      judged false p g = inr (
        (λ q. q (first_alone (low32 bytes) false p)),
        rw one_less
            (later_words (low32 bytes ∷ []) 0 (head_value (low32 bytes)) n (drop 4 bytes) (first_read (low32 bytes) p) (omega arith)
            (bytes_drop bytes 4 b)
            (λ e. subst (λ (x : List ℕ). later x next) (drop_word n bytes) (g (rw one_less e)))),
      )

      cut : (t : Bool) → ltb (length bytes) 4 ≡ t
          → (cond t 15 (cond (ltb 1 (low32 bytes)) 17 (past_first n bytes)) ≡ 0 → later (drop (4 * suc n) bytes) next)
          → WordsFaultIs [] (suc n) bytes later (first_of (cond t 15 (cond (ltb 1 (low32 bytes)) 17 (past_first n bytes))) next)
      cut true p g = inl (ltb-true (length bytes) 4 p, refl)
      cut false p g =
          inr (
            (λ c. omega (arith, c, ltb-false (length bytes) 4 p)),
            (
              low32 bytes,
              drop 4 bytes,
              low32_below bytes b,
              sym (written32 bytes b (ltb-false (length bytes) 4 p)),
              judged (ltb 1 (low32 bytes)) refl g,
            ),
          )
