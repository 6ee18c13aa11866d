-- The tests that the list check makes are those of the definitions, and one turn of its loop is one clause of `words_fault`.
use Prim.Native.Nat.{ℕ, zero, suc, ◌+◌, ◌-◌, ◌/◌, ◌%◌, ◌≤◌, ◌<◌}
use native.Mathlib.Omega.{arith}
use native.Mathlib.Numerals.{add-one}
use mathlib.Core.Path.{◌≡◌, refl}
use mathlib.Core.Bool.{Bool, true, false, cond, ◌||◌}
use mathlib.Core.List.{List, [], ◌∷◌}
use lib.Dec.{leb, ltb, eqb}
use lib.ListN.{length, get_or, take, drop, drop_of_length-le}
use lib.Seq.{drop-cons}
use borrow.Author.Tests.{ltb-false, ne_eqb}
use Rattle.std.proofs.lemmas.List.{take_rest}
use Rattle.lists.specs.Head.{head_fault}
use Rattle.signals.specs.Words.{date_of, value_after, head_value, changes_nothing, words_fault, list_fault, most_words}

-- a word is judged before those after it
pub judged : (last : ℕ) (before : Bool) (l : List ℕ) (i : ℕ) → i < length l
    → words_fault last before (drop i l) ≡ cond (leb (get_or l i 0 / 4) last) 3
    (cond (changes_nothing before (get_or l i 0)) 4 (words_fault (get_or l i 0 / 4) (eqb (get_or l i 0 % 2) 1) (drop (i + 1) l)))
unfolding words_fault date_of value_after
judged last before l i h = rw (add-one, drop-cons l i 0 h)

pub done : (last : ℕ) (before : Bool) (l : List ℕ) (i : ℕ) → length l ≤ i → words_fault last before (drop i l) ≡ 0
unfolding words_fault
done last before l i h = rw (drop_of_length-le l {i = i} h)

-- the length and the first word
pub head_is : (l : List ℕ) → head_fault l ≡ cond (eqb (length l) 0 || ltb most_words (length l)) 1 (cond (ltb 1 (get_or l 0 0)) 2 0)
unfolding head_fault
head_is [] = refl
head_is (w ∷ ws) = rw (ne_eqb (length (w ∷ ws)) 0 (λ e. omega arith))

pub head_some : (l : List ℕ) → head_fault l ≡ 0 → 0 < length l
unfolding head_fault
head_some [] z = absurd (omega arith)
head_some (w ∷ ws) z = omega arith

pub head_small : (l : List ℕ) → head_fault l ≡ 0 → get_or l 0 0 ≤ 1
unfolding head_fault
head_small [] z = omega arith
head_small (h ∷ ws) z = go (ltb most_words (length (h ∷ ws))) (ltb 1 h) refl z
  where
    go : (a b : Bool) → ltb 1 h ≡ b → ◌≡◌ {A = ℕ} (cond a 1 (cond b 2 0)) 0 → h ≤ 1
    go true b q e = absurd (omega arith)
    go false true q e = absurd (omega arith)
    go false false q e = ltb-false 1 h q

pub head_short : (l : List ℕ) → head_fault l ≡ 0 → length l ≤ most_words
unfolding head_fault
head_short [] z = omega arith
head_short (h ∷ ws) z = go (ltb most_words (length (h ∷ ws))) (ltb 1 h) refl z
  where
    go : (a b : Bool) → ltb most_words (length (h ∷ ws)) ≡ a → ◌≡◌ {A = ℕ} (cond a 1 (cond b 2 0)) 0 → length (h ∷ ws) ≤ most_words
    go true b q e = absurd (omega arith)
    go false b q e = ltb-false most_words (length (h ∷ ws)) q

-- an accepted first word has date 0 and its value is that held after it
pub from_head : (l : List ℕ) → head_fault l ≡ 0 → words_fault 0 (head_value (get_or l 0 0)) (drop 1 l)
    ≡ words_fault (get_or l 0 0 / 4) (eqb (get_or l 0 0 % 2) 1) (take (length l - 1) (drop 1 l))
unfolding head_value
from_head l z = go (get_or l 0 0) (head_small l z)
  where
    go : (h : ℕ) → h ≤ 1 → words_fault 0 (eqb h 1) (drop 1 l) ≡ words_fault (h / 4) (eqb (h % 2) 1) (take (length l - 1) (drop 1 l))
    go zero e = rw (take_rest l 1)
    go (suc zero) e = rw (take_rest l 1)
    go (suc (suc h)) e = absurd (omega arith)

-- the tests of the head before those of the words after it
pub head_first : (a b : Bool) (r : ℕ) → (◌≡◌ {A = ℕ} (cond a 1 (cond b 2 0)) 0 → ⊥)
    → ◌≡◌ {A = ℕ} (cond a 1 (cond b 2 0)) (cond a 1 (cond b 2 r))
head_first true b r n = refl
head_first false true r n = refl
head_first false false r n = absurd (n refl)

pub head_past : (a b : Bool) (r : ℕ) → ◌≡◌ {A = ℕ} (cond a 1 (cond b 2 0)) 0 → r ≡ cond a 1 (cond b 2 r)
head_past true b r z = absurd (omega arith)
head_past false true r z = absurd (omega arith)
head_past false false r z = refl

pub list_is : (l : List ℕ)
    → list_fault l ≡ cond (eqb (head_fault l) 0) (words_fault 0 (head_value (get_or l 0 0)) (drop 1 l)) (head_fault l)
unfolding head_fault list_fault
list_is [] = refl
list_is (h ∷ ws) = go (ltb most_words (length (h ∷ ws))) (ltb 1 h)
  where
    go : (a b : Bool) → ◌≡◌ {A = ℕ} (cond a 1 (cond b 2 (words_fault 0 (head_value h) ws)))
        (cond (eqb (cond a 1 (cond b 2 0)) 0) (words_fault 0 (head_value h) ws) (cond a 1 (cond b 2 0)))
    go true b = refl
    go false true = refl
    go false false = refl
