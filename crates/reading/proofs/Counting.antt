-- The next date, and how many words are dated up to a date, while the words are passed one by one.
use Prim.Native.Nat.{ℕ, suc, ◌+◌, ◌≤◌, ◌<◌}
use native.Mathlib.Omega.{arith}
use mathlib.Core.Path.{◌≡◌, refl}
use mathlib.Core.Bool.{Bool, true, false, cond}
use mathlib.Core.List.{List, [], ◌∷◌}
use lib.Dec.{ltb, eqb}
use lib.ListN.{length, get_or, drop}
use borrow.Author.Tests.{lt-ltb, le-ltb, ltb-true, ltb-false, le-leb, lt-leb, eqb-true}
use Rattle.signals.specs.Words.{date_of, list_fault, signal_of}
use Rattle.signals.specs.Passing.{is_next, passed_date}
use Rattle.signals.specs.Normal.{Rising}
use Rattle.signals.proofs.Operand.{At, words_left}
use Rattle.signals.proofs.Truth.{and_left, and_right}
use Rattle.reading.specs.Dated.{count_by, dated_by}
use Rattle.reading.specs.Reading.{NEVER, next_date}
use Rattle.reading.proofs.ReadingFacts.{is_next_lem}

-- the next date is a word's where a word is left, else NEVER
pub next_in : (l : List ℕ) (p : ℕ) → p < length l → next_date l p ≡ date_of (get_or l p 0)
unfolding next_date
next_in l p h = rw (lt-ltb p (length l) h)

pub next_none : (l : List ℕ) (p : ℕ) → length l ≤ p → next_date l p ≡ NEVER
unfolding next_date
next_none l p h = rw (le-ltb p (length l) h)

-- a date below NEVER is a word's
pub next_left : (l : List ℕ) (p : ℕ) → next_date l p < NEVER → p < length l
next_left l p h = go (ltb p (length l)) refl
  where
    go : (t : Bool) → ltb p (length l) ≡ t → p < length l
    go true e = ltb-true p (length l) e
    go false e = absurd (omega (arith, next_none l p (ltb-false p (length l) e)))

-- passing the next date passes one word
pub passed_next : (l : List ℕ) (p : ℕ) → p < length l → passed_date l p (next_date l p) ≡ p + 1
unfolding passed_date
passed_next l p h = rw (next_in l p h, is_next_lem l p (date_of (get_or l p 0)) h refl)

-- no word dated at or before k is left when the dates left rise above it
pub count_none : (k j : ℕ) (ws : List ℕ) → k ≤ j → Rising j ws → count_by k ws ≡ 0
unfolding count_by
count_none k j [] le r = refl
count_none k j (w ∷ ws) le r = rw (lt-leb (date_of w) k (omega arith)) (count_none k (date_of w) ws (omega arith) r.1)

pub count_one : (k w : ℕ) (ws : List ℕ) → date_of w ≤ k → count_by k (w ∷ ws) ≡ suc (count_by k ws)
unfolding count_by
count_one k w ws le = rw (le-leb (date_of w) k le)

-- the first word is passed at the start
pub count_start : (l : List ℕ) (k : ℕ) → list_fault l ≡ 0 → dated_by k l ≡ 1 + count_by k (drop 1 l)
unfolding list_fault dated_by
count_start [] k z = absurd (omega arith)
count_start (h ∷ ws) k z = omega arith

-- one more word passed
pub count_passed : (l : List ℕ) (k p n : ℕ) → p < length l → date_of (get_or l p 0) ≤ k → n ≡ p + count_by k (drop p l)
    → n ≡ (p + 1) + count_by k (drop (p + 1) l)
count_passed l k p n h le e =
    let c : count_by k (drop p l) ≡ suc (count_by k (drop (p + 1) l)) =
    rw (words_left l p h) (count_one k (get_or l p 0) (drop (p + 1) l) le) in
    omega arith

pub none_left : (l : List ℕ) (k p : ℕ) → At (signal_of l) l p k → dated_by k l ≡ p + count_by k (drop p l) → p ≡ dated_by k l
none_left l k p a e = let c : count_by k (drop p l) ≡ 0 = count_none k k (drop p l) (omega arith) a.ahead.rises in omega arith

-- passing date k itself
pub pass_count : (l : List ℕ) (k p n : ℕ) → n ≡ p + count_by k (drop p l) → n ≡ passed_date l p k + count_by k (drop (passed_date l p k) l)
unfolding passed_date is_next
pass_count l k p n e = go (is_next l p k) refl
  where
    go : (t : Bool) → is_next l p k ≡ t → n ≡ cond t (p + 1) p + count_by k (drop (cond t (p + 1) p) l)
    go true q =
        let h : p < length l = ltb-true p (length l) (and_left (ltb p (length l)) (eqb (date_of (get_or l p 0)) k) q) in
        let d : date_of (get_or l p 0) ≡ k = eqb-true (date_of (get_or l p 0)) k
        (and_right (ltb p (length l)) (eqb (date_of (get_or l p 0)) k) q) in
        count_passed l k p n h (omega arith) e
    go false q = e
