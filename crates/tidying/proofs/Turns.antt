-- One word of tidying's two passes: the tests that the code makes of it are those of the definitions, and what each turn counts or puts.
use Prim.Native.Nat.{ℕ, zero, suc, ◌+◌, ◌*◌, ◌-◌, ◌%◌, ◌≤◌, ◌<◌}
use native.Mathlib.Omega.{arith}
use native.Mathlib.Numerals.{add-one}
use mathlib.Core.Path.{◌≡◌, refl, sym, ◌∙◌, ap}
use mathlib.Core.Bool.{Bool, true, false, cond}
use mathlib.Core.List.{List, [], ◌∷◌, ◌++◌, append_assoc, append-nil}
use lib.Dec.{eqb, leb, ltb}
use lib.ListN.{length, get_or, take, drop, set, length-append, length-set, take-append-drop, drop_of_length-le}
use lib.Seq.{drop-cons, take-set-le, drop-set-lt, take-suc-set, length-take-le}
use borrow.Author.Tests.{eqb-true, eqb-false, ltb-true, ltb-false}
use native.Mathlib.Nat.{add-zero}
use Rattle.signals.specs.Words.{date_of, value_after, changes_nothing, most_words}
use Rattle.signals.proofs.WordFacts.{head_value_lem}
use Rattle.words.proofs.Unchanged.{both_up, both_down}
use Rattle.lists.specs.Head.{head_fault}
use Rattle.lists.proofs.Judging.{head_some, head_short, head_small}
use Rattle.tidying.specs.Kept.{changing, kept}
use Rattle.tidying.specs.Counting.{not_above, change, all_not_above, Counted}

module _ (before w : ℕ) where
  -- the last two bits of a word that changes nothing
  pub same_bits : changes_nothing (value_after before) w ≡ eqb (w % 4) (3 * (before % 2))
  unfolding value_after
  same_bits = go (eqb (before % 2) 1) refl
    where
      go : (v : Bool) → eqb (before % 2) 1 ≡ v → changes_nothing v w ≡ eqb (w % 4) (3 * (before % 2))
      go true p = sym (both_up w) ∙ ap (eqb (w % 4)) (omega (arith, eqb-true (before % 2) 1 p))
      go false p =
          let p' : (before % 2 ≡ 1) → ⊥ = eqb-false (before % 2) 1 p in
          let z : 0 ≡ 3 * (before % 2) = omega arith in
          sym (both_down w) ∙ ap (eqb (w % 4)) z

pub change_le : (before w n : ℕ) → n ≡ change before w → n ≤ 1
unfolding change
change_le before w n e = go (changes_nothing (value_after before) w) e
  where
    go : (t : Bool) → n ≡ cond t 0 1 → n ≤ 1
    go true p = omega arith
    go false p = omega arith

pub above_le : (before w n : ℕ) → n ≡ not_above before w → n ≤ 1
unfolding not_above
above_le before w n e = go (leb (date_of w) (date_of before)) e
  where
    go : (t : Bool) → n ≡ cond t 1 0 → n ≤ 1
    go true p = omega arith
    go false p = omega arith

changing_turn : (before w : ℕ) (ws : List ℕ)
    → changing (value_after before) (w ∷ ws) ≡ take (change before w) (w ∷ []) ++ changing (value_after w) ws
unfolding changing change
changing_turn before w ws = go (changes_nothing (value_after before) w)
  where
    go : (t : Bool) → cond t (changing (value_after w) ws) (w ∷ changing (value_after w) ws)
        ≡ take (cond t 0 1) (w ∷ []) ++ changing (value_after w) ws
    go true = refl
    go false = refl

-- what is left after the word before place i, and after the word there
module _ (l : List ℕ) (i : ℕ) (one : 1 ≤ i) (h : i < length l) where
  before_next : i ≡ (i + 1) - 1
  before_next = omega arith

  changing_next : (n : ℕ) → n ≡ change (get_or l (i - 1) 0) (get_or l i 0) → changing (value_after (get_or l (i - 1) 0)) (drop i l)
      ≡ take n (get_or l i 0 ∷ []) ++ changing (value_after (get_or l ((i + 1) - 1) 0)) (drop (i + 1) l)
  changing_next n e =
      rw (e, drop-cons l i 0 h, ← before_next, add-one) (changing_turn (get_or l (i - 1) 0) (get_or l i 0) (drop (suc i) l))

  above_next : all_not_above (get_or l (i - 1) 0) (drop i l)
      ≡ not_above (get_or l (i - 1) 0) (get_or l i 0) + all_not_above (get_or l ((i + 1) - 1) 0) (drop (i + 1) l)
  unfolding all_not_above
  above_next = rw (drop-cons l i 0 h, ← before_next, add-one)

-- after the first word
kept_start : (l : List ℕ) → head_fault l ≡ 0 → kept l ≡ get_or l 0 0 ∷ changing (value_after (get_or l 0 0)) (drop 1 l)
unfolding kept
kept_start [] z = absurd (omega (arith, head_some [] z))
kept_start (h ∷ ws) z = ap (λ v. h ∷ changing v ws) (sym (head_value_lem h (head_small (h ∷ ws) z)))

length_change : (c w : ℕ) → c ≤ 1 → length (take c (w ∷ [])) ≡ c
length_change zero w h = refl
length_change (suc zero) w h = refl
length_change (suc (suc c)) w h = absurd (omega arith)

-- the first pass up to place i: what is counted and what is left
pub record CountedTo (l : List ℕ) (words wrong i : ℕ) : Type 0 where
  pub one : 1 ≤ i
  pub within : i ≤ length l
  pub short : length l ≤ most_words
  pub few : (words ≤ i) × (wrong ≤ i)
  pub words_left : words + length (changing (value_after (get_or l (i - 1) 0)) (drop i l)) ≡ length (kept l)
  pub wrong_left : wrong + all_not_above (get_or l (i - 1) 0) (drop i l) ≡ all_not_above (get_or l 0 0) (drop 1 l)

pub count_start : (l : List ℕ) → head_fault l ≡ 0 → CountedTo l 1 0 1
count_start l z =
    record {
      one = omega arith;
      within = head_some l z;
      short = head_short l z;
      few = (omega arith, omega arith);
      words_left = omega (arith, ap length (kept_start l z));
      wrong_left = omega arith;
    }

pub count_turn : (l : List ℕ) (words wrong i : ℕ) → CountedTo l words wrong i → i < length l → (c f : ℕ)
    → c ≡ change (get_or l (i - 1) 0) (get_or l i 0) → f ≡ not_above (get_or l (i - 1) 0) (get_or l i 0)
    → CountedTo l (words + c) (wrong + f) (i + 1)
count_turn l words wrong i k h c f p q =
    let rest : List ℕ = changing (value_after (get_or l ((i + 1) - 1) 0)) (drop (i + 1) l) in
    let changed : length (changing (value_after (get_or l (i - 1) 0)) (drop i l)) ≡ length (take c (get_or l i 0 ∷ [])) + length rest =
    ap length (changing_next l i k.one h c p) ∙ length-append (take c (get_or l i 0 ∷ [])) rest in
    let changes : c ≤ 1 = change_le (get_or l (i - 1) 0) (get_or l i 0) c p in
    let above-one : f ≤ 1 = above_le (get_or l (i - 1) 0) (get_or l i 0) f q in
    record {
      one = omega arith;
      within = omega arith;
      short = k.short;
      few = (omega (arith, k.few.0), omega (arith, k.few.1));
      words_left = omega (arith, k.words_left, changed, length_change c (get_or l i 0) changes);
      wrong_left = omega (arith, k.wrong_left, above_next l i k.one h);
    }

pub count_end : (l : List ℕ) (words wrong i : ℕ) → CountedTo l words wrong i → length l ≤ i → Counted l words wrong
unfolding changing all_not_above
count_end l words wrong i k h =
    let none = drop_of_length-le l {i = i} h in
    let w = rw none at k.words_left in
    let f = rw none at k.wrong_left in
    (omega (arith, w), omega (arith, f))

-- the second pass up to place i of the list and this place of the output, which was `old` before its loop: what is put there, what is
-- left, and what stays
pub record PutTo (l old out : List ℕ) (count place i : ℕ) : Type 0 where
  pub counted : count ≡ length (kept l)
  pub fits : count ≤ length old
  pub one : 1 ≤ i
  pub room : place ≤ count
  pub made : take place out ++ changing (value_after (get_or l (i - 1) 0)) (drop i l) ≡ kept l
  pub long : length out ≡ length old
  pub past : drop count out ≡ drop count old

pub kept_some : (l : List ℕ) → head_fault l ≡ 0 → 1 ≤ length (kept l)
kept_some l z = omega (arith, ap length (kept_start l z))

pub put_start : (l old : List ℕ) (count : ℕ) → head_fault l ≡ 0 → count ≡ length (kept l) → count ≤ length old
    → PutTo l (set old 0 (get_or l 0 0)) (set old 0 (get_or l 0 0)) count 1 1
put_start l old count z c fits =
    let some = kept_some l z in
    record {
      counted = c;
      fits = omega (arith, length-set old 0 (get_or l 0 0));
      one = omega arith;
      room = omega arith;
      made = rw (take-suc-set old 0 (get_or l 0 0) (omega arith)) (sym (kept_start l z));
      long = refl;
      past = refl;
    }

put_taken : (out : List ℕ) (place w n : ℕ) → place < length out → n ≤ 1
    → take (place + n) (set out place w) ≡ take place out ++ take n (w ∷ [])
put_taken out place w zero h s =
    rw (add-zero place) (take-set-le place out place w (omega arith) ∙ sym (append-nil (take place out)))
put_taken out place w (suc zero) h s = rw add-one (take-suc-set out place w h)
put_taken out place w (suc (suc n)) h s = absurd (omega arith)

empty : (l : List ℕ) → length l ≡ 0 → l ≡ []
empty [] e = refl
empty (x ∷ l) e = absurd (omega arith)

module _ (l old out : List ℕ) (count place i : ℕ) (k : PutTo l old out count place i) where
  left_is : place + length (changing (value_after (get_or l (i - 1) 0)) (drop i l)) ≡ count
  left_is =
      omega (
        arith,
        ap length k.made,
        length-append (take place out) (changing (value_after (get_or l (i - 1) 0)) (drop i l)),
        length-take-le place out (omega (arith, k.room, k.long, k.fits)),
        k.counted,
      )

  -- while a word is missing, one is left, and there is room for it
  pub put_some : place < count → i < length l
  unfolding changing
  put_some h = go (ltb i (length l)) refl
    where
      go : (t : Bool) → ltb i (length l) ≡ t → i < length l
      go true p = ltb-true i (length l) p
      go false p = absurd (omega (arith, rw (drop_of_length-le l {i = i} (ltb-false i (length l) p)) at left_is))

  pub put_room : place < count → place < length out
  put_room h = omega (arith, k.long, k.fits)

  pub put_turn : place < count → (n : ℕ) → n ≡ change (get_or l (i - 1) 0) (get_or l i 0)
      → PutTo l old (set out place (get_or l i 0)) count (place + n) (i + 1)
  put_turn h n e =
      let w : ℕ = get_or l i 0 in
      let rest : List ℕ = changing (value_after (get_or l ((i + 1) - 1) 0)) (drop (i + 1) l) in
      let small : n ≤ 1 = change_le (get_or l (i - 1) 0) w n e in
      let next : changing (value_after (get_or l (i - 1) 0)) (drop i l) ≡ take n (w ∷ []) ++ rest =
      changing_next l i k.one (put_some h) n e in
      record {
        counted = k.counted;
        fits = k.fits;
        one = omega arith;
        room = omega arith;
        made =
            rw
            (put_taken out place w n (put_room h) small)
            (append_assoc (take place out) (take n (w ∷ [])) rest ∙ ap (λ r. take place out ++ r) (sym next) ∙ k.made);
        long = length-set out place w ∙ k.long;
        past = drop-set-lt count out place w h ∙ k.past;
      }

  pub put_end : count ≤ place → out ≡ kept l ++ drop count old
  put_end h =
      let here : place ≡ count = omega (arith, k.room) in
      let none : changing (value_after (get_or l (i - 1) 0)) (drop i l) ≡ [] = empty _ (omega (arith, left_is)) in
      let whole : take place out ≡ kept l = sym (append-nil (take place out)) ∙ rw none at k.made in
      let front : take count out ≡ kept l = rw here at whole in
      sym (take-append-drop count out) ∙ rw (k.past, front)

-- the first word, put before the loop, is none of those past the count
pub put_over : (l old : List ℕ) (count h : ℕ) → head_fault l ≡ 0 → count ≡ length (kept l) → drop count (set old 0 h) ≡ drop count old
put_over l old count h z c = drop-set-lt count old 0 h (omega (arith, kept_some l z))
