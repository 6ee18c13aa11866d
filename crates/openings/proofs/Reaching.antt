-- What is there of a factor ends in the text.
use Prim.Native.Nat.{ℕ, ◌+◌, ◌≤◌, ◌<◌, max}
use native.Mathlib.Omega.{arith}
use native.Mathlib.Decide.{dec_lt}
use mathlib.Core.Path.{◌≡◌, refl}
use mathlib.Core.Bool.{true}
use mathlib.Core.List.{List, [], ◌∷◌}
use lib.Dec.{ltb, eqb}
use lib.ListN.{length, get_or, drop, drop_of_length-le}
use borrow.Author.Tests.{ltb-true, ne_eqb}
use Rattle.names.specs.Names.{all_of, letter}
use Rattle.grammar.specs.Reader.{shared, word_reach, reach, SR_WORD, RS_WORD, TON_WORD, TOF_WORD, TP_WORD}
use Rattle.marks.specs.declared.Mark.{Mark}
use Rattle.marks.specs.Marks.{next_mark}
use Rattle.openings.specs.Opening.{reach_mark}
use Rattle.signals.proofs.Truth.{and_left, and_right}
use Rattle.grammar.proofs.Bytes.{by_cond}
use Rattle.openings.proofs.Words.{next_first}

shared_fits : (w l : List ℕ) → all_of (ltb 0) w ≡ true → shared w l ≤ length l
unfolding shared all_of
shared_fits [] l pos = omega arith
shared_fits (b ∷ w) [] pos =
    let some = ltb-true 0 b (and_left (ltb 0 b) (all_of (ltb 0) w) pos) in
    rw (ne_eqb 0 b (omega arith)) (omega arith)
shared_fits (b ∷ w) (c ∷ l) pos =
    let ih = shared_fits w l (and_right (ltb 0 b) (all_of (ltb 0) w) pos) in
    by_cond (λ (k : ℕ). k ≤ length (c ∷ l)) (eqb c b) (λ e. omega arith) (λ e. omega arith)

word_fits : (l : List ℕ) → word_reach l ≤ length l
unfolding all_of
word_fits l =
    let s = shared_fits SR_WORD l refl in
    let r = shared_fits RS_WORD l refl in
    let n = shared_fits TON_WORD l refl in
    let f = shared_fits TOF_WORD l refl in
    let p = shared_fits TP_WORD l refl in
    omega arith

-- no word has over 4 bytes, and 8 of a name count
shared_most : (w l : List ℕ) → shared w l ≤ length w
unfolding shared
shared_most [] l = omega arith
shared_most (b ∷ w) l =
    let ih = shared_most w (drop 1 l) in
    by_cond (λ (k : ℕ). k ≤ length (b ∷ w)) (eqb (get_or l 0 0) b) (λ e. omega arith) (λ e. omega arith)

word_most : (l : List ℕ) → word_reach l ≤ 4
word_most l =
    let s = shared_most SR_WORD l in
    let r = shared_most RS_WORD l in
    let n = shared_most TON_WORD l in
    let f = shared_most TOF_WORD l in
    let p = shared_most TP_WORD l in
    omega arith

pub reach_most : (text : List ℕ) (m : Mark) → reach_mark text m ≤ 8
unfolding reach_mark reach
reach_most text m =
    by_cond (λ (k : ℕ). k ≤ 8) m.ok
    (λ fine. by_cond (λ (k : ℕ). k ≤ 8) (letter (get_or (drop m.at text) 0 0)) (λ e. omega arith)
    (λ e. omega (arith, word_most (drop m.at text)))) (λ e. omega arith)

-- where a letter is next, a name that is too long has its 8 bytes
pub reach_fits : (text : List ℕ) (m : Mark) → (letter (next_mark text m) ≡ true → 8 ≤ length (drop m.at text)) →
    reach_mark text m ≤ length (drop m.at text)
unfolding reach_mark reach
reach_fits text m h =
    by_cond (λ (k : ℕ). k ≤ length (drop m.at text)) m.ok
    (λ fine. rw (next_first text m fine) (by_cond (λ (k : ℕ). k ≤ length (drop m.at text)) (letter (next_mark text m)) h
    (λ e. word_fits (drop m.at text))))
    (λ e. omega arith)

-- nothing is there past the end
nothing_past : (text : List ℕ) (m : Mark) → drop m.at text ≡ [] → reach_mark text m ≤ 0
unfolding reach_mark reach letter
nothing_past text m past =
    rw past (by_cond (λ (k : ℕ). k ≤ 0) m.ok (λ fine. omega (arith, word_fits [])) (λ e. omega arith))

pub reach_inside : (text : List ℕ) (m : Mark) → 0 < reach_mark text m → m.at < length text
reach_inside text m pos = go (dec_lt m.at (length text))
  where
    go : Dec (m.at < length text) → m.at < length text
    go (yes h) = h
    go (no h) =
        let past : drop m.at text ≡ [] = drop_of_length-le text {i = m.at} (omega (arith, h)) in
        absurd (omega (arith, nothing_past text m past))

pub reach_past : (text : List ℕ) (m : Mark) → m.at + reach_mark text m ≤ max m.at (length text + 8)
reach_past text m = go (dec_lt 0 (reach_mark text m))
  where
    go : Dec (0 < reach_mark text m) → m.at + reach_mark text m ≤ max m.at (length text + 8)
    go (yes h) = omega (arith, reach_inside text m h, reach_most text m)
    go (no h) = omega (arith, h)
