-- A text by value: one of no bytes, and one with bytes added at its end.
use Prim.Native.Nat.{ℕ, ◌+◌, ◌≤◌, ◌<◌}
use native.Mathlib.Omega.{arith}
use mathlib.Core.Path.{◌≡◌, refl, sym, ap, ◌∙◌, subst}
use mathlib.Core.List.{List, [], ◌++◌}
use lib.ListN.{length, take, drop, replicate, length-append, take-append-drop}
use lib.Seq.{take_at, length-take-le}
use borrow.Author.Tests.{le-leb, lt-leb}
use Rattle.std.proofs.lemmas.List.{length-replicate}
use Rattle.std.proofs.lemmas.Slice.{drop-append-drop}
use Rattle.slices.specs.Slices.{put_at}
use Rattle.slices.proofs.Placing.{put_fits}
use Rattle.texts.specs.Decimal.{decimal, PutNumber}
use Rattle.texts.proofs.Digits.{decimal_length}
use Rattle.verdict_line.specs.Written.{over, Filled, pushed}

-- so many zeros, in an array of zeros
pub zeros_filled : (room k : ℕ) → k ≤ room → Filled room (take k (replicate room 0)) (replicate room 0) k
unfolding over
zeros_filled room k h =
    let zeros : List ℕ = replicate room 0 in
    let long : length zeros ≡ room = length-replicate room 0 in
    let held : length (take k zeros) ≡ k = length-take-le k zeros (rw long h) in
    (sym held, rw held (sym (take-append-drop k zeros)), rw long h, sym held)

-- the text is what the count takes of the array
pub text_held : (room : ℕ) (text bytes : List ℕ) (count : ℕ) → Filled room text bytes count → take count bytes ≡ text
unfolding over
text_held room text bytes count f = ap (take count) f.1 ∙ take_at text (drop (length text) (replicate room 0)) count (sym f.0)

-- bytes added, where there is room and where there is none
pub pushed_fits : (room : ℕ) (text more : List ℕ) → length text + length more ≤ room → pushed room text more ≡ text ++ more
unfolding pushed
pushed_fits room text more h = rw (le-leb _ _ h)

pub pushed_short : (room : ℕ) (text more : List ℕ) → room < length text + length more → pushed room text more ≡ text
unfolding pushed
pushed_short room text more h = rw (lt-leb _ _ h)

-- bytes put after the text, for which there is room
module _ (room : ℕ) (bytes more : List ℕ) (count : ℕ) (f : Filled room (take count bytes) bytes count)
    (h : length bytes ≡ room) (fits : count + length more ≤ room) (after : List ℕ) (p : after ≡ put_at bytes count more)
  where
    rest : drop (count + length more) bytes ≡ drop (length (take count bytes ++ more)) (replicate room 0)
    unfolding over
    rest =
        ap (drop (count + length more)) f.1
        ∙ drop-append-drop (length (take count bytes)) (replicate room 0) (take count bytes) (count + length more) (omega (arith, f.0)) refl
        ∙ ap (λ (k : ℕ). drop k (replicate room 0)) (omega (arith, f.0, length-append (take count bytes) more))

    more_over : after ≡ over (take count bytes ++ more) (replicate room 0)
    unfolding over
    more_over = p ∙ put_fits bytes count more (omega arith) ∙ ap (λ (l : List ℕ). take count bytes ++ more ++ l) rest

    more_filled : Filled room (take count bytes ++ more) after (count + length more)
    unfolding over
    more_filled =
        let e : count + length more ≡ length (take count bytes ++ more) = omega (arith, f.0, length-append (take count bytes) more) in
        let past = drop (length (take count bytes ++ more)) (replicate {A = ℕ} room 0) in
        let b : count + length more ≤ length after =
        omega (arith, e, ap length more_over, length-append (take count bytes ++ more) past) in
        (e, more_over, b, sym (length-take-le (count + length more) after b))

    more_held : take (count + length more) after ≡ take count bytes ++ more
    more_held = text_held room (take count bytes ++ more) after (count + length more) more_filled

    pub pushed_filled : Filled room (take (count + length more) after) after (count + length more)
    pushed_filled = subst (λ (l : List ℕ). Filled room l after (count + length more)) (sym more_held) more_filled

    pub pushed_held : take (count + length more) after ≡ pushed room (take count bytes) more
    pushed_held = more_held ∙ sym (pushed_fits room (take count bytes) more (omega (arith, f.0)))

-- a number's digits, alone in an array of ten bytes
pub digits_alone : (n count : ℕ) (digits : List ℕ) → PutNumber (replicate 10 0) 0 n count digits
    → (count ≤ length digits) × (take count digits ≡ decimal n)
digits_alone n count digits p =
    let zeros = drop (0 + length (decimal n)) (replicate {A = ℕ} 10 0) in
    let e : digits ≡ decimal n ++ zeros = p.1 ∙ put_fits (replicate 10 0) 0 (decimal n) (omega (arith, decimal_length n)) in (
      omega (arith, p.0, ap length e, length-append (decimal n) zeros),
      ap (take count) e ∙ take_at (decimal n) zeros count (sym p.0),
    )

-- a text in its array, said of the text
pub filled_as : (room : ℕ) (text bytes : List ℕ) (count : ℕ) → Filled room (take count bytes) bytes count → take count bytes ≡ text
    → Filled room text bytes count
filled_as room text bytes count f e = subst (λ (l : List ℕ). Filled room l bytes count) e f
