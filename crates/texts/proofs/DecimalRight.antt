-- The printed digits of a number write it, without needless leading zeros.
use Prim.Native.Nat.{ℕ, zero, suc, ◌+◌, ◌*◌, ◌-◌, ◌/◌, ◌^◌, ◌≤◌, ◌<◌}
use native.Mathlib.Nat.{pow-suc, div-lt_iff_lt-mul}
use native.Mathlib.Omega.{arith}
use mathlib.Core.Path.{◌≡◌, refl, sym, ap, ◌∙◌}
use mathlib.Core.Bool.{Bool, true, false, not, cond, ◌&&◌, ◌||◌}
use mathlib.Core.List.{List, [], ◌∷◌, ◌++◌, append_assoc, append-nil}
use lib.Dec.{leb, eqb}
use lib.ListN.{length}
use borrow.Author.Tests.{ne_eqb, le-leb, leb-true, eqb-true, eqb-false}
use Rattle.signals.proofs.Truth.{true_false, and_left, and_right, and_of, or_right}
use Rattle.names.specs.Names.{digit as isDigit, all_of}
use Rattle.texts.specs.Lengths.{is_length, value_from, value}
use Rattle.texts.specs.Decimal.{digit, leading, decimal}
use Rattle.texts.specs.DecimalRight.{DecimalRight}
use Rattle.texts.proofs.Digits.{no_digits}

-- one digit more
pub from_more : (before : ℕ) (w : List ℕ) (b : ℕ) → value_from before (w ++ (b ∷ [])) ≡ value_from before w * 10 + (b - 48)
unfolding value_from
from_more before [] b = refl
from_more before (a ∷ w) b = from_more (before * 10 + (a - 48)) w b

whole : (n : ℕ) → n / 10 * 10 + (digit n - 48) ≡ n
whole n = omega arith

less : (k n : ℕ) → n < 10 ^ suc k → n / 10 < 10 ^ k
less k n h = (div-lt_iff_lt-mul {k = 10} {x = n} {y = 10 ^ k} (omega arith)).1 (rw (pow-suc 10 k) at h)

value_leading : (k n : ℕ) → n < 10 ^ k → value_from 0 (leading k n) ≡ n
unfolding value_from leading
value_leading zero n h = omega arith
value_leading (suc k) n h = go (eqb n 0) refl (value_leading k (n / 10) (less k n h))
  where
    go : (t : Bool) → eqb n 0 ≡ t → value_from 0 (leading k (n / 10)) ≡ n / 10
        → value_from 0 (cond t [] (leading k (n / 10) ++ (digit n ∷ []))) ≡ n
    go true e v = sym (eqb-true n 0 e)
    go false e v =
        from_more 0 (leading k (n / 10)) (digit n)
        ∙ ap (λ (m : ℕ). m * 10 + (digit n - 48)) v
        ∙ whole n

tenth : (n : ℕ) → n < 10 ^ 10 → n / 10 < 10 ^ 9
tenth n h = omega arith

pub value_decimal : (n : ℕ) → n < 10 ^ 10 → value (decimal n) ≡ n
unfolding value decimal
value_decimal n h =
    from_more 0 (leading 9 (n / 10)) (digit n)
    ∙ ap (λ (v : ℕ). v * 10 + (digit n - 48)) (value_leading 9 (n / 10) (tenth n h))
    ∙ whole n

is_digit : (n : ℕ) → isDigit (digit n) ≡ true
unfolding isDigit
is_digit n = rw (le-leb 48 (digit n) (omega arith), le-leb (digit n) 57 (omega arith))

-- no digits, or a first digit that is not 0
abbrev Good : List ℕ → Type 0
Good [] = Unit {0}
Good (b ∷ bs) = (isDigit b ≡ true) × (all_of isDigit bs ≡ true) × (eqb b 48 ≡ false)

all_more : (w : List ℕ) (n : ℕ) → all_of isDigit w ≡ true → all_of isDigit (w ++ (digit n ∷ [])) ≡ true
unfolding all_of
all_more [] n h = rw (is_digit n)
all_more (a ∷ w) n h =
    and_of _ _
    (and_left (isDigit a) (all_of isDigit w) h)
    (all_more w n (and_right (isDigit a) (all_of isDigit w) h))

-- a digit after such digits; the only digit of a number that is not 0 is not 0
good_more : (w : List ℕ) (n : ℕ) → Good w → value_from 0 w ≡ n / 10 → (n ≡ 0 → ⊥) → Good (w ++ (digit n ∷ []))
unfolding all_of value_from
good_more [] n g e h = (is_digit n, refl, ne_eqb (digit n) 48 (λ z. h (omega arith)))
good_more (a ∷ w) n g e h = (g.0, all_more w n g.1, g.2)

good_leading : (k n : ℕ) → n < 10 ^ k → Good (leading k n)
unfolding leading
good_leading zero n h = tt
good_leading (suc k) n h = go (eqb n 0) refl (good_leading k (n / 10) (less k n h))
  where
    go : (t : Bool) → eqb n 0 ≡ t → Good (leading k (n / 10)) → Good (cond t [] (leading k (n / 10) ++ (digit n ∷ [])))
    go true e g = tt
    go false e g = good_more (leading k (n / 10)) n g (value_leading k (n / 10) (less k n h)) (eqb-false n 0 e)

is_length_lem : (w : List ℕ) (n : ℕ) → Good w → is_length (w ++ (digit n ∷ [])) ≡ true
unfolding is_length all_of
is_length_lem [] n g = rw (is_digit n)
is_length_lem (a ∷ w) n g =
    and_of _ _ g.0 (and_of _ _ (all_more w n g.1) (or_right (eqb (length (w ++ (digit n ∷ []))) 0) (not (eqb a 48)) (ap not g.2)))

well_formed_lem : (n : ℕ) → n < 10 ^ 10 → is_length (decimal n) ≡ true
unfolding decimal
well_formed_lem n h = is_length_lem (leading 9 (n / 10)) n (good_leading 9 (n / 10) (tenth n h))

-- these are the digits of the number that they write
abbrev Kept : List ℕ → Type 0
Kept w = (k : ℕ) → value_from 0 w < 10 ^ k → leading k (value_from 0 w) ≡ w

-- and so are those with one digit more, where they write no 0
kept_more : (w : List ℕ) (b : ℕ) → isDigit b ≡ true → 0 < value_from 0 w * 10 + (b - 48) → Kept w → Kept (w ++ (b ∷ []))
unfolding leading isDigit
kept_more w b d h kept zero l = absurd (omega (arith, l, from_more 0 w b))
kept_more w b d h kept (suc k) l =
    rw (from_more 0 w b)
    (rw (ne_eqb n 0 (λ e. omega arith)) (rw (tens, last) (ap (λ (u : List ℕ). u ++ (b ∷ [])) (kept k below))))
  where
    n : ℕ
    n = value_from 0 w * 10 + (b - 48)

    low : 48 ≤ b
    low = leb-true 48 b (and_left (leb 48 b) (leb b 57) d)

    high : b ≤ 57
    high = leb-true b 57 (and_right (leb 48 b) (leb b 57) d)

    tens : n / 10 ≡ value_from 0 w
    tens = omega (arith, low, high)

    last : digit n ≡ b
    last = omega (arith, low, high)

    below : value_from 0 w < 10 ^ k
    below = rw tens at (less k n (rw (from_more 0 w b) at l))

-- digits after a first that is not 0
kept_all : (v w : List ℕ) → all_of isDigit w ≡ true → 0 < value_from 0 v → Kept v → Kept (v ++ w)
unfolding all_of
kept_all v [] a h kept = rw append-nil kept
kept_all v (b ∷ w) a h kept =
    rw (← append_assoc v (b ∷ []) w)
    (kept_all (v ++ (b ∷ [])) w (and_right (isDigit b) (all_of isDigit w) a) (rw (from_more 0 v b) (omega arith))
    (kept_more v b (and_left (isDigit b) (all_of isDigit w) a) (omega arith) kept))

from_least : (before : ℕ) (w : List ℕ) → before ≤ value_from before w
unfolding value_from
from_least before [] = omega arith
from_least before (b ∷ w) = omega (arith, from_least (before * 10 + (b - 48)) w)

-- a number that is not 0 has its ten digits and no 0 before them
ten_digits : (n : ℕ) → 0 < n → decimal n ≡ leading 10 n
unfolding decimal leading
ten_digits n h = rw (ne_eqb n 0 (λ e. omega arith))

only_from : (b : ℕ) (w : List ℕ) → isDigit b ≡ true → all_of isDigit w ≡ true → eqb b 48 ≡ false → value (b ∷ w) < 10 ^ 10
    → decimal (value (b ∷ w)) ≡ b ∷ w
unfolding value value_from isDigit
only_from b w d a e h = ten_digits n (omega (arith, first, from_least (0 * 10 + (b - 48)) w)) ∙ kept_all (b ∷ []) w a first one 10 h
  where
    n : ℕ
    n = value_from (0 * 10 + (b - 48)) w

    first : 0 < 0 * 10 + (b - 48)
    first = omega (arith, leb-true 48 b (and_left (leb 48 b) (leb b 57) d), eqb-false b 48 e)

    one : Kept (b ∷ [])
    one = kept_more [] b d first (λ k l. no_digits k)

zero_text : (b : ℕ) → b ≡ 48 → decimal (value (b ∷ [])) ≡ b ∷ []
unfolding decimal leading value value_from
zero_text b e = rw e

only_text : (w : List ℕ) → is_length w ≡ true → value w < 10 ^ 10 → decimal (value w) ≡ w
unfolding is_length value decimal
only_text [] e h = true_false (sym e)
only_text (b ∷ w) e h = go (eqb b 48) refl w (and_right (isDigit b) _ e) h
  where
    go : (t : Bool) → eqb b 48 ≡ t → (u : List ℕ) → all_of isDigit u && (eqb (length u) 0 || not (eqb b 48)) ≡ true
        → value (b ∷ u) < 10 ^ 10 → decimal (value (b ∷ u)) ≡ b ∷ u
    go false q u a l = only_from b u (and_left (isDigit b) _ e) (and_left (all_of isDigit u) _ a) q l
    go true q [] a l = zero_text b (eqb-true b 48 q)
    go true q (c ∷ u) a l =
        true_false (sym (rw (q, ne_eqb (length (c ∷ u)) 0 (λ z. omega arith)) at (and_right (all_of isDigit (c ∷ u)) _ a)))

pub decimal_right : DecimalRight
decimal_right = record { well_formed = well_formed_lem; writes = value_decimal; only = only_text }
