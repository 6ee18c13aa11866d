-- A word, its date and its two values determine each other.
use Prim.Native.Nat.{ℕ, zero, suc, ◌+◌, ◌*◌, ◌/◌, ◌%◌, ◌≤◌, ◌<◌, ◌^◌}
use mathlib.Core.Bool.{Bool, true, false}
use mathlib.Core.Path.{◌≡◌, refl}
use native.Mathlib.Omega.{arith}
use lib.Dec.{eqb}
use borrow.Author.Tests.{eq-eqb, ne_eqb}
use Rattle.signals.specs.Moment.{M}
use Rattle.signals.specs.Signal.{num}
use Rattle.signals.specs.Words.{word, date_of, value_at, value_after, head_value}

pub date_of_word : (d : ℕ) (a b : Bool) → date_of (word d a b) ≡ d
unfolding word date_of
date_of_word d true true = omega arith
date_of_word d true false = omega arith
date_of_word d false true = omega arith
date_of_word d false false = omega arith

pub value_at_word : (d : ℕ) (a b : Bool) → value_at (word d a b) ≡ a
unfolding word value_at
value_at_word d true true = eq-eqb ((4 * d + 2 * num true + num true) / 2 % 2) 1 (omega arith)
value_at_word d true false = eq-eqb ((4 * d + 2 * num true + num false) / 2 % 2) 1 (omega arith)
value_at_word d false true = ne_eqb ((4 * d + 2 * num false + num true) / 2 % 2) 1 (omega arith)
value_at_word d false false = ne_eqb ((4 * d + 2 * num false + num false) / 2 % 2) 1 (omega arith)

pub value_after_word : (d : ℕ) (a b : Bool) → value_after (word d a b) ≡ b
unfolding word value_after
value_after_word d true true = eq-eqb ((4 * d + 2 * num true + num true) % 2) 1 (omega arith)
value_after_word d true false = ne_eqb ((4 * d + 2 * num true + num false) % 2) 1 (omega arith)
value_after_word d false true = eq-eqb ((4 * d + 2 * num false + num true) % 2) 1 (omega arith)
value_after_word d false false = ne_eqb ((4 * d + 2 * num false + num false) % 2) 1 (omega arith)

-- the number that a bit is
pub num_bit : (x : ℕ) → x < 2 → num (eqb x 1) ≡ x
num_bit zero h = refl
num_bit (suc zero) h = refl
num_bit (suc (suc x)) h = omega arith

pub word_of : (w : ℕ) → word (date_of w) (value_at w) (value_after w) ≡ w
unfolding word date_of value_at value_after
word_of w =
    let at : num (eqb (w / 2 % 2) 1) ≡ w / 2 % 2 = num_bit (w / 2 % 2) (omega arith) in
    let after : num (eqb (w % 2) 1) ≡ w % 2 = num_bit (w % 2) (omega arith) in
    omega arith

pub date_le : (w : ℕ) → w < 2 ^ 32 → date_of w ≤ M
unfolding date_of
date_le w h = omega arith

pub word_lt : (d : ℕ) (a b : Bool) → d ≤ M → word d a b < 2 ^ 32
unfolding word
word_lt d true true h = omega arith
word_lt d true false h = omega arith
word_lt d false true h = omega arith
word_lt d false false h = omega arith

-- a word's date from the number, for `omega`
pub date_bounds : (w : ℕ) → (4 * date_of w ≤ w) × (w < 4 * date_of w + 4)
unfolding date_of
date_bounds w = omega arith

-- the first word read as a word: its value after is the value that it gives
pub head_value_lem : (h : ℕ) → h ≤ 1 → value_after h ≡ head_value h
unfolding value_after head_value
head_value_lem zero h = refl
head_value_lem (suc zero) h = refl
head_value_lem (suc (suc x)) h = absurd (omega arith)

pub num_le : (v : Bool) → num v ≤ 1
num_le true = omega arith
num_le false = omega arith

pub head_value_num : (v : Bool) → head_value (num v) ≡ v
unfolding head_value
head_value_num true = refl
head_value_num false = refl

pub num_head_value : (h : ℕ) → h ≤ 1 → num (head_value h) ≡ h
unfolding head_value
num_head_value zero h = refl
num_head_value (suc zero) h = refl
num_head_value (suc (suc x)) h = omega arith
