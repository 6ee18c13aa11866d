-- The digits of a number, put from the last to the first.
use Prim.Native.Nat.{ℕ, zero, suc, ◌-◌, ◌/◌, ◌^◌, ◌≤◌, ◌<◌}
use native.Mathlib.Nat.{pow-suc, div-lt_iff_lt-mul}
use native.Mathlib.Numerals.{sub-one}
use native.Mathlib.Omega.{arith}
use mathlib.Core.Path.{◌≡◌, refl, sym, ap, ◌∙◌}
use mathlib.Core.Bool.{Bool, true, false, cond}
use mathlib.Core.List.{List, [], ◌∷◌, ◌++◌, append_assoc}
use lib.Dec.{eqb}
use lib.ListN.{length, length-append, set, drop, length-set, drop_of_length-le, take, length-drop}
use lib.Seq.{take_all}
use borrow.Author.Tests.{ne_eqb}
use Rattle.texts.specs.Decimal.{leading, decimal, digit, PutNumber}
use Rattle.slices.specs.Slices.{put_at}

pub no_digits : (k : ℕ) → leading k 0 ≡ []
unfolding leading
no_digits zero = refl
no_digits (suc k) = refl

drop_at_set : (l : List ℕ) (k v : ℕ) → k < length l → drop k (set l k v) ≡ v ∷ drop (suc k) l
drop_at_set [] k v h = absurd (omega arith)
drop_at_set (x ∷ xs) zero v h = refl
drop_at_set (x ∷ xs) (suc k) v h = drop_at_set xs k v (omega arith)

-- the digits that are put, after those still to be put
pub record Put (n : ℕ) (text : List ℕ) (left at : ℕ) : Type 0 where
  pub within : at ≤ 9
  pub size : length text ≡ 10
  pub fits : left < 10 ^ at
  pub whole : leading at left ++ drop at text ≡ decimal n

pub put_first : (n : ℕ) (text : List ℕ) → n < 2 ^ 32 → length text ≡ 10 → Put n (set text 9 (digit n)) (n / 10) 9
unfolding decimal
put_first n text h e =
    record {
      within = omega arith;
      size = length-set text 9 (digit n) ∙ e;
      fits = omega arith;
      whole =
          ap (λ (l : List ℕ). leading 9 (n / 10) ++ l)
          (drop_at_set text 9 (digit n) (omega arith) ∙ ap (λ (l : List ℕ). digit n ∷ l) (past text e));
    }
  where
    past : (l : List ℕ) → length l ≡ 10 → drop 10 l ≡ []
    past l q = drop_of_length-le l {i = 10} (omega arith)

pub put_place : (n : ℕ) (text : List ℕ) (left at : ℕ) → Put n text left at → 0 < left → 1 ≤ at
put_place n text left zero p h = absurd (omega (arith, p.fits))
put_place n text left (suc k) p h = omega arith

turned : (text : List ℕ) (left k : ℕ) → k < length text → 0 < left
    → leading k (left / 10) ++ drop k (set text k (digit left)) ≡ leading (suc k) left ++ drop (suc k) text
unfolding leading
turned text left k q h =
    rw (ne_eqb left 0 (λ e. omega arith))
    (ap (λ (l : List ℕ). leading k (left / 10) ++ l) (drop_at_set text k (digit left) q)
    ∙ sym (append_assoc (leading k (left / 10)) (digit left ∷ []) (drop (suc k) text)))

next : (n : ℕ) (text : List ℕ) (left k : ℕ) → Put n text left (suc k) → 0 < left → Put n (set text k (digit left)) (left / 10) k
next n text left k p h =
    record {
      within = omega (arith, p.within);
      size = length-set text k (digit left) ∙ p.size;
      fits = (div-lt_iff_lt-mul {k = 10} {x = left} {y = 10 ^ k} (omega arith)).1 (rw (pow-suc 10 k) at p.fits);
      whole = turned text left k (omega (arith, p.within, p.size)) h ∙ p.whole;
    }

pub put_next : (n : ℕ) (text : List ℕ) (left at : ℕ) → Put n text left at → 0 < left
    → Put n (set text (at - 1) (digit left)) (left / 10) (at - 1)
put_next n text left zero p h = absurd (omega (arith, p.fits))
put_next n text left (suc k) p h = rw (sub-one (suc k)) (next n text left k p h)

pub put_all : (n : ℕ) (text : List ℕ) (left at : ℕ) → left ≡ 0 → Put n text left at → drop at text ≡ decimal n
put_all n text left at e p = sym (ap (λ (l : List ℕ). l ++ drop at text) (ap (leading at) e ∙ no_digits at)) ∙ p.whole

-- a number has at most ten digits
leading_length : (k n : ℕ) → length (leading k n) ≤ k
unfolding leading
leading_length zero n = omega arith
leading_length (suc k) n = go (eqb n 0) (leading_length k (n / 10))
  where
    go : (t : Bool) → length (leading k (n / 10)) ≤ k → length (cond t [] (leading k (n / 10) ++ (digit n ∷ []))) ≤ suc k
    go true h = omega arith
    go false h = rw (length-append (leading k (n / 10)) (digit n ∷ [])) (omega arith)

pub decimal_length : (n : ℕ) → length (decimal n) ≤ 10
unfolding decimal
decimal_length n = rw (length-append (leading 9 (n / 10)) (digit n ∷ [])) (omega (arith, leading_length 9 (n / 10)))

-- the part of the array from where the digits begin, put into an output
pub put_digits : (n : ℕ) (text : List ℕ) (from : ℕ) (out : List ℕ) (at : ℕ) (exit : List ℕ) → from ≤ 9 → length text ≡ 10
    → drop from text ≡ decimal n → exit ≡ put_at out at (take (10 - from) (drop from text)) → PutNumber out at n (10 - from) exit
put_digits n text from out at exit w e h p = (
  omega (arith, ap length h, length-drop from text),
  p ∙ ap (put_at out at) (take_all (10 - from) (drop from text) (rw (length-drop from text) (omega arith)) ∙ h),
)
