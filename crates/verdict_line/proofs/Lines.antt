-- The line of a claim's answer: how long it is and where it ends.
use Prim.Native.Nat.{ℕ, zero, suc, ◌+◌, ◌-◌, ◌/◌, ◌≤◌, ◌<◌}
use native.Mathlib.Omega.{arith}
use mathlib.Core.Path.{◌≡◌, refl, sym, ◌∙◌}
use mathlib.Core.Bool.{Bool, true, false, not, cond, ◌&&◌}
use mathlib.Core.List.{List, [], ◌∷◌, ◌++◌}
use lib.Dec.{eqb}
use lib.ListN.{length, get_or, length-append}
use borrow.Author.Tests.{eqb-false}
use Rattle.signals.specs.Moment.{M}
use Rattle.signals.specs.declared.End.{End}
use Rattle.signals.specs.declared.End.TheVariants.{At, Before, Never}
use Rattle.signals.specs.declared.Verdict.{Verdict}
use Rattle.signals.specs.declared.Verdict.TheVariants.{Holds, FailsAt, FailsAfter, Refused}
use Rattle.signals.proofs.Truth.{and_left, and_right}
use Rattle.texts.specs.Decimal.{digit, leading, decimal}
use Rattle.texts.proofs.Digits.{decimal_length}
use Rattle.verdict_line.specs.Line.{holds_text, fails_at_text, fails_after_text, refused_text}
use Rattle.verdict_line.specs.Line.{until_text, until_before_text, for_good_text, end_text, line, line_of}
use Rattle.verdict_line.specs.Written.{longest}

pub length_line : (text more : List ℕ) → length (line text more) ≡ length text + length more + 1
unfolding line
length_line text more = length-append (text ++ more) (10 ∷ []) ∙ rw (length-append text more)

pub end_fits : (e : End) → length (end_text e) ≤ 24
unfolding end_text until_text until_before_text for_good_text
end_fits (At k) = omega (arith, decimal_length k)
end_fits (Before k) = omega (arith, decimal_length k)
end_fits Never = omega arith

fails_fits : (text : List ℕ) (k : ℕ) (e : End) → length text ≤ 12 → length (line text (decimal k ++ end_text e)) ≤ longest
fails_fits text k e h =
    omega (arith, h, length_line text (decimal k ++ end_text e), length-append (decimal k) (end_text e), decimal_length k, end_fits e)

pub line_fits : (v : Verdict) → length (line_of v) ≤ longest
unfolding line_of holds_text fails_at_text fails_after_text refused_text
line_fits Holds = omega (arith, length_line holds_text [])
line_fits (FailsAt k e) = fails_fits fails_at_text k e (omega arith)
line_fits (FailsAfter k e) = fails_fits fails_after_text k e (omega arith)
line_fits (Refused n) = omega (arith, length_line refused_text (decimal n), decimal_length n)

-- no byte is the line feed
abbrev Plain : List ℕ → Type 0
Plain [] = Unit {0}
Plain (b ∷ bs) = (b ≡ 10 → ⊥) × Plain bs

without : List ℕ → Bool
without [] = true
without (b ∷ bs) = not (eqb b 10) && without bs

plain : (l : List ℕ) → without l ≡ true → Plain l
unfolding without
plain [] h = tt
plain (b ∷ bs) h = (
  eqb-false b 10 (not_true (eqb b 10) (and_left (not (eqb b 10)) (without bs) h)),
  plain bs (and_right (not (eqb b 10)) (without bs) h),
)
  where
    not_true : (t : Bool) → not t ≡ true → t ≡ false
    not_true true e = sym e
    not_true false e = refl

plain_at : (l : List ℕ) → Plain l → (i : ℕ) → i < length l → get_or l i 0 ≡ 10 → ⊥
plain_at [] p i h e = omega arith
plain_at (b ∷ bs) p zero h e = p.0 e
plain_at (b ∷ bs) p (suc i) h e = plain_at bs p.1 i (omega arith) e

plain_more : (a b : List ℕ) → Plain a → Plain b → Plain (a ++ b)
plain_more [] b p q = q
plain_more (x ∷ xs) b p q = (p.0, plain_more xs b p.1 q)

plain_digit : (n : ℕ) → Plain (digit n ∷ [])
plain_digit n = (λ e. omega arith, tt)

plain_leading : (k n : ℕ) → Plain (leading k n)
unfolding leading
plain_leading zero n = tt
plain_leading (suc k) n = go (eqb n 0) (plain_leading k (n / 10))
  where
    go : (t : Bool) → Plain (leading k (n / 10)) → Plain (cond t [] (leading k (n / 10) ++ (digit n ∷ [])))
    go true h = tt
    go false h = plain_more (leading k (n / 10)) (digit n ∷ []) h (plain_digit n)

plain_decimal : (n : ℕ) → Plain (decimal n)
unfolding decimal
plain_decimal n = plain_more (leading 9 (n / 10)) (digit n ∷ []) (plain_leading 9 (n / 10)) (plain_digit n)

plain_end : (e : End) → Plain (end_text e)
unfolding end_text until_text until_before_text for_good_text without
plain_end (At k) = plain_more until_text (decimal k) (plain until_text refl) (plain_decimal k)
plain_end (Before k) = plain_more until_before_text (decimal k) (plain until_before_text refl) (plain_decimal k)
plain_end Never = plain for_good_text refl

-- bytes but for the line feed, then it
abbrev pub Ends : List ℕ → Type 0
Ends l = (text : List ℕ) × (l ≡ text ++ (10 ∷ [])) × ((i : ℕ) → i < length text → get_or text i 0 ≡ 10 → ⊥)

ends_so : (text more : List ℕ) → Plain text → Plain more → Ends (line text more)
unfolding line
ends_so text more p q = (text ++ more, refl, plain_at (text ++ more) (plain_more text more p q))

fails_ends : (text : List ℕ) (k : ℕ) (e : End) → Plain text → Ends (line text (decimal k ++ end_text e))
fails_ends text k e p = ends_so text (decimal k ++ end_text e) p (plain_more (decimal k) (end_text e) (plain_decimal k) (plain_end e))

pub line_ends : (v : Verdict) → Ends (line_of v)
unfolding line_of holds_text fails_at_text fails_after_text refused_text without
line_ends Holds = ends_so holds_text [] (plain holds_text refl) tt
line_ends (FailsAt k e) = fails_ends fails_at_text k e (plain fails_at_text refl)
line_ends (FailsAfter k e) = fails_ends fails_after_text k e (plain fails_after_text refl)
line_ends (Refused n) = ends_so refused_text (decimal n) (plain refused_text refl) (plain_decimal n)

pub longest_line : length (line_of (FailsAfter (M - 1) (Before M))) ≡ longest
unfolding line_of line fails_after_text end_text until_before_text decimal leading
longest_line = refl
