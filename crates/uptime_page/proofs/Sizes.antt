-- How long the lines are.
use Prim.Native.Nat.{ℕ, ◌*◌, ◌≤◌}
use native.Mathlib.Omega.{arith}
use mathlib.Core.List.{List, [], ◌∷◌, ◌++◌}
use lib.ListN.{length, length-append}
use Rattle.texts.specs.Decimal.{decimal}
use Rattle.texts.proofs.Digits.{decimal_length}
use Rattle.verdict_line.proofs.Lines.{length_line}
use Rattle.uptime_page.specs.Page.{pair_line, total_text, total_line}
use Rattle.uptime_page.specs.Words.{word_lines}

byte_length : (n b : ℕ) → length (decimal n ++ (b ∷ [])) ≤ 11
byte_length n b = rw (length-append (decimal n) (b ∷ [])) (omega (arith, decimal_length n))

pair_length : (first ticks : ℕ) → length (pair_line first ticks) ≤ 22
unfolding pair_line
pair_length first ticks =
    omega (arith, length_line (decimal first ++ (32 ∷ [])) (decimal ticks), byte_length first 32, decimal_length ticks)

pub total_length : (total : ℕ) → length (total_line total) ≤ 17
unfolding total_line total_text
total_length total = omega (arith, length_line total_text (decimal total), decimal_length total)

pub lines_size : (words : List ℕ) → length (word_lines words) ≤ 11 * length words
unfolding word_lines
lines_size [] = omega arith
lines_size (x ∷ []) = omega arith
lines_size (x ∷ y ∷ ws) = omega (arith, length-append (pair_line x y) (word_lines ws), pair_length x y, lines_size ws)
