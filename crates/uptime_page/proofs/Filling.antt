-- A page: the parts of the lines of words, pushed one after the other, and then the total's; and the line of a refusal.
use Prim.Native.Nat.{ℕ, ◌≤◌}
use native.Mathlib.Omega.{arith}
use mathlib.Core.Path.{◌≡◌, refl, sym, ap, ◌∙◌}
use mathlib.Core.List.{List, [], ◌∷◌, ◌++◌, append_assoc}
use lib.ListN.{length}
use Rattle.std.specs.List.{concat}
use Rattle.signals.specs.Words.{most_words}
use Rattle.texts.specs.Decimal.{decimal}
use Rattle.verdict_line.specs.Line.{line}
use Rattle.verdict_line.specs.Written.{longest, pushed}
use Rattle.verdict_line.specs.Putting.{pushed_all}
use Rattle.verdict_line.proofs.Filling.{pushed_fits}
use Rattle.verdict_line.proofs.Pushing.{all_fit}
use Rattle.uptime_page.specs.Page.{pair_line, total_text, total_line}
use Rattle.uptime_page.specs.Printing.{most_bytes}
use Rattle.uptime_page.specs.Words.{word_lines, word_parts, words_page}
use Rattle.uptime_page.proofs.Sizes.{lines_size, total_length}

words_joined : (words : List ℕ) → concat (word_parts words) ≡ word_lines words
unfolding word_lines pair_line line
words_joined [] = refl
words_joined (x ∷ []) = refl
words_joined (x ∷ y ∷ ws) = simp (words_joined ws, append_assoc)

-- the parts of the total's line
abbrev pub total_parts : ℕ → List (List ℕ)
total_parts total = total_text ∷ decimal total ∷ (10 ∷ []) ∷ []

total_joined : (total : ℕ) → concat (total_parts total) ≡ total_line total
unfolding total_line line
total_joined total = sym (append_assoc total_text (decimal total) (10 ∷ []))

pub page_pushed : (words : List ℕ) (total : ℕ) → length words ≤ most_words
    → pushed_all most_bytes (pushed_all most_bytes [] (word_parts words)) (total_parts total) ≡ words_page words total
unfolding words_page
page_pushed words total h =
    let w = words_joined words in
    let t = total_joined total in
    let few : length (word_lines words) ≤ 2816 = omega (arith, lines_size words, h) in
    ap (λ (l : List ℕ). pushed_all most_bytes l (total_parts total))
    (all_fit most_bytes [] (word_parts words) (omega (arith, few, ap length w)) ∙ w)
    ∙ all_fit most_bytes (word_lines words) (total_parts total) (omega (arith, few, ap length t, total_length total))
    ∙ ap (λ (l : List ℕ). word_lines words ++ l) t

-- a line that fits is the whole page
pub refusal_pushed : (line : List ℕ) → length line ≤ longest → pushed most_bytes [] line ≡ line
refusal_pushed line h = pushed_fits most_bytes [] line (omega (arith, h))
