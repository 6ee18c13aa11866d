-- The parts of a line pushed one after the other: they fit, and the line is they with its line feed.
use Prim.Native.Nat.{ℕ, ◌+◌, ◌≤◌}
use native.Mathlib.Omega.{arith}
use mathlib.Core.Path.{◌≡◌, refl, sym, ap, ◌∙◌}
use mathlib.Core.List.{List, [], ◌∷◌, ◌++◌, append_assoc, append-nil}
use lib.ListN.{length, length-append}
use Rattle.std.specs.List.{concat}
use Rattle.signals.specs.declared.End.{End}
use Rattle.signals.specs.declared.End.TheVariants.{At, Before, Never}
use Rattle.signals.specs.declared.Verdict.{Verdict}
use Rattle.signals.specs.declared.Verdict.TheVariants.{Holds, FailsAt, FailsAfter, Refused}
use Rattle.texts.specs.Decimal.{decimal}
use Rattle.verdict_line.specs.Line.{until_text, until_before_text, for_good_text, end_text, line, line_of}
use Rattle.verdict_line.specs.Written.{longest, pushed}
use Rattle.verdict_line.specs.Putting.{pushed_all, end_parts, answer_parts}
use Rattle.verdict_line.proofs.Filling.{pushed_fits}
use Rattle.verdict_line.proofs.Lines.{line_fits}

-- parts for which there is room
pub all_fit : (room : ℕ) (text : List ℕ) (parts : List (List ℕ)) → length text + length (concat parts) ≤ room
    → pushed_all room text parts ≡ text ++ concat parts
all_fit room text [] h = sym (append-nil text)
all_fit room text (part ∷ parts) h =
    let s = length-append part (concat parts) in
    let n = length-append text part in
    ap (λ (l : List ℕ). pushed_all room l parts) (pushed_fits room text part (omega arith))
    ∙ all_fit room (text ++ part) parts (omega arith)
    ∙ append_assoc text part (concat parts)

end_joined : (e : End) → concat (end_parts e) ≡ end_text e
unfolding end_text
end_joined (At k) = ap (λ (l : List ℕ). until_text ++ l) (append-nil (decimal k))
end_joined (Before k) = ap (λ (l : List ℕ). until_before_text ++ l) (append-nil (decimal k))
end_joined Never = append-nil for_good_text

answer_joined : (v : Verdict) → line_of v ≡ concat (answer_parts v) ++ (10 ∷ [])
unfolding line_of line
answer_joined Holds = refl
answer_joined (FailsAt k e) = rw (end_joined e)
answer_joined (FailsAfter k e) = rw (end_joined e)
answer_joined (Refused n) = rw (append-nil (decimal n))

-- the line feed pushed after the parts of an answer's line
pub answer_pushed : (v : Verdict) → pushed longest (pushed_all longest [] (answer_parts v)) (10 ∷ []) ≡ line_of v
answer_pushed v =
    let e = answer_joined v in
    let s = length-append (concat (answer_parts v)) (10 ∷ []) in
    let fits : length (concat (answer_parts v)) + 1 ≤ longest = omega (arith, line_fits v, ap length e) in
    ap (λ (l : List ℕ). pushed longest l (10 ∷ [])) (all_fit longest [] (answer_parts v) (omega arith))
    ∙ pushed_fits longest (concat (answer_parts v)) (10 ∷ []) fits
    ∙ sym e
