-- Mirrored: The parts of a line, as the code pushes them one after the other to the end of a text. Tied to what is believed by
-- `LineOfVerdict`, the contract of `line_for`.
use Rattle.std.specs.Prelude.{ℕ, List, [], ◌∷◌}
use Rattle.texts.specs.Decimal.{decimal}
use Rattle.signals.specs.declared.End.{End}
use Rattle.signals.specs.declared.End.TheVariants.{At, Before, Never}
use Rattle.signals.specs.declared.Verdict.{Verdict}
use Rattle.signals.specs.declared.Verdict.TheVariants.{Holds, FailsAt, FailsAfter, Refused}
use Rattle.verdict_line.specs.Line.{holds_text, fails_at_text, fails_after_text, refused_text, until_text, until_before_text, for_good_text}
use Rattle.verdict_line.specs.Written.{pushed}

-- a text with parts added at its end, one after the other, each where there is room for all of it
abbrev pub pushed_all : ℕ → List ℕ → List (List ℕ) → List ℕ
pushed_all room text [] = text
pushed_all room text (part ∷ parts) = pushed_all room (pushed room text part) parts

-- the parts of how a failing run ends
abbrev pub end_parts : End → List (List ℕ)
end_parts (At k) = until_text ∷ decimal k ∷ []
end_parts (Before k) = until_before_text ∷ decimal k ∷ []
end_parts Never = for_good_text ∷ []

-- the parts of an answer's line, all but its line feed
abbrev pub answer_parts : Verdict → List (List ℕ)
answer_parts Holds = holds_text ∷ []
answer_parts (FailsAt k end) = fails_at_text ∷ decimal k ∷ end_parts end
answer_parts (FailsAfter k end) = fails_after_text ∷ decimal k ∷ end_parts end
answer_parts (Refused n) = refused_text ∷ decimal n ∷ []
