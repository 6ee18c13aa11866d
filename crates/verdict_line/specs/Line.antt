-- Believed: Document 01: "It prints one line: holds, fails at k, fails after k, or refused n." Document 02, request 4: "The program's line
-- becomes, for example, "fails at 5 until before 7", with "until 7" when instant 7 is the last to fail and "fails at 5 for good" when it
-- never ends." The line as bytes, with its line feed.
use Rattle.std.specs.Prelude.{ℕ, ◌<◌, List, [], ◌∷◌, ◌++◌}
use Rattle.texts.specs.Decimal.{decimal}
use Rattle.signals.specs.declared.End.{End}
use Rattle.signals.specs.declared.End.TheVariants.{At, Before, Never}
use Rattle.signals.specs.declared.Verdict.{Verdict}
use Rattle.signals.specs.declared.Verdict.TheVariants.{Holds, FailsAt, FailsAfter, Refused}

-- "holds", "fails at ", "fails after ", "refused "
unfoldable pub holds_text : List ℕ
holds_text = 104 ∷ 111 ∷ 108 ∷ 100 ∷ 115 ∷ []

unfoldable pub fails_at_text : List ℕ
fails_at_text = 102 ∷ 97 ∷ 105 ∷ 108 ∷ 115 ∷ 32 ∷ 97 ∷ 116 ∷ 32 ∷ []

unfoldable pub fails_after_text : List ℕ
fails_after_text = 102 ∷ 97 ∷ 105 ∷ 108 ∷ 115 ∷ 32 ∷ 97 ∷ 102 ∷ 116 ∷ 101 ∷ 114 ∷ 32 ∷ []

unfoldable pub refused_text : List ℕ
refused_text = 114 ∷ 101 ∷ 102 ∷ 117 ∷ 115 ∷ 101 ∷ 100 ∷ 32 ∷ []

-- " until ", " until before ", " for good"
unfoldable pub until_text : List ℕ
until_text = 32 ∷ 117 ∷ 110 ∷ 116 ∷ 105 ∷ 108 ∷ 32 ∷ []

unfoldable pub until_before_text : List ℕ
until_before_text = 32 ∷ 117 ∷ 110 ∷ 116 ∷ 105 ∷ 108 ∷ 32 ∷ 98 ∷ 101 ∷ 102 ∷ 111 ∷ 114 ∷ 101 ∷ 32 ∷ []

unfoldable pub for_good_text : List ℕ
for_good_text = 32 ∷ 102 ∷ 111 ∷ 114 ∷ 32 ∷ 103 ∷ 111 ∷ 111 ∷ 100 ∷ []

-- how the failing run ends: until k, the instant k being its last, until before k, the gap before it being the last, or for good
unfoldable pub end_text : End → List ℕ
end_text (At k) = until_text ++ decimal k
end_text (Before k) = until_before_text ++ decimal k
end_text Never = for_good_text

-- a text, what follows it and the line feed, which is 10
unfoldable pub line : List ℕ → List ℕ → List ℕ
line text more = text ++ more ++ (10 ∷ [])

-- the line of a claim's answer
unfoldable pub line_of : Verdict → List ℕ
line_of Holds = line holds_text []
line_of (FailsAt k end) = line fails_at_text (decimal k ++ end_text end)
line_of (FailsAfter k end) = line fails_after_text (decimal k ++ end_text end)
line_of (Refused n) = line refused_text (decimal n)

-- the numbers of an answer, as far as it has any, are below a bound
abbrev pub EndBelow : ℕ → End → Type 0
EndBelow bound (At k) = k < bound
EndBelow bound (Before k) = k < bound
EndBelow bound Never = Unit

abbrev pub NumbersBelow : ℕ → Verdict → Type 0
NumbersBelow bound Holds = Unit
NumbersBelow bound (FailsAt k end) = (k < bound) × EndBelow bound end
NumbersBelow bound (FailsAfter k end) = (k < bound) × EndBelow bound end
NumbersBelow bound (Refused n) = n < bound
