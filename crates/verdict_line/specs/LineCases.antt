-- Statement: Document 02, request 4: "fails at 5 until before 7", "until 7" and "fails at 5 for good", byte by byte, with the line feed.
use Rattle.std.specs.Prelude.{◌≡◌, [], ◌∷◌}
use Rattle.signals.specs.declared.End.TheVariants.{At, Before, Never}
use Rattle.signals.specs.declared.Verdict.TheVariants.{FailsAt}
use Rattle.verdict_line.specs.Line.{line_of}

pub record LineCases : Type 0 where
  pub until_before : line_of (FailsAt 5 (Before 7))
      ≡ 102 ∷ 97 ∷ 105 ∷ 108 ∷ 115 ∷ 32 ∷ 97 ∷ 116 ∷ 32 ∷ 53 ∷ 32 ∷ 117 ∷ 110 ∷ 116 ∷ 105 ∷ 108 ∷ 32 ∷ 98 ∷ 101 ∷ 102 ∷ 111 ∷ 114 ∷ 101
      ∷ 32 ∷ 55 ∷ 10 ∷ []
  pub until : line_of (FailsAt 5 (At 7))
      ≡ 102 ∷ 97 ∷ 105 ∷ 108 ∷ 115 ∷ 32 ∷ 97 ∷ 116 ∷ 32 ∷ 53 ∷ 32 ∷ 117 ∷ 110 ∷ 116 ∷ 105 ∷ 108 ∷ 32 ∷ 55 ∷ 10 ∷ []
  pub for_good : line_of (FailsAt 5 Never)
      ≡ 102 ∷ 97 ∷ 105 ∷ 108 ∷ 115 ∷ 32 ∷ 97 ∷ 116 ∷ 32 ∷ 53 ∷ 32 ∷ 102 ∷ 111 ∷ 114 ∷ 32 ∷ 103 ∷ 111 ∷ 111 ∷ 100 ∷ 10 ∷ []
