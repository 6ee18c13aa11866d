-- Statement: Document 01, "Checked by hand": F is a, G is TON(2,a), on the printed sheet; the claim that is printed as "fails at 5", with
-- document 02's request 4 "fails at 5 until before 7".
use Rattle.std.specs.Prelude.{ℕ, ◌≡◌, List, [], ◌∷◌}
use Rattle.signals.specs.declared.Written.TheVariants.{Count}
use Rattle.signals.specs.declared.End.TheVariants.{Before}
use Rattle.signals.specs.declared.Verdict.TheVariants.{FailsAt}
use Rattle.calls.specs.Calls.{call_answer, call_output, claim_answer, work_words}

-- SGL 1 0 1 0, then a and seven zeros, 3 0, 0 0 0 0, 23 0 0 0, 36 0 0 0
abbrev pub printed_sheet : List ℕ
printed_sheet =
    83 ∷ 71 ∷ 76 ∷ 1 ∷ 0 ∷ 1 ∷ 0
    ∷ 97 ∷ 0 ∷ 0 ∷ 0 ∷ 0 ∷ 0 ∷ 0 ∷ 0
    ∷ 3 ∷ 0
    ∷ 0 ∷ 0 ∷ 0 ∷ 0
    ∷ 23 ∷ 0 ∷ 0 ∷ 0
    ∷ 36 ∷ 0 ∷ 0 ∷ 0
    ∷ []

-- a; TON(2,a)
abbrev pub printed_f : List ℕ
printed_f = 97 ∷ []

abbrev pub printed_g : List ℕ
printed_g = 84 ∷ 79 ∷ 78 ∷ 40 ∷ 50 ∷ 44 ∷ 97 ∷ 41 ∷ []

pub record Printed : Type 0 where
  pub fails : claim_answer printed_sheet printed_f printed_g work_words ≡ FailsAt 5 (Before 7)
  -- the words of both, and the old word past the count
  pub count_f : call_answer printed_sheet printed_f work_words (7 ∷ 7 ∷ 7 ∷ 7 ∷ []) ≡ Count 3
  pub words_f : call_output printed_sheet printed_f work_words (7 ∷ 7 ∷ 7 ∷ 7 ∷ []) ≡ 0 ∷ 23 ∷ 36 ∷ 7 ∷ []
  pub count_g : call_answer printed_sheet printed_g work_words (7 ∷ 7 ∷ 7 ∷ 7 ∷ []) ≡ Count 3
  pub words_g : call_output printed_sheet printed_g work_words (7 ∷ 7 ∷ 7 ∷ 7 ∷ []) ≡ 0 ∷ 31 ∷ 36 ∷ 7 ∷ []
