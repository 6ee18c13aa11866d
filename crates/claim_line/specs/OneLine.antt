-- Statement: Document 01: "It prints one line: holds, fails at k, fails after k, or refused n." With document 02's request 4, a failing
-- line says also how the run of failing moments ends. How long a line can be, where it ends, which n can come.
use Rattle.std.specs.Prelude.{ℕ, ◌-◌, ◌^◌, ◌≤◌, ◌<◌, ◌≡◌, List, [], ◌∷◌, ◌++◌, length, get_or}
use Rattle.signals.specs.Moment.{M}
use Rattle.signals.specs.declared.End.TheVariants.{Before}
use Rattle.signals.specs.declared.Verdict.{Verdict}
use Rattle.signals.specs.declared.Verdict.TheVariants.{FailsAfter, Refused}
use Rattle.verdict_line.specs.Line.{line_of, NumbersBelow}
use Rattle.verdict_line.specs.Written.{longest}
use Rattle.claim_line.specs.Printing.{claim_of, printed}

pub record OneLine : Type 0 where
  -- no line is longer, and a verdict's is as long
  pub fits : (input : List ℕ) → length (printed input) ≤ longest
  pub reached : length (line_of (FailsAfter (M - 1) (Before M))) ≡ longest
  -- its last byte is the line feed, which is 10, and no other is
  pub ends : (input : List ℕ)
      → (text : List ℕ) × (printed input ≡ text ++ (10 ∷ [])) × ((i : ℕ) → i < length text → get_or text i 0 ≡ 10 → ⊥)
  -- a claim has no 7, and the work words suffice
  pub no7 : (input : List ℕ) → claim_of input ≡ Refused 7 → ⊥
  pub no18 : (input : List ℕ) → claim_of input ≡ Refused 18 → ⊥
  -- a refusal is 5, 6, 8 or one of 10 to 17
  pub refusals : (input : List ℕ) (n : ℕ) → claim_of input ≡ Refused n → (5 ≤ n) × (n ≤ 17) × (n ≡ 7 → ⊥) × (n ≡ 9 → ⊥)
  -- the line tells the answer: two with numbers of 32 bits and the same line are the same
  pub tells : (v w : Verdict) → NumbersBelow (2 ^ 32) v → NumbersBelow (2 ^ 32) w → line_of v ≡ line_of w → v ≡ w
