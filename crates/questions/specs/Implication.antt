-- Statement: Implication of two accepted lists holds exactly when no moment refutes it, and otherwise names the earliest moment that does
-- and how the unbroken run of such moments that begins there ends.
use Rattle.std.specs.Prelude.{ℕ, ◌≤◌, List, ◌≡◌, ◌↔◌}
use Rattle.std.proofs.Math.Option.{Option}
use Rattle.signals.specs.Moment.{gap, instant}
use Rattle.signals.specs.Words.{signal_of}
use Rattle.signals.specs.Normal.{Accepted}
use Rattle.signals.specs.Answers.{end_of}
use Rattle.signals.specs.Earliest.{FirstRun, JudgedAs}
use Rattle.signals.specs.declared.Verdict.TheVariants.{FailsAt, FailsAfter}
use Rattle.questions.specs.Questions.{implies_of}

pub record Claimed (a b : List ℕ) : Type 0 where
  -- as an implication of the signals, and so with the instant or the gap that fails first, and how the run ends
  pub said : JudgedAs (signal_of a) (signal_of b) (implies_of a b)
  pub fails_at : (k : ℕ) (last : Option ℕ) → 1 ≤ k
      → implies_of a b ≡ FailsAt k (end_of last) ↔ FirstRun (signal_of a) (signal_of b) (record { first = instant k; last = last })
  pub fails_after : (k : ℕ) (last : Option ℕ)
      → implies_of a b ≡ FailsAfter k (end_of last) ↔ FirstRun (signal_of a) (signal_of b) (record { first = gap k; last = last })

abbrev pub Implication : Type 0
Implication = (a b : List ℕ) → Accepted a → Accepted b → Claimed a b
