-- Statement: Equality of two accepted lists answers yes exactly when the two signals agree at every moment, which is when the words are
-- the same.
use Rattle.std.specs.Prelude.{ℕ, List, ◌≡◌, ◌⊎◌, ◌↔◌}
use Rattle.signals.specs.Words.{signal_of}
use Rattle.signals.specs.Normal.{Accepted}
use Rattle.signals.specs.Settled.{Same}
use Rattle.signals.specs.declared.Told.TheVariants.{Yes, No}
use Rattle.questions.specs.Questions.{equal_of}

pub record Compared (a b : List ℕ) : Type 0 where
  pub yes : equal_of a b ≡ Yes ↔ Same (signal_of a) (signal_of b)
  pub no : equal_of a b ≡ No ↔ (Same (signal_of a) (signal_of b) → ⊥)
  pub either : (equal_of a b ≡ Yes) ⊎ (equal_of a b ≡ No)
  pub words : equal_of a b ≡ Yes ↔ (a ≡ b)

abbrev pub Equality : Type 0
Equality = (a b : List ℕ) → Accepted a → Accepted b → Compared a b
