-- Statement: Tidying without a fault gives the one normal list of the signal that the list denotes.
use Rattle.std.specs.Prelude.{ℕ, ◌≡◌, List}
use Rattle.signals.specs.Words.{signal_of}
use Rattle.signals.specs.Answers.{fault_in}
use Rattle.signals.specs.Giving.{WithinM, Gives}
use Rattle.signals.specs.declared.Written.{Written}
use Rattle.tidying.specs.Calls.{CallOfTidying}

abbrev pub TidyingGives : Type 0
TidyingGives = (l out : List ℕ) (answer : Written) (after : List ℕ) → WithinM l → CallOfTidying l out answer after → fault_in answer ≡ 0
    → Gives (signal_of l) out answer after
