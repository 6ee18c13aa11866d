-- Statement: A named theorem for each operation on lists: a call without a fault gives the accepted normal list of the operation's signal,
-- word by word.
use Rattle.std.specs.Prelude.{ℕ, List, ◌≡◌}
use Rattle.signals.specs.Signal.{Signal, Table, NOT, connective, rising, falling, SR, RS, TON, TOF, TP}
use Rattle.signals.specs.Words.{signal_of}
use Rattle.signals.specs.Answers.{fault_in}
use Rattle.signals.specs.declared.Written.{Written}
use Rattle.signals.specs.Giving.{Gives}
use Rattle.operations.specs.Calls.{CallOfOne, CallOfTwo, CallOfDelay}

-- of one operand, of two, of a length and one
abbrev pub OneGives : (Signal → Signal) → Type 0
OneGives operation = (a out : List ℕ) (answer : Written) (after : List ℕ) → CallOfOne operation a out answer after
    → fault_in answer ≡ 0 → Gives (operation (signal_of a)) out answer after

abbrev pub TwoGive : (Signal → Signal → Signal) → Type 0
TwoGive operation = (a b out : List ℕ) (answer : Written) (after : List ℕ) → CallOfTwo operation a b out answer after
    → fault_in answer ≡ 0 → Gives (operation (signal_of a) (signal_of b)) out answer after

abbrev pub DelayGives : (ℕ → Signal → Signal) → Type 0
DelayGives operation = (d : ℕ) (a out : List ℕ) (answer : Written) (after : List ℕ) → CallOfDelay (operation d) d a out answer after
    → fault_in answer ≡ 0 → Gives (operation d (signal_of a)) out answer after

pub record OperationsGive : Type 0 where
  pub not : OneGives NOT
  pub connectives : (table : Table) → TwoGive (connective table)
  pub rises : OneGives rising
  pub falls : OneGives falling
  pub sr : TwoGive SR
  pub rs : TwoGive RS
  pub ton : DelayGives TON
  pub tof : DelayGives TOF
  pub tp : DelayGives TP
