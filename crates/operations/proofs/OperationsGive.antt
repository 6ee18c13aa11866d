-- A call of an operation without a fault gives the one normal list of the operation's signal.
use Prim.Native.Nat.{ℕ, ◌+◌, ◌≤◌, max}
use native.Mathlib.Omega.{arith}
use native.Mathlib.Decide.{dec_le}
use mathlib.Core.Path.{◌≡◌}
use mathlib.Core.List.{List}
use lib.ListN.{length, get_or}
use Rattle.signals.specs.Moment.{M}
use Rattle.signals.specs.Signal.{Signal, NOT, connective, rising, falling, SR, RS, TON, TOF, TP}
use Rattle.signals.specs.Words.{date_of, signal_of, last_date, list_of}
use Rattle.signals.specs.Settled.{SettledFrom}
use Rattle.signals.specs.Answers.{fault_in, written_of, output_of}
use Rattle.signals.specs.declared.Written.{Written}
use Rattle.signals.proofs.Normal.{accepted_normal, list_of_signal, accepted_settled}
use Rattle.signals.proofs.Settling.{settling}
use Rattle.signals.specs.Giving.{WithinM, Gives}
use Rattle.signals.proofs.Giving.{no_fault, gives}
use Rattle.operations.specs.Calls.{exact_of_one, exact_of_two, exact_of_delay, fault_of_one, fault_of_two, fault_of_delay}
use Rattle.operations.specs.CallFaults.{Breaks6}
use Rattle.operations.specs.OperationsGive.{OneGives, TwoGive, DelayGives, OperationsGive}
use Rattle.operations.proofs.CallFaults.{Passed, one_passed, two_passed, delay_passed}

in_time : (exact : List ℕ) → (¬ Breaks6 exact) → WithinM exact
in_time exact none i l = go (dec_le (date_of (get_or exact i 0)) M)
  where
    go : Dec (date_of (get_or exact i 0) ≤ M) → date_of (get_or exact i 0) ≤ M
    go (yes h) = h
    go (no n) = absurd (none (i, l, omega arith))

-- the exact answer is the list of a signal that settles once the operands are sound
module _ (s : Signal) (n fault : ℕ) (Sound : Type 0) (out : List ℕ)
    (passes : fault ≡ 0 → Sound × Passed (list_of s n) (length out))
    (settled : Sound → SettledFrom s n)
  where
    listed : (answer : Written) (after : List ℕ) → (answer ≡ written_of fault (list_of s n)) × (after ≡ output_of fault (list_of s n) out)
        → fault_in answer ≡ 0 → Gives s out answer after
    listed answer after call z =
        let none = no_fault fault (list_of s n) out answer after call z in
        let passed = passes none in
        let list = list_of_signal s n (settled passed.0) in
        gives
        fault
        (list_of s n)
        out
        answer
        after
        call
        s
        none
        (omega (arith, passed.1.fits))
        ((accepted_normal (list_of s n)).1 (list.normal, omega (arith, passed.1.few)))
        (in_time (list_of s n) passed.1.early)
        list.denotes

one_gives : (operation : Signal → Signal) → ((f : Signal) (n : ℕ) → SettledFrom f n → SettledFrom (operation f) n) → OneGives operation
unfolding exact_of_one
one_gives operation settles a out answer after call z =
    listed
    (operation (signal_of a))
    (last_date a)
    (fault_of_one operation a (length out))
    _
    out
    (one_passed operation a (length out))
    (λ s. settles (signal_of a) (last_date a) (accepted_settled a s))
    answer
    after
    call
    z

two_give : (operation : Signal → Signal → Signal)
    → ((f g : Signal) (n m : ℕ) → SettledFrom f n → SettledFrom g m → SettledFrom (operation f g) (max n m)) → TwoGive operation
unfolding exact_of_two
two_give operation settles a b out answer after call z =
    listed
    (operation (signal_of a) (signal_of b))
    (max (last_date a) (last_date b))
    (fault_of_two operation a b (length out))
    _
    out
    (two_passed operation a b (length out))
    (λ s. settles (signal_of a) (signal_of b) (last_date a) (last_date b) (accepted_settled a s.0) (accepted_settled b s.1))
    answer
    after
    call
    z

delay_gives : (operation : ℕ → Signal → Signal)
    → ((d : ℕ) (f : Signal) (n : ℕ) → SettledFrom f n → SettledFrom (operation d f) (n + d)) → DelayGives operation
unfolding exact_of_delay
delay_gives operation settles d a out answer after call z =
    listed
    (operation d (signal_of a))
    (last_date a + d)
    (fault_of_delay (operation d) d a (length out))
    _
    out
    (delay_passed (operation d) d a (length out))
    (λ s. settles d (signal_of a) (last_date a) (accepted_settled a s.0))
    answer
    after
    call
    z

pub operations_give : OperationsGive
operations_give =
    record {
      not = one_gives NOT settling.not;
      connectives = λ table. two_give (connective table) (settling.tables table);
      rises = one_gives rising settling.rises;
      falls = one_gives falling settling.falls;
      sr = two_give SR settling.sr;
      rs = two_give RS settling.rs;
      ton = delay_gives TON settling.ton;
      tof = delay_gives TOF settling.tof;
      tp = delay_gives TP settling.tp;
    }
