-- Statement: Faults 5 to 8 of a call are given exactly when their sentence of document 01's table holds and no earlier one does.
use Rattle.std.specs.Prelude.{ℕ, ◌-◌, ◌≤◌, ◌<◌, ◌^◌, List, ◌⊎◌, ◌↔◌, ◌≡◌, length, get_or}
use Rattle.signals.specs.Moment.{M, gap, instant}
use Rattle.signals.specs.Signal.{Signal, NOT, rising, falling, TON, TOF, TP}
use Rattle.signals.specs.Words.{date_of, most_words, list_fault, signal_of, list_of}
use Rattle.signals.specs.Checks.{Check, FaultCheck, NoFault, Exactly}
use Rattle.signals.specs.Settled.{SettledFrom}
use Rattle.signals.specs.Normal.{Accepted}
use Rattle.operations.specs.Calls.{exact_of_one, exact_of_two, exact_of_delay, fault_of_one, fault_of_two, fault_of_delay}

-- 5: exact answer over 256 words, those past M counted
abbrev pub Breaks5 : List ℕ → Type 0
Breaks5 exact = most_words < length exact

-- 6: exact answer changes after M: some word of it is dated after M
abbrev pub Breaks6 : List ℕ → Type 0
Breaks6 exact = (i : ℕ) × (i < length exact) × (M < date_of (get_or exact i 0))

-- 7: output, of n words, shorter than the answer
abbrev pub Breaks7 : List ℕ → ℕ → Type 0
Breaks7 exact n = n < length exact

-- 8: length above M
abbrev pub Breaks8 : ℕ → Type 0
Breaks8 d = M < d

-- 5, 6, 7 of the exact answer
abbrev pub AnswerChecks : List ℕ → ℕ → ℕ → Type 0
AnswerChecks exact n = Check 5 (Breaks5 exact) (Check 6 (Breaks6 exact) (Check 7 (Breaks7 exact n) NoFault))

-- 1 to 4 of the operands, first operand first; a timer's length; then the answer
pub record CallFaultsExact : Type 0 where
  pub one : (operation : Signal → Signal) (a : List ℕ) (n : ℕ)
      → Exactly (FaultCheck (list_fault a) (AnswerChecks (exact_of_one operation a) n)) (fault_of_one operation a n)
  pub two : (operation : Signal → Signal → Signal) (a b : List ℕ) (n : ℕ)
      → Exactly (FaultCheck (list_fault a) (FaultCheck (list_fault b) (AnswerChecks (exact_of_two operation a b) n)))
      (fault_of_two operation a b n)
  pub delay : (operation : Signal → Signal) (d : ℕ) (a : List ℕ) (n : ℕ)
      → Exactly (FaultCheck (list_fault a) (Check 8 (Breaks8 d) (AnswerChecks (exact_of_delay operation d a) n)))
      (fault_of_delay operation d a n)

-- at some instant k after M, or in the gap k after it, the signal is not as in the gap before instant k
abbrev pub ChangesAfterM : Signal → Type 0
ChangesAfterM s =
    (k : ℕ) × (M < k) × ((¬ (s (instant k) ≡ s (gap (k - 1)))) ⊎ (¬ (s (gap k) ≡ s (gap (k - 1)))))

-- 6 said of the signal: its exact answer has a word dated after M exactly when the signal changes after M
pub record ChangeIsWord : Type 0 where
  pub signal : (s : Signal) (n : ℕ) → SettledFrom s n → Breaks6 (list_of s n) ↔ ChangesAfterM s
  pub ton : (d : ℕ) (a : List ℕ) → Accepted a → Breaks6 (exact_of_delay (TON d) d a) ↔ ChangesAfterM (TON d (signal_of a))
  pub tof : (d : ℕ) (a : List ℕ) → Accepted a → Breaks6 (exact_of_delay (TOF d) d a) ↔ ChangesAfterM (TOF d (signal_of a))
  pub tp : (d : ℕ) (a : List ℕ) → Accepted a → Breaks6 (exact_of_delay (TP d) d a) ↔ ChangesAfterM (TP d (signal_of a))

-- the words of the list are 32-bit words
abbrev pub Words32 : List ℕ → Type 0
Words32 l = (i : ℕ) → i < length l → get_or l i 0 < 2 ^ 32

-- the operation never makes an accepted list longer
abbrev pub NeverLonger : (Signal → Signal) → Type 0
NeverLonger operation = (a : List ℕ) → Accepted a → length (exact_of_one operation a) ≤ length a

-- NOT and edges never meet 5 or 6; connectives and latches, like every operation without a length, never meet 6.
pub record NeverMet : Type 0 where
  pub not_longer : NeverLonger NOT
  pub rising_longer : NeverLonger rising
  pub falling_longer : NeverLonger falling
  pub five : (operation : Signal → Signal) → NeverLonger operation → (a : List ℕ) (n : ℕ) → ¬ (fault_of_one operation a n ≡ 5)
  pub six_one : (operation : Signal → Signal) (a : List ℕ) (n : ℕ) → Words32 a → ¬ (fault_of_one operation a n ≡ 6)
  pub six_two : (operation : Signal → Signal → Signal) (a b : List ℕ) (n : ℕ) → Words32 a → Words32 b → ¬ (fault_of_two operation a b n ≡ 6)
