-- Believed: Document 01's questions about lists as calls: the faults in order, the values by the signals at moments.
use Rattle.std.specs.Prelude.{ℕ, max, cond, ◌||◌, List, ltb, eqb}
use Rattle.std.specs.Bool.{beq}
use Rattle.signals.specs.Moment.{M, gap, instant}
use Rattle.signals.specs.Signal.{Signal, every}
use Rattle.signals.specs.Words.{list_fault, pair_fault, signal_of, last_date}
use Rattle.signals.specs.Implication.{first_span}
use Rattle.signals.specs.declared.Told.{Told}
use Rattle.signals.specs.declared.Verdict.{Verdict}
use Rattle.signals.specs.Answers.{first_of, told_of, verdict_for}

-- 9: instant 0, or a date above M
unfoldable pub instant_fault : ℕ → ℕ
instant_fault k = cond (eqb k 0 || ltb M k) 9 0

unfoldable pub gap_fault : ℕ → ℕ
gap_fault k = cond (ltb M k) 9 0

-- the value at the instant k, and in the gap k: list, 9
unfoldable pub value_at_of : List ℕ → ℕ → Told
value_at_of l k = told_of (first_of (list_fault l) (instant_fault k)) (signal_of l (instant k))

unfoldable pub value_in_of : List ℕ → ℕ → Told
value_in_of l k = told_of (first_of (list_fault l) (gap_fault k)) (signal_of l (gap k))

-- the date from which two lists' signals are constant
unfoldable pub later_last : List ℕ → List ℕ → ℕ
later_last a b = max (last_date a) (last_date b)

-- equality: list, list; yes when the two signals have one value at every moment up to the later last date
unfoldable pub agreeing : Signal → Signal → Signal
agreeing f g t = beq (f t) (g t)

unfoldable pub equal_of : List ℕ → List ℕ → Told
equal_of a b = told_of (pair_fault a b) (every (agreeing (signal_of a) (signal_of b)) (gap (later_last a b)))

-- implication a to b: list, list
unfoldable pub implies_of : List ℕ → List ℕ → Verdict
implies_of a b = verdict_for (pair_fault a b) (first_span (signal_of a) (signal_of b) (later_last a b))
