-- Statement: Document 01: "implication f to g, which answers holds, fails at k, or fails after k (gap k), always the earliest failing
-- moment". Document 02, request 4: "A failing verdict also gives the last moment of the first unbroken run of failing moments, or says that
-- it never ends."
use Rattle.std.specs.Prelude.{ℕ, suc, ◌+◌, ◌≤◌, ◌<◌, ◌≡◌, ◌⊎◌, ◌↔◌}
use Rattle.std.proofs.Math.Option.{Option, none, some}
use Rattle.signals.specs.Moment.{gap, instant}
use Rattle.signals.specs.Signal.{Signal}
use Rattle.signals.specs.Quantified.{Up, Down}
use Rattle.signals.specs.Settled.{SettledFrom}
use Rattle.signals.specs.Answers.{Span, end_of}
use Rattle.signals.specs.Implication.{verdict_of, fails_in}
use Rattle.signals.specs.declared.End.TheVariants.{At, Before, Never}
use Rattle.signals.specs.declared.Verdict.{Verdict}
use Rattle.signals.specs.declared.Verdict.TheVariants.{Holds, FailsAt, FailsAfter}

-- a moment refutes f to g: f is up and g is down
abbrev pub Refutes : Signal → Signal → ℕ → Type 0
Refutes f g t = Up (f t) × Down (g t)

-- t refutes f to g, and no earlier moment does
abbrev pub FirstRefutes : Signal → Signal → ℕ → Type 0
FirstRefutes f g t = Refutes f g t × ((u : ℕ) → u < t → Refutes f g u → ⊥)

-- every moment from t to the last refutes f to g, and the one after the last does not; with no last, every moment from t on
abbrev pub RefutesTo : Signal → Signal → ℕ → Option ℕ → Type 0
RefutesTo f g t (some last) =
    (t ≤ last) × ((u : ℕ) → t ≤ u → u ≤ last → Refutes f g u) × (Refutes f g (suc last) → ⊥)
RefutesTo f g t none = (u : ℕ) → t ≤ u → Refutes f g u

-- the first unbroken run of the moments that refute f to g
abbrev pub FirstRun : Signal → Signal → Span → Type 0
FirstRun f g s = FirstRefutes f g s.first × RefutesTo f g s.first s.last

-- the run begins in gap n or before it, and ends, if it does, before it
abbrev pub Early : ℕ → Span → Type 0
Early n s = (s.first ≤ gap n) × ((last : ℕ) → s.last ≡ some last → last < gap n)

-- What a verdict on f to g says.
pub record JudgedAs (f g : Signal) (v : Verdict) : Type 0 where
  -- it holds exactly when no instant and no gap refutes it
  pub holds : v ≡ Holds ↔ ((t : ℕ) → Refutes f g t → ⊥)
  -- it fails exactly from the earliest moment that refutes it to the last of the unbroken run that begins there, or for good
  pub fails : (s : Span) → v ≡ fails_in s ↔ FirstRun f g s
  -- and it does one of the two
  pub either : (v ≡ Holds) ⊎ ((s : Span) × (v ≡ fails_in s))

-- The verdict of two signals that are constant from gap n on.
pub record Judged (f g : Signal) (n : ℕ) : Type 0 where
  pub said : JudgedAs f g (verdict_of f g n)
  -- whatever settling date is taken
  pub steady : (m : ℕ) → n ≤ m → verdict_of f g m ≡ verdict_of f g n
  -- and it names no moment after gap n
  pub early : (s : Span) → verdict_of f g n ≡ fails_in s → Early n s

pub record Earliest : Type 0 where
  pub judged : (f g : Signal) (n : ℕ) → SettledFrom f n → SettledFrom g n → Judged f g n
  -- how a failing moment is told, and the last of a run
  pub at_instant : (k : ℕ) (last : Option ℕ) → 1 ≤ k → fails_in (record { first = instant k; last = last }) ≡ FailsAt k (end_of last)
  pub in_gap : (k : ℕ) (last : Option ℕ) → fails_in (record { first = gap k; last = last }) ≡ FailsAfter k (end_of last)
  pub until_instant : (k : ℕ) → 1 ≤ k → end_of (some (instant k)) ≡ At k
  pub until_before : (k : ℕ) → end_of (some (gap k)) ≡ Before (k + 1)
  pub for_good : end_of none ≡ Never
