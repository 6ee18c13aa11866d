-- Statement: Document 02, request 1: which instants start a pulse, and where TP is up. The sentence of starts is true of one predicate and
-- of no other.
use Rattle.std.specs.Prelude.{ℕ, ◌+◌, ◌-◌, ◌≤◌, ◌<◌, ◌≡◌, ◌↔◌, false}
use Rattle.signals.specs.Moment.{gap, instant, tick}
use Rattle.signals.specs.Signal.{Signal, rising, TP}
use Rattle.signals.specs.Quantified.{Up, Down, Starts}

-- a rising instant of f: f is down in the gap before it and up at it
abbrev pub Rises : Signal → ℕ → Type 0
Rises f a = (1 ≤ a) × Down (f (gap (a - 1))) × Up (f (instant a))

-- "A rising instant a of f starts a pulse, up from a inclusive to a+d exclusive. Rising instants before a+d are ignored. One at a+d or
-- later starts a new pulse." So an instant starts a pulse exactly when it rises and every pulse that started before it has ended by then.
abbrev pub StartsPulses : ℕ → Signal → (ℕ → Type 0) → Type 0
StartsPulses d f P = (a : ℕ) → P a ↔ (Rises f a × ((b : ℕ) → b < a → P b → b + d ≤ a))

-- t lies in a pulse of length d that starts at an instant with P: up from a inclusive to a+d exclusive; the same by the tick of t
abbrev pub InPulse : ℕ → (ℕ → Type 0) → ℕ → Type 0
InPulse d P t = (a : ℕ) × P a × (instant a ≤ t) × (t < instant (a + d))

abbrev pub InTicks : ℕ → (ℕ → Type 0) → ℕ → Type 0
InTicks d P t = (a : ℕ) × P a × (a ≤ tick t) × (tick t < a + d)

-- The sentence of starts is true of `Starts` and of no other predicate; TP is up exactly in the pulses that it starts.
pub record Pulses : Type 1 where
  -- a rising instant is an instant at which ^f is up
  pub rises : (f : Signal) (a : ℕ) → Rises f a ↔ Up (rising f (instant a))
  pub starts : (d : ℕ) (f : Signal) → StartsPulses d f (Starts d f)
  pub only : (d : ℕ) (f : Signal) (P : ℕ → Type 0) → StartsPulses d f P → (a : ℕ) → P a ↔ Starts d f a
  pub up : (d : ℕ) (f : Signal) (P : ℕ → Type 0) → StartsPulses d f P → (t : ℕ) → Up (TP d f t) ↔ InPulse d P t
  pub ticks : (d : ℕ) (f : Signal) (P : ℕ → Type 0) → StartsPulses d f P → (t : ℕ) → Up (TP d f t) ↔ InTicks d P t
  -- "Rising instants before a+d are ignored."
  pub ignored : (d : ℕ) (f : Signal) (a e : ℕ) → Starts d f a → a < e → e < a + d → ¬ Starts d f e
  -- "One at a+d or later starts a new pulse": where no start lies between a and it
  pub again : (d : ℕ) (f : Signal) (a e : ℕ) → ((b : ℕ) → b < e → Starts d f b → b ≤ a) → a + d ≤ e → Rises f e → Starts d f e
  -- one at a+d exactly does; its pulse joins the old one, nothing changing at that date
  pub at_end : (d : ℕ) (f : Signal) (a : ℕ) → Starts d f a → Rises f (a + d) → Starts d f (a + d)
  pub joined : (d : ℕ) (f : Signal) (a : ℕ) → 1 ≤ d → Starts d f a → Rises f (a + d)
      → Up (TP d f (gap (a + d - 1))) × Up (TP d f (instant (a + d))) × Up (TP d f (gap (a + d)))
  -- "Being up from the start is no rise": as long as f is up from gap 0 on, nothing rises and TP is down
  pub up_from_start : (f : Signal) (a : ℕ) → ((t : ℕ) → t < instant a → Up (f t)) → ¬ Rises f a
  pub down_meanwhile : (d : ℕ) (f : Signal) (t : ℕ) → ((u : ℕ) → u ≤ t → Up (f u)) → TP d f t ≡ false
  -- "length 0 gives a signal that is always down"
  pub length_zero : (f : Signal) (t : ℕ) → TP 0 f t ≡ false
