-- TP of a list of n words has at most 2n - 1: the words so far, and one more while a pulse runs, grow by at most two with a word.
use Prim.Native.Nat.{ℕ, ◌+◌, ◌*◌, ◌-◌, ◌≤◌}
use native.Mathlib.Omega.{arith}
use mathlib.Core.Path.{◌≡◌, refl}
use mathlib.Core.Bool.{Bool, true, false, cond, beq, ◌&&◌}
use mathlib.Core.List.{List, [], ◌∷◌}
use lib.Dec.{ltb}
use lib.ListN.{length}
use Rattle.signals.specs.Signal.{num}
use Rattle.signals.specs.Words.{date_of, value_at}
use Rattle.signals.specs.Answers.{sum_of}
use Rattle.signals.specs.Normal.{Normal}
use Rattle.signals.proofs.Normal.{accepted_normal}
use Rattle.timing.specs.Delay.{date_in}
use Rattle.building.specs.Building.{idle, one_more, late_with, emitted, begun}
use Rattle.building.specs.declared.Made.{Made}
use Rattle.lent_slots.specs.Lent.{Ended, through}
use Rattle.pulsing.specs.Turns.{Pulse, State, put_from, closed, started_at, starts_at, past_date, past_word, first_state, pulse_engine}
use Rattle.pulsing.specs.FewWords.{PulsesFew}
use Rattle.pulsing.proofs.PulsedExact.{pulsed_exact}

-- the words, and the one that ends a pulse that is running
abbrev size : Ended → ℕ
size e = e.made.count + num e.made.value

module _ (e : Ended) (date : ℕ) where
  abbrev made : Made
  made = e.made

  put : (value : Bool) → size (put_from e date value) ≤ size e + 2 * num value
  unfolding emitted idle
  put value = go made.value value refl
    where
      more : Bool → Made
      more b = record { value = b; count = one_more made.count; late = late_with made.late date }

      go : (v b : Bool) → made.value ≡ v
          → (cond (beq b v && beq b v) made (more b)).count + num (cond (beq b v && beq b v) made (more b)).value
          ≤ made.count + num made.value + 2 * num b
      go true true q = omega arith
      go true false q = rw q (omega arith)
      go false true q = rw q (omega arith)
      go false false q = omega arith

close : (due next : ℕ) (e : Ended) → size (closed due next e) ≤ size e
unfolding closed
close due next e = go (ltb due next)
  where
    go : (t : Bool) → size (cond t (put_from e due false) e) ≤ size e
    go true = omega (arith, put e due false)
    go false = omega arith

one_at_most : (b : Bool) → num b ≤ 1
one_at_most true = omega arith
one_at_most false = omega arith

start : (d due date : ℕ) (e : Ended) → size (started_at d due date e) ≤ size e + 2
unfolding started_at
start d due date e = omega (arith, put (closed due date e) date (ltb 0 d), close due date e, one_at_most (ltb 0 d))

past : (d : ℕ) (s : State) (w : ℕ) → size (past_word d s w).pulse.built ≤ size s.pulse.built + 2
unfolding past_word past_date
past d s w = go (starts_at s.held (value_at w) s.pulse.due (date_of w))
  where
    started : Pulse
    started = record { due = date_in (sum_of (date_of w) d); built = started_at d s.pulse.due (date_of w) s.pulse.built }

    go : (t : Bool) → size (cond t started s.pulse).built ≤ size s.pulse.built + 2
    go true = start d s.pulse.due (date_of w) s.pulse.built
    go false = omega arith

all : (d : ℕ) (ws : List ℕ) (s : State) → size (through (past_word d) ws s).pulse.built ≤ size s.pulse.built + 2 * length ws
unfolding through
all d [] s = omega arith
all d (w ∷ ws) s = omega (arith, all d ws (past_word d s w), past d s w)

pub few_words : (d : ℕ) (l old : List ℕ) → 1 ≤ length l → (pulse_engine d l old).made.count ≤ 2 * length l - 1
unfolding pulse_engine first_state begun
few_words d [] old h = absurd (omega arith)
few_words d (x ∷ ws) old h =
    let s : State = through (past_word d) ws (first_state (x ∷ ws) old) in
    omega (arith, put s.pulse.built s.pulse.due false, all d ws (first_state (x ∷ ws) old))

pub pulses_few : PulsesFew
pulses_few d a accepted short small =
    omega (arith, (pulsed_exact d a [] accepted short small).count_is, few_words d a [] (one_word a ((accepted_normal a).0 accepted).0))
  where
    one_word : (l : List ℕ) → Normal l → 1 ≤ length l
    one_word [] n = absurd n
    one_word (x ∷ ws) n = omega arith
