-- Which merge or timer a code word of a kind asks for: its exact answer is that of the operator which the code word stands for.
use Prim.Native.Nat.{ℕ, ◌%◌, ◌≤◌}
use native.Mathlib.Omega.{arith}
use mathlib.Core.Path.{◌≡◌, refl, sym, ◌∙◌}
use mathlib.Core.Bool.{Bool, true, false, cond, ◌||◌}
use mathlib.Core.List.{List}
use lib.Dec.{eqb, ltb}
use borrow.Author.Tests.{ne_eqb, le-ltb, eqb-true, eqb-false}
use Rattle.signals.specs.Answers.{first_of}
use Rattle.slices.specs.Bytes.{Words}
use Rattle.signals.specs.Moment.{M}
use Rattle.signals.specs.Signal.{Signal, NOT, rising, falling, TON, TOF}
use Rattle.signals.specs.Words.{list_fault, pair_fault}
use Rattle.signals.proofs.Truth.{not_both_lem}
use Rattle.operations.specs.Calls.{length_fault, exact_of_two, exact_of_delay}
use Rattle.showing.specs.declared.Operation.TheVariants.{Connective, Rising, Falling, ResetWins}
use Rattle.showing.specs.Showing.{merged}
use Rattle.timing.specs.Delay.{delay_of}
use Rattle.timing.proofs.DelaySignals.{ton_delay, tof_delay}
use Rattle.building.proofs.Built.{Built}
use Rattle.lent_slots.specs.Lent.{Engine}
use Rattle.delaying.proofs.DelayedExact.{delayed_exact}
use Rattle.delay_parts.specs.DelayAt.{delay_engine}
use Rattle.pulsing.specs.Turns.{pulse_engine}
use Rattle.pulsing.proofs.PulsedExact.{pulsed_exact}
use Rattle.merging.proofs.OneOperand.{none, pair_of_one, exact_of_one_lem, inverted}
use Rattle.grammar.specs.Kinds as kinds
use Rattle.grammar.specs.Tree.{Unary, invert, rise, fall, ton, tof, tp}
use Rattle.applying.specs.PartCalls.{unary_of, binary_of, unary_in, binary_in, unary_fault, unary_exact, binary_exact}
use Rattle.applying.specs.PartCalls.{judged_for, exact_for}
use Rattle.applying.specs.Merges.{operation_of, table_for}
use Rattle.applying.specs.Applied.{edged, engine_of}

module _ (k : ℕ) where
  pub is_reset_wins : (k ≡ kinds.RISING → ⊥) → (k ≡ kinds.FALLING → ⊥) → kinds.SR ≤ k → (k ≡ kinds.SR → ⊥) → ResetWins ≡ operation_of k
  unfolding operation_of
  is_reset_wins a b l e = rw (ne_eqb k kinds.RISING a, ne_eqb k kinds.FALLING b, le-ltb k kinds.SR l, ne_eqb k kinds.SR e)

-- a merge of one operand is one with the list that is always down
abbrev pub OfOne : ℕ → Type 0
OfOne k =
    (n : ℕ) (a : List ℕ)
    → (pair_fault a none ≡ unary_fault (unary_of k n) a)
    × (exact_of_two (merged (operation_of k) (table_for k)) a none ≡ unary_exact (unary_of k n) a)

of_not : OfOne kinds.NOT
unfolding unary_of operation_of table_for
of_not n a = (pair_of_one a, exact_of_one_lem NOT (merged Connective (table_for kinds.NOT)) inverted a)

of_rising : OfOne kinds.RISING
unfolding unary_of operation_of
of_rising n a = (pair_of_one a, exact_of_one_lem rising (merged Rising (table_for kinds.RISING)) (λ f g t. refl) a)

of_falling : OfOne kinds.FALLING
unfolding unary_of operation_of
of_falling n a = (pair_of_one a, exact_of_one_lem falling (merged Falling (table_for kinds.FALLING)) (λ f g t. refl) a)

pub of_one : (k : ℕ) → edged k ≡ true → OfOne k
of_one k t = go (eqb k kinds.NOT) (eqb k kinds.RISING) (eqb k kinds.FALLING) refl refl refl t
  where
    go : (x y z : Bool) → eqb k kinds.NOT ≡ x → eqb k kinds.RISING ≡ y → eqb k kinds.FALLING ≡ z → ((x || y) || z) ≡ true → OfOne k
    go true y z e f g h = rw (eqb-true k kinds.NOT e) of_not
    go false true z e f g h = rw (eqb-true k kinds.RISING f) of_rising
    go false false z e f g h = rw (eqb-true k kinds.FALLING (g ∙ h)) of_falling

pub of_two : (k : ℕ) → kinds.AND ≤ k → (a b : List ℕ) → exact_of_two (merged (operation_of k) (table_for k)) a b ≡ binary_exact
    (binary_of k) a b
unfolding binary_of operation_of table_for
of_two k l a b = go (eqb k kinds.AND) (eqb k kinds.OR) (eqb k kinds.SR) refl refl refl
  where
    go : (x y z : Bool) → eqb k kinds.AND ≡ x → eqb k kinds.OR ≡ y → eqb k kinds.SR ≡ z
        → exact_of_two (merged (operation_of k) (table_for k)) a b ≡ binary_exact (binary_of k) a b
    go true y z e f g = rw (eqb-true k kinds.AND e)
    go false true z e f g = rw (eqb-true k kinds.OR f)
    go false false true e f g = rw (eqb-true k kinds.SR g)
    go false false false e f g =
        let d : k ≡ kinds.AND → ⊥ = eqb-false k kinds.AND e in
        let o : k ≡ kinds.OR → ⊥ = eqb-false k kinds.OR f in
        let w = is_reset_wins k (λ i. omega (arith, i, l)) (λ i. omega (arith, i, l)) (omega (arith, l, d, o)) (eqb-false k kinds.SR g) in
        rw (sym w, e, f, g)

-- the timers are the other operations of one operand
pub of_timer : (k n : ℕ) → edged k ≡ false → unary_of k n ≡ cond (eqb k kinds.TON) (ton n) (cond (eqb k kinds.TOF) (tof n) (tp n))
unfolding unary_of
of_timer k n t = go (eqb k kinds.NOT) (eqb k kinds.RISING) (eqb k kinds.FALLING) t
  where
    go : (x y z : Bool) → ((x || y) || z) ≡ false
        → cond x invert (cond y rise (cond z fall (cond (eqb k kinds.TON) (ton n) (cond (eqb k kinds.TOF) (tof n) (tp n)))))
        ≡ cond (eqb k kinds.TON) (ton n) (cond (eqb k kinds.TOF) (tof n) (tp n))
    go true y z h = not_both_lem {b = true} refl h
    go false true z h = not_both_lem {b = true} refl h
    go false false true h = not_both_lem {b = true} refl h
    go false false false h = refl

pub timer_judged : (x y : Bool) (n : ℕ) (a : List ℕ)
    → first_of (list_fault a) (length_fault n) ≡ unary_fault (cond x (ton n) (cond y (tof n) (tp n))) a
timer_judged true y n a = refl
timer_judged false true n a = refl
timer_judged false false n a = refl

-- the engine that the code chooses
module _ (k n : ℕ) where
  pub a_delay : (eqb k kinds.TON || eqb k kinds.TOF) ≡ true → delay_engine (eqb k kinds.TON) n ≡ engine_of k n
  unfolding engine_of
  a_delay e = rw e

  pub a_pulse : (eqb k kinds.TON || eqb k kinds.TOF) ≡ false → pulse_engine n ≡ engine_of k n
  unfolding engine_of
  a_pulse e = rw e

-- what a timer's engine builds of an accepted list is its exact answer
module _ (n : ℕ) (a before : List ℕ) (accepted : list_fault a ≡ 0) (short : n ≤ M) (small : Words a) where
  abbrev Builds : Engine → Unary → Type 0
  Builds engine o = Built (unary_exact o a) before (engine a before).slot (engine a before).made

  of_delay : (level : Bool) (signals : Signal → Signal) → delay_of level n ≡ signals
      → Built (exact_of_delay signals n a) before (delay_engine level n a before).slot (delay_engine level n a before).made
  unfolding delay_engine
  of_delay level signals e = rw (← e) (delayed_exact level n a before accepted short small)

  pub timer_builds : (k : ℕ) → edged k ≡ false → Builds (engine_of k n) (unary_of k n)
  unfolding engine_of
  timer_builds k e = rw (of_timer k n e) (go (eqb k kinds.TON) (eqb k kinds.TOF))
    where
      go : (x y : Bool) → Builds (cond (x || y) (delay_engine x n) (pulse_engine n)) (cond x (ton n) (cond y (tof n) (tp n)))
      go true y = of_delay true (TON n) (sym (ton_delay n))
      go false true = of_delay false (TOF n) (sym (tof_delay n))
      go false false = pulsed_exact n a before accepted short small

module _ (w : ℕ) (a b : List ℕ) where
  pub judged_one : ltb (w % 16) kinds.AND ≡ true → unary_fault (unary_in w) a ≡ judged_for w a b
  unfolding judged_for
  judged_one e = rw e

  pub exact_one : ltb (w % 16) kinds.AND ≡ true → unary_exact (unary_in w) a ≡ exact_for w a b
  unfolding exact_for
  exact_one e = rw e

  pub judged_two : ltb (w % 16) kinds.AND ≡ false → pair_fault a b ≡ judged_for w a b
  unfolding judged_for
  judged_two e = rw e

  pub exact_two : ltb (w % 16) kinds.AND ≡ false → binary_exact (binary_in w) a b ≡ exact_for w a b
  unfolding exact_for
  exact_two e = rw e
