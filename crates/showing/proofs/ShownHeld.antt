-- What the merge's signal does up to the next date, from what its two operands do.
use Prim.Native.Nat.{ℕ, ◌+◌, ◌-◌, ◌≤◌, ◌<◌}
use native.Mathlib.Omega.{arith}
use mathlib.Core.Path.{◌≡◌, refl, sym, ◌∙◌, ap₂}
use mathlib.Core.Bool.{Bool, true, false, not, ◌&&◌}
use mathlib.Core.Logic.{⊎_elim}
use Rattle.signals.specs.Moment.{gap, instant, is_gap, just_before}
use Rattle.signals.specs.Signal.{Signal, Table, cell, connective, rising, falling}
use Rattle.signals.specs.LatchSteps.{latch, carried, shown, gap_step, at_step}
use Rattle.signals.proofs.Scan.{Held}
use Rattle.signals.proofs.Wording.{is_gap_gap, is_gap_instant, just_before_instant, either}
use Rattle.signals.proofs.LatchSteps.{latch_in}
use Rattle.signals.proofs.LatchStill.{latch_held, carried_held, carried_first, latch_settled}
use Rattle.showing.specs.Showing.{merged, bit_of, first_shown, date_shown}
use Rattle.showing.specs.declared.Operation.{Operation}
use Rattle.showing.specs.declared.Operation.TheVariants.{Connective, Rising, Falling, SetWins, ResetWins}

-- an edge: the first operand's value and the one just before, at an instant
edge_with : (Bool → Bool → Bool) → Signal → Signal
edge_with pick f t = not (is_gap t) && pick (f t) (f (just_before t))

module _ (pick : Bool → Bool → Bool) (same : (v : Bool) → pick v v ≡ false) (f : Signal) where
  edge_in_gap : (j t : ℕ) → t ≡ gap j → edge_with pick f t ≡ false
  unfolding edge_with
  edge_in_gap j t e = rw (e, is_gap_gap j)

  edge_at : (j t : ℕ) (v a : Bool) → 1 ≤ j → t ≡ instant j → f (instant j) ≡ a → f (gap (j - 1)) ≡ v → edge_with pick f t ≡ pick a v
  unfolding edge_with
  edge_at j t v a h e at before = rw (e, is_gap_instant j h, just_before_instant j h, at, before)

  edge_still : (k d : ℕ) (v : Bool) → ((t : ℕ) → gap k ≤ t → t < d → f t ≡ v) → (t : ℕ) → gap k ≤ t → t < d → edge_with pick f t ≡ false
  edge_still k d v still t l u = ⊎_elim (λ g. edge_in_gap g.0 t g.1) (λ i. at_instant_lem i.0 i.1 i.2) (either t)
    where
      at_instant_lem : (j : ℕ) → 1 ≤ j → t ≡ instant j → edge_with pick f t ≡ false
      at_instant_lem j h e =
          edge_at j t v v h e (still (instant j) (omega arith) (omega arith)) (still (gap (j - 1)) (omega arith) (omega arith)) ∙ same v

  edge_held : (k d : ℕ) (v a b : Bool) → Held f k d v a b → Held (edge_with pick f) k d false (pick a v) false
  edge_held k d v a b h =
      record {
        later = h.later;
        still = edge_still k (instant d) v h.still;
        at = edge_at d (instant d) v a (omega (arith, h.later)) refl h.at
            (h.still (gap (d - 1)) (omega (arith, h.later)) (omega (arith, h.later)));
        after = edge_in_gap d (gap d) refl;
      }

rise_pick : Bool → Bool → Bool
rise_pick a v = a && not v

fall_pick : Bool → Bool → Bool
fall_pick a v = not a && v

rise_same : (v : Bool) → rise_pick v v ≡ false
unfolding rise_pick
rise_same true = refl
rise_same false = refl

fall_same : (v : Bool) → fall_pick v v ≡ false
unfolding fall_pick
fall_same true = refl
fall_same false = refl

connective_held : (table : Table) (f g : Signal) (k d : ℕ) (v1 a1 b1 v2 a2 b2 : Bool) → Held f k d v1 a1 b1 → Held g k d v2 a2 b2
    → Held (connective table f g) k d (cell table v1 v2) (cell table a1 a2) (cell table b1 b2)
unfolding connective
connective_held table f g k d v1 a1 b1 v2 a2 b2 h i =
    record {
      later = h.later;
      still = λ t l u. ap₂ (cell table) (h.still t l u) (i.still t l u);
      at = ap₂ (cell table) h.at i.at;
      after = ap₂ (cell table) h.after i.after;
    }

rising_held : (f : Signal) (k d : ℕ) (v a b : Bool) → Held f k d v a b → Held (rising f) k d false (a && not v) false
unfolding rising edge_with rise_pick
rising_held f k d v a b h = edge_held rise_pick rise_same f k d v a b h

falling_held : (f : Signal) (k d : ℕ) (v a b : Bool) → Held f k d v a b → Held (falling f) k d false (not a && v) false
unfolding falling edge_with fall_pick
falling_held f k d v a b h = edge_held fall_pick fall_same f k d v a b h

-- the value held, whatever the operation
pub held_by : Operation → Table → Signal → Signal → ℕ → Bool → Bool → Bool
held_by Connective table f g k v1 v2 = cell table v1 v2
held_by Rising table f g k v1 v2 = false
held_by Falling table f g k v1 v2 = false
held_by SetWins table f g k v1 v2 = shown true v1 (carried true f g k)
held_by ResetWins table f g k v1 v2 = shown false v1 (carried false f g k)

-- one date: what it shows is what the merge's signal does there
pub record Turned (o : Operation) (table : Table) (f g : Signal) (k d : ℕ) (v at after next : Bool) : Type 0 where
  pub held : Held (merged o table f g) k d v at after
  pub bit : next ≡ bit_of o f g d

latch_turned : (w : Bool) (f g : Signal) (k d : ℕ) (v1 a1 b1 v2 a2 b2 c : Bool) → c ≡ carried w f g k → Held f k d v1 a1 b1
    → Held g k d v2 a2 b2
    → Held (latch w f g) k d (shown w v1 (carried w f g k)) (at_step w a1 a2 c) (shown w b1 (gap_step b1 b2 (at_step w a1 a2 c)))
    × (gap_step b1 b2 (at_step w a1 a2 c) ≡ carried w f g d)
latch_turned w f g k d v1 a1 b1 v2 a2 b2 c e h i =
    let q = carried_held w f g k d v1 v2 a1 b1 a2 b2 h i in
    rw (e, ← q) (latch_held w f g k d v1 v2 a1 b1 a2 b2 h i, refl)

pub turned : (o : Operation) (table : Table) (f g : Signal) (k d : ℕ) (v1 a1 b1 v2 a2 b2 c : Bool)
    → c ≡ bit_of o f g k → Held f k d v1 a1 b1 → Held g k d v2 a2 b2
    → Turned o table f g k d (held_by o table f g k v1 v2) (date_shown o table c v1 a1 b1 a2 b2).at
    (date_shown o table c v1 a1 b1 a2 b2).after (date_shown o table c v1 a1 b1 a2 b2).carried
unfolding held_by
turned Connective table f g k d v1 a1 b1 v2 a2 b2 c e h i =
    record { held = connective_held table f g k d v1 a1 b1 v2 a2 b2 h i; bit = refl }
turned Rising table f g k d v1 a1 b1 v2 a2 b2 c e h i = record { held = rising_held f k d v1 a1 b1 h; bit = refl }
turned Falling table f g k d v1 a1 b1 v2 a2 b2 c e h i = record { held = falling_held f k d v1 a1 b1 h; bit = refl }
turned SetWins table f g k d v1 a1 b1 v2 a2 b2 c e h i =
    let t = latch_turned true f g k d v1 a1 b1 v2 a2 b2 c e h i in record { held = t.0; bit = t.1 }
turned ResetWins table f g k d v1 a1 b1 v2 a2 b2 c e h i =
    let t = latch_turned false f g k d v1 a1 b1 v2 a2 b2 c e h i in record { held = t.0; bit = t.1 }

-- gap 0
pub shown_first : (o : Operation) (table : Table) (f g : Signal) (p q : Bool) → f 0 ≡ p → g 0 ≡ q
    → ((first_shown o table p q).after ≡ merged o table f g 0) × ((first_shown o table p q).carried ≡ bit_of o f g 0)
unfolding connective rising falling is_gap
shown_first Connective table f g p q e h = (rw (e, h), refl)
shown_first Rising table f g p q e h = (refl, refl)
shown_first Falling table f g p q e h = (refl, refl)
shown_first SetWins table f g p q e h =
    let c = carried_first true f g p q e h in (rw (← c, ← e) (sym (latch_in true f g 0)), sym c)
shown_first ResetWins table f g p q e h =
    let c = carried_first false f g p q e h in (rw (← c) (sym (latch_in false f g 0)), sym c)

-- operands that stand still for good
pub still_for_good : (o : Operation) (table : Table) (f g : Signal) (k : ℕ) (a b : Bool) → ((t : ℕ) → gap k ≤ t → f t ≡ a)
    → ((t : ℕ) → gap k ≤ t → g t ≡ b)
    → (t : ℕ) → gap k ≤ t → merged o table f g t ≡ merged o table f g (gap k)
unfolding connective rising falling edge_with rise_pick fall_pick
still_for_good Connective table f g k a b s r t l = rw (s t l, r t l, s (gap k) (omega arith), r (gap k) (omega arith))
still_for_good Rising table f g k a b s r t l =
    edge_still rise_pick rise_same f k (t + 1) a (λ u m n. s u m) t l (omega arith)
    ∙ sym (edge_still rise_pick rise_same f k (t + 1) a (λ u m n. s u m) (gap k) (omega arith) (omega arith))
still_for_good Falling table f g k a b s r t l =
    edge_still fall_pick fall_same f k (t + 1) a (λ u m n. s u m) t l (omega arith)
    ∙ sym (edge_still fall_pick fall_same f k (t + 1) a (λ u m n. s u m) (gap k) (omega arith) (omega arith))
still_for_good SetWins table f g k a b s r t l = latch_settled true f g k a b s r t l
still_for_good ResetWins table f g k a b s r t l = latch_settled false f g k a b s r t l
