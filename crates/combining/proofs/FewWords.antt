-- A turn of a merge passes a word or more and puts at most one into the slot: so the answer has fewer words than both lists.
use Prim.Native.Nat.{ℕ, ◌+◌, ◌-◌, ◌≤◌}
use native.Mathlib.Omega.{arith}
use mathlib.Core.Path.{refl}
use mathlib.Core.List.{List}
use mathlib.Core.Bool.{Bool, true, false, cond}
use lib.ListN.{length}
use Rattle.signals.specs.Signal.{Table}
use Rattle.building.specs.Building.{begun, emitted, idle, one_more, late_with}
use Rattle.building.specs.declared.Made.{Made}
use Rattle.showing.specs.declared.Operation.{Operation}
use Rattle.merging.specs.Merging.{State, date_ahead, begun_in, past_date, shown_at, Merges, done, turn, BuiltIn}
use Rattle.merging.proofs.Along.{falls}

emitted_more : (made : Made) (d : ℕ) (at after : Bool) → (emitted made d at after).count ≤ made.count + 1
unfolding emitted
emitted_more made d at after = go (idle made.value at after)
  where
    go : (t : Bool) → (cond t made (record { value = after; count = one_more made.count; late = late_with made.late d })).count
        ≤ made.count + 1
    go true = omega arith
    go false = omega arith

more_words : (o : Operation) (table : Table) (l m slot : List ℕ) (made : Made) (s : State) → Merges o table l m slot made s
    → made.count ≤ s.made.count + (length l - s.first + (length m - s.second))
unfolding past_date date_ahead
more_words o table l m slot made s (done h e f) = rw (← f) (omega arith)
more_words o table l m slot made s (turn h w) =
    omega (
      arith,
      more_words o table l m slot made (past_date o table l m s (date_ahead l m s)) w,
      falls l m s.first s.second (date_ahead l m s) refl h,
      emitted_more s.made (date_ahead l m s) (shown_at o table l m s (date_ahead l m s)).at
          (shown_at o table l m s (date_ahead l m s)).after,
    )

pub few_words : (o : Operation) (table : Table) (l m slot : List ℕ) (made : Made) (after : List ℕ) → BuiltIn o table l m slot made after
    → made.count ≤ 1 + (length l - 1 + (length m - 1))
unfolding begun_in begun
few_words o table l m slot made after w = more_words o table l m after made (begun_in o table l m slot) w
