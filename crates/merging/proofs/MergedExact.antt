-- The merge of two accepted lists builds the exact answer of its operation.
use Prim.Native.Nat.{ℕ, ◌+◌, ◌≤◌, ◌<◌, min, max}
use native.Mathlib.Omega.{arith}
use mathlib.Core.Path.{◌≡◌, refl}
use mathlib.Core.List.{List}
use mathlib.Core.Logic.{◌⊎◌, inl, inr}
use lib.ListN.{length}
use Rattle.slices.specs.Bytes.{Words}
use Rattle.signals.specs.Moment.{M}
use Rattle.signals.specs.Signal.{Table}
use Rattle.signals.specs.Words.{list_fault, last_date, signal_of, list_of}
use Rattle.reading.specs.Reading.{NEVER, next_date}
use Rattle.operations.specs.Calls.{exact_of_two}
use Rattle.operations.proofs.NeverMet.{last_32}
use Rattle.building.proofs.Built.{Built}
use Rattle.building.specs.declared.Made.{Made}
use Rattle.showing.specs.Showing.{merged}
use Rattle.showing.specs.declared.Operation.{Operation}
use Rattle.merging.specs.Merging.{State, date_ahead, begun_in, past_date, Merges, done, turn}
use Rattle.merging.proofs.MergeTurn.{Merging, Dates, accepted_dates, dates_more, next_within, next_none, left_or_none}
use Rattle.merging.proofs.MergeTurn.{merge_begin, merge_turn, merge_done}

module _ (o : Operation) (table : Table) (a b : List ℕ) (ha : list_fault a ≡ 0) (hb : list_fault b ≡ 0) (wa : Words a) (wb : Words b)
    (old : List ℕ) where
  n : ℕ
  n = max (last_date a) (last_date b)

  small : n ≤ M
  unfolding n
  small = omega (arith, last_32 a (λ i u. wa i), last_32 b (λ i u. wb i))

  da : Dates a n
  unfolding n
  da = dates_more a (last_date a) (max (last_date a) (last_date b)) (accepted_dates a ha) (omega arith)

  db : Dates b n
  unfolding n
  db = dates_more b (last_date b) (max (last_date a) (last_date b)) (accepted_dates b hb) (omega arith)

  -- no date is ahead once all words are passed, and only then
  passed_all : (l : List ℕ) (i : ℕ) → Dates l n → NEVER ≤ next_date l i → length l ≤ i
  passed_all l i d h = go (left_or_none l i)
    where
      go : (i < length l) ⊎ (length l ≤ i) → length l ≤ i
      go (inl u) = absurd (omega (arith, next_within l i n d u, small))
      go (inr u) = u

  some_left : (i j : ℕ) → i ≤ length a → j ≤ length b → min (next_date a i) (next_date b j) < NEVER → i + j < length a + length b
  some_left i j p q h = go (left_or_none a i) (left_or_none b j)
    where
      go : (i < length a) ⊎ (length a ≤ i) → (j < length b) ⊎ (length b ≤ j) → i + j < length a + length b
      go (inl u) v = omega arith
      go (inr u) (inl v) = omega arith
      go (inr u) (inr v) = absurd (omega (arith, next_none a i u, next_none b j v))

  from_here : (slot : List ℕ) (made : Made) (s : State) (k : ℕ)
      → Merging o table a b n old k s.slot s.made s.bit s.first s.second → Merges o table a b slot made s
      → Built (list_of (merged o table (signal_of a) (signal_of b)) n) old slot made
  unfolding date_ahead past_date
  from_here slot made s k m (done h e f) =
      rw (← e, ← f)
      (merge_done o table a b n old k s.slot s.made s.bit s.first s.second m
      (omega (arith, passed_all a s.first da (omega arith), passed_all b s.second db (omega arith))))
  from_here slot made s k m (turn h w) =
      from_here slot made (past_date o table a b s (date_ahead a b s)) (date_ahead a b s)
      (merge_turn o table a b n old da db (omega (arith, small)) s.first s.second k s.slot s.made s.bit m
      (some_left s.first s.second m.left.within m.right.within h) (date_ahead a b s) refl _ _ _ refl refl refl) w

  pub merged_exact : (slot : List ℕ) (made : Made) → Merges o table a b slot made (begun_in o table a b old)
      → Built (exact_of_two (merged o table) a b) old slot made
  unfolding exact_of_two begun_in n
  merged_exact slot made w = from_here slot made (begun_in o table a b old) 0 (merge_begin o table a b n old ha hb) w
