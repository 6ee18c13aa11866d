-- How far a merge is along its two lists: each turn passes a word, and whatever it ends with from here, it ends with from the start.
use Prim.Native.Nat.{ℕ, ◌+◌, ◌-◌, ◌≤◌, ◌<◌, min}
use native.Mathlib.Omega.{arith}
use mathlib.Core.Path.{◌≡◌, refl, sym, subst, ◌∙◌, ap}
use mathlib.Core.Bool.{Bool, true, false}
use mathlib.Core.List.{List}
use mathlib.Core.Logic.{◌⊎◌, inl, inr}
use lib.Dec.{ltb}
use lib.ListN.{length}
use borrow.Author.Tests.{ltb-true, ltb-false}
use Rattle.signals.specs.Signal.{Table, cell}
use Rattle.signals.specs.Words.{value_after}
use Rattle.signals.specs.Passing.{held_value, passed_date}
use Rattle.reading.specs.Reading.{NEVER, next_date, step_past}
use Rattle.reading.specs.declared.Step.{Step}
use Rattle.building.specs.Building.{Begins, Emits, emitted, emitted_in}
use Rattle.building.specs.declared.Made.{Made}
use Rattle.showing.specs.Showing.{first_shown, date_shown}
use Rattle.showing.specs.declared.Operation.{Operation}
use Rattle.showing.specs.declared.Operation.TheVariants.{Connective}
use Rattle.showing.specs.declared.Shown.{Shown}
use Rattle.sources.specs.Sources.{past_on}
use Rattle.sources.specs.declared.Cursor.{Cursor}
use Rattle.sources.specs.declared.Passed.{Passed}
use Rattle.sources.proofs.Readers.{Reading, reads_date, reads_held, reads_step, reads_passed, reads_on}
use Rattle.merging.specs.Merging.{State, date_ahead, begun_in, past_date, Merges, turn, done}
use Rattle.merging.proofs.MergeTurn.{passed_keeps, passed_next, left_or_none, next_none}

-- one of two dates is the earlier
earlier_one : (x y : ℕ) → (min x y ≡ x) ⊎ (min x y ≡ y)
earlier_one x y = go (ltb x y) refl
  where
    go : (t : Bool) → ltb x y ≡ t → (min x y ≡ x) ⊎ (min x y ≡ y)
    go true e = inl (let h = ltb-true x y e in omega arith)
    go false e = inr (let h = ltb-false x y e in omega arith)

-- each turn passes a word
pub falls : (l m : List ℕ) (i j d : ℕ) → d ≡ min (next_date l i) (next_date m j) → d < NEVER
    → length l - passed_date l i d + (length m - passed_date m j d) < length l - i + (length m - j)
falls l m i j d e small = go (earlier_one (next_date l i) (next_date m j))
  where
    one_less : (l : List ℕ) (i : ℕ) → d ≡ next_date l i → length l - passed_date l i d < length l - i
    one_less l i q = at_left (left_or_none l i)
      where
        at_left : (i < length l) ⊎ (length l ≤ i) → length l - passed_date l i d < length l - i
        at_left (inl h) = rw (passed_next l i d q small) (omega arith)
        at_left (inr h) = absurd (let z : d ≡ NEVER = q ∙ next_none l i h in omega arith)

    go : (min (next_date l i) (next_date m j) ≡ next_date l i) ⊎ (min (next_date l i) (next_date m j) ≡ next_date m j)
        → length l - passed_date l i d + (length m - passed_date m j d) < length l - i + (length m - j)
    go (inl q) = omega (arith, one_less l i (e ∙ q), passed_keeps m j d)
    go (inr q) = omega (arith, one_less m j (e ∙ q), passed_keeps l i d)

-- the state from the loop's variables
abbrev pub reached : List ℕ → Made → Bool → ℕ → ℕ → State
reached slot made bit i j = record { slot = slot; made = made; bit = bit; first = i; second = j }

next_state : (o : Operation) (table : Table) (l m slot part : List ℕ) (made made' : Made) (bit : Bool) (i j d : ℕ) (u v : Step) (s : Shown)
    → u ≡ step_past l i d → v ≡ step_past m j d → s ≡ date_shown o table bit u.before u.at u.after v.at v.after
    → made' ≡ emitted made d s.at s.after → part ≡ emitted_in slot made d s.at s.after
    → reached part made' s.carried u.passed v.passed ≡ past_date o table l m (reached slot made bit i j) d
unfolding past_date
next_state o table l m slot part made made' bit i j d u v s eu ev es em ep = rw (em, ep, es, eu, ev)

-- the state after gap 0
pub begun_is : (o : Operation) (table : Table) (l m slot : List ℕ) (x y : Cursor) → Reading l x → Reading m y → x.passed ≡ 1
    → y.passed ≡ 1 → (first : Shown) → first ≡ first_shown o table (value_after x.last) (value_after y.last)
    → (made : Made) (part : List ℕ) → Begins first.after slot made part
    → reached part made first.carried x.passed y.passed ≡ begun_in o table l m slot
unfolding begun_in
begun_is o table l m slot x y gx gy one other first ef made part eb =
    let p = reads_held l x gx ∙ ap (held_value l) one in
    let q = reads_held m y gy ∙ ap (held_value m) other in
    rw (one, other, eb.0, eb.1, ef, p, q)

module _ (o : Operation) (table : Table) (l m : List ℕ) (start : State) where
  pub record Along (slot : List ℕ) (x y : Cursor) (made : Made) (bit : Bool) (date : ℕ) : Type 0 where
    pub first : Reading l x
    pub second : Reading m y
    pub date_is : date ≡ min x.date y.date
    pub on : (end : List ℕ) (last : Made) → Merges o table l m end last (reached slot made bit x.passed y.passed)
        → Merges o table l m end last start

  module _ (slot : List ℕ) (x y : Cursor) (made : Made) (bit : Bool) (date : ℕ) (g : Along slot x y made bit date) where
    ahead : date ≡ date_ahead l m (reached slot made bit x.passed y.passed)
    unfolding date_ahead
    ahead = g.date_is ∙ rw (reads_date l x g.first, reads_date m y g.second)

    pub along_end : NEVER ≤ date → Merges o table l m slot made start
    along_end h = g.on slot made (done (rw (sym ahead) h) refl refl)

    module _ (small : date < NEVER) (u v : Passed) (eu : u ≡ past_on l x date) (ev : v ≡ past_on m y date) where
      pub along_falls : length l - u.next.passed + (length m - v.next.passed) < length l - x.passed + (length m - y.passed)
      unfolding date_ahead
      along_falls =
          rw (
            reads_passed l x g.first date small u eu,
            reads_passed m y g.second date small v ev,
            reads_step l x g.first date small u eu,
            reads_step m y g.second date small v ev,
          )
          (falls l m x.passed y.passed date ahead small)

      pub along_turn : (s : Shown)
          → s ≡ date_shown o table bit u.step.before u.step.at u.step.after v.step.at v.step.after
          → (made' : Made) (slot' : List ℕ) → Emits made date s.at s.after slot made' slot'
          → (date' : ℕ) → date' ≡ min u.next.date v.next.date
          → Along slot' u.next v.next made' s.carried date'
      along_turn s es made' slot' em date' ed =
          record {
            first = reads_on l x g.first date small u eu;
            second = reads_on m y g.second date small v ev;
            date_is = ed;
            on = λ end last w. g.on end last (turn (rw (sym ahead) small) (subst (λ (z : State). Merges o table l m end last z) next w));
          }
        where
          next : reached slot' made' s.carried u.next.passed v.next.passed
              ≡ past_date o table l m (reached slot made bit x.passed y.passed)
              (date_ahead l m (reached slot made bit x.passed y.passed))
          next =
              ap (λ (i : ℕ). reached slot' made' s.carried i v.next.passed) (reads_passed l x g.first date small u eu)
              ∙ ap (λ (j : ℕ). reached slot' made' s.carried u.step.passed j) (reads_passed m y g.second date small v ev)
              ∙ next_state o table l m slot slot' made made' bit x.passed y.passed date u.step v.step s
              (reads_step l x g.first date small u eu) (reads_step m y g.second date small v ev) es em.0 em.1
              ∙ ap (λ (d : ℕ). past_date o table l m (reached slot made bit x.passed y.passed) d) ahead

-- a connective shows the table's cells, and carries nothing
pub first_cell : (table : Table) (p q v : Bool) → v ≡ cell table p q
    → ◌≡◌ {A = Shown} (record { at = false; after = v; carried = false }) (first_shown Connective table p q)
first_cell table p q v e = rw e

pub date_cells : (table : Table) (c p0 p1 p2 q1 q2 v w : Bool) → v ≡ cell table p1 q1 → w ≡ cell table p2 q2
    → ◌≡◌ {A = Shown} (record { at = v; after = w; carried = false }) (date_shown Connective table c p0 p1 p2 q1 q2)
date_cells table c p0 p1 p2 q1 q2 v w e f = rw (e, f)
