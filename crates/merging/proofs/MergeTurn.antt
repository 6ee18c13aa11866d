-- One turn of the merge's loop: the next date of either operand is passed in both, and what it shows is put into the slot.
use Prim.Native.Nat.{ℕ, zero, suc, ◌+◌, ◌≤◌, ◌<◌, min}
use native.Mathlib.Omega.{arith}
use mathlib.Core.Path.{◌≡◌, refl, sym, ◌∙◌}
use mathlib.Core.Bool.{Bool, true, false, cond}
use mathlib.Core.List.{List, [], ◌∷◌}
use mathlib.Core.Logic.{◌⊎◌, inl, inr, ⊎_elim}
use lib.Dec.{ltb}
use lib.ListN.{length, get_or, set}
use borrow.Author.Tests.{lt-ltb, le-ltb, ltb-true, ltb-false, eq-eqb}
use Rattle.signals.specs.Signal.{Signal, Table, num}
use Rattle.signals.specs.Words.{date_of, signal_of, last_date, last_from, list_of, head_value}
use Rattle.signals.specs.Normal.{Normal, Accepted, Rising}
use Rattle.signals.specs.Passing.{held_value, is_next, at_date, after_date, passed_date}
use Rattle.signals.proofs.Operand.{At, Passed, at_pass, at_end_lem, next_later, value_held}
use Rattle.signals.proofs.Normal.{accepted_start, accepted_normal, last_le}
use Rattle.signals.proofs.WordFacts.{date_bounds}
use Rattle.signals.proofs.Operand.{words_rise}
use Rattle.reading.specs.Reading.{next_date, NEVER}
use Rattle.building.specs.Building.{emitted, emitted_in, begun}
use Rattle.building.proofs.Built.{Built}
use Rattle.showing.specs.Showing.{merged, bit_of, first_shown, date_shown}
use Rattle.building.specs.declared.Made.{Made}
use Rattle.showing.specs.declared.Operation.{Operation}
use Rattle.building.proofs.Scanning.{Scanning, scanning_begin, scanning_emit, scanning_done}
use Rattle.showing.proofs.ShownHeld.{held_by, Turned, turned, shown_first, still_for_good}

-- no word of the list is dated after n
abbrev pub Dates : List ℕ → ℕ → Type 0
Dates l n = (i : ℕ) → i < length l → date_of (get_or l i 0) ≤ n

dates_rising : (k : ℕ) (ws : List ℕ) → Rising k ws → (i : ℕ) → i < length ws → date_of (get_or ws i 0) ≤ last_from k ws
unfolding last_from
dates_rising k [] r i h = absurd (omega arith)
dates_rising k (w ∷ ws) r zero h = last_le (date_of w) ws r.1
dates_rising k (w ∷ ws) r (suc i) h = dates_rising (date_of w) ws r.1 i (omega arith)

pub accepted_dates : (l : List ℕ) → Accepted l → Dates l (last_date l)
unfolding last_date
accepted_dates l a = go l ((accepted_normal l).0 a).0
  where
    go : (l : List ℕ) → Normal l → Dates l (last_date l)
    go [] n i h = absurd n
    go (w ∷ ws) n zero h = omega (arith, date_bounds w, n.0)
    go (w ∷ ws) n (suc i) h = dates_rising 0 ws (words_rise 0 (head_value w) ws n.1) i (omega arith)

pub dates_more : (l : List ℕ) (n m : ℕ) → Dates l n → n ≤ m → Dates l m
dates_more l n m d le i h = let u = d i h in omega arith

-- the next date, of a word left and of none
next_of : (l : List ℕ) (p : ℕ) → p < length l → next_date l p ≡ date_of (get_or l p 0)
unfolding next_date
next_of l p h = rw (lt-ltb p (length l) h)

pub next_none : (l : List ℕ) (p : ℕ) → length l ≤ p → next_date l p ≡ NEVER
unfolding next_date
next_none l p h = rw (le-ltb p (length l) h)

pub left_or_none : (l : List ℕ) (p : ℕ) → (p < length l) ⊎ (length l ≤ p)
left_or_none l p = go (ltb p (length l)) refl
  where
    go : (t : Bool) → ltb p (length l) ≡ t → (p < length l) ⊎ (length l ≤ p)
    go true e = inl (ltb-true p (length l) e)
    go false e = inr (ltb-false p (length l) e)

pub next_above : (f : Signal) (l : List ℕ) (p k : ℕ) → At f l p k → k < NEVER → k < next_date l p
next_above f l p k a h =
    ⊎_elim (λ u. rw (next_of l p u) (next_later f l p k a u)) (λ u. rw (next_none l p u) h) (left_or_none l p)

pub next_within : (l : List ℕ) (p n : ℕ) → Dates l n → p < length l → next_date l p ≤ n
next_within l p n d h = rw (next_of l p h) (d p h)

-- a date not after the next one
pub not_after_lem : (l : List ℕ) (p e : ℕ) → e ≤ next_date l p → p < length l → e ≤ date_of (get_or l p 0)
not_after_lem l p e h u = rw (next_of l p u) at h

-- passing never goes back, and goes on at the next word's date
pub passed_keeps : (l : List ℕ) (p e : ℕ) → p ≤ passed_date l p e
unfolding passed_date
passed_keeps l p e = go (is_next l p e)
  where
    go : (t : Bool) → p ≤ cond t (p + 1) p
    go true = omega arith
    go false = omega arith

pub passed_next : (l : List ℕ) (p e : ℕ) → e ≡ next_date l p → e < NEVER → passed_date l p e ≡ p + 1
unfolding passed_date is_next
passed_next l p e q h =
    ⊎_elim
    (λ u. rw (lt-ltb p (length l) u, eq-eqb (date_of (get_or l p 0)) e (sym (next_of l p u) ∙ sym q)))
    (λ u. absurd (let z : e ≡ NEVER = q ∙ next_none l p u in omega arith))
    (left_or_none l p)

module _ (o : Operation) (table : Table) (a b : List ℕ) (n : ℕ) (old : List ℕ) where
  pub record Merging (k : ℕ) (slot : List ℕ) (made : Made) (bit : Bool) (i j : ℕ) : Type 0 where
    pub scan : Scanning (merged o table (signal_of a) (signal_of b)) n k old slot made
    pub left : At (signal_of a) a i k
    pub right : At (signal_of b) b j k
    pub bit_is : bit ≡ bit_of o (signal_of a) (signal_of b) k
    pub below : k ≤ n

  pub merge_begin : Accepted a → Accepted b
      → Merging 0 (set old 0 (num (first_shown o table (held_value a 1) (held_value b 1)).after))
      (begun (first_shown o table (held_value a 1) (held_value b 1)).after) (first_shown o table (held_value a 1) (held_value b 1)).carried
      1 1
  merge_begin ha hb =
      record {
        scan = scanning_begin (merged o table (signal_of a) (signal_of b)) n old _ shows.0;
        left = sa;
        right = sb;
        bit_is = shows.1;
        below = omega arith;
      }
    where
      sa : At (signal_of a) a 1 0
      sa = accepted_start a ha

      sb : At (signal_of b) b 1 0
      sb = accepted_start b hb

      va : signal_of a 0 ≡ held_value a 1
      va = sa.ahead.says 0 (omega arith) ∙ value_held (held_value a 1) 0 _ 0 sa.ahead.rises (omega arith)

      vb : signal_of b 0 ≡ held_value b 1
      vb = sb.ahead.says 0 (omega arith) ∙ value_held (held_value b 1) 0 _ 0 sb.ahead.rises (omega arith)

      shows : ((first_shown o table (held_value a 1) (held_value b 1)).after ≡ merged o table (signal_of a) (signal_of b) 0)
          × ((first_shown o table (held_value a 1) (held_value b 1)).carried ≡ bit_of o (signal_of a) (signal_of b) 0)
      shows = shown_first o table (signal_of a) (signal_of b) (held_value a 1) (held_value b 1) va vb

  module _ (da : Dates a n) (db : Dates b n) (small : n < NEVER) (i j k : ℕ) (slot : List ℕ) (made : Made) (bit : Bool)
      (m : Merging k slot made bit i j) (more : i + j < length a + length b) where
    next_of_both : ℕ
    next_of_both = min (next_date a i) (next_date b j)

    above : k < next_of_both
    unfolding next_of_both
    above =
        let x = next_above (signal_of a) a i k m.left (omega (arith, m.below)) in
        let y = next_above (signal_of b) b j k m.right (omega (arith, m.below)) in
        omega arith

    within : next_of_both ≤ n
    unfolding next_of_both
    within =
        ⊎_elim (λ u. let x = next_within a i n da u in omega arith)
        (λ u. let y = next_within b j n db (omega arith) in omega arith)
        (left_or_none a i)

    turn_left : Passed (signal_of a) a i k next_of_both
    unfolding next_of_both
    turn_left = at_pass (signal_of a) a i k next_of_both m.left above (not_after_lem a i next_of_both (omega arith))

    turn_right : Passed (signal_of b) b j k next_of_both
    unfolding next_of_both
    turn_right = at_pass (signal_of b) b j k next_of_both m.right above (not_after_lem b j next_of_both (omega arith))

    turned_here : Turned o table (signal_of a) (signal_of b) k next_of_both
        (held_by o table (signal_of a) (signal_of b) k (held_value a i) (held_value b j))
        (date_shown o table bit (held_value a i) (at_date a i next_of_both) (after_date a i next_of_both) (at_date b j next_of_both)
        (after_date b j next_of_both)).at
        (date_shown o table bit (held_value a i) (at_date a i next_of_both) (after_date a i next_of_both) (at_date b j next_of_both)
        (after_date b j next_of_both)).after
        (date_shown o table bit (held_value a i) (at_date a i next_of_both) (after_date a i next_of_both) (at_date b j next_of_both)
        (after_date b j next_of_both)).carried
    turned_here =
        turned o table (signal_of a) (signal_of b) k next_of_both (held_value a i) (at_date a i next_of_both) (after_date a i next_of_both)
        (held_value b j) (at_date b j next_of_both) (after_date b j next_of_both) bit m.bit_is turn_left.held turn_right.held

    -- the turn as the code makes it
    pub merge_turn : (d : ℕ) → d ≡ min (next_date a i) (next_date b j) → (at after next : Bool)
        → at ≡ (date_shown o table bit (held_value a i) (at_date a i d) (after_date a i d) (at_date b j d) (after_date b j d)).at
        → after ≡ (date_shown o table bit (held_value a i) (at_date a i d) (after_date a i d) (at_date b j d) (after_date b j d)).after
        → next ≡ (date_shown o table bit (held_value a i) (at_date a i d) (after_date a i d) (at_date b j d) (after_date b j d)).carried
        → Merging d (emitted_in slot made d at after) (emitted made d at after) next (passed_date a i d) (passed_date b j d)
    unfolding next_of_both
    merge_turn d e at after next ea ef en =
        rw (ea, ef, en, e)
        (record {
          scan = scanning_emit (merged o table (signal_of a) (signal_of b)) n old k next_of_both _ _ _ slot made m.scan turned_here.held
              within (omega arith);
          left = turn_left.on;
          right = turn_right.on;
          bit_is = turned_here.bit;
          below = within;
        })

  pub merge_done : (k : ℕ) (slot : List ℕ) (made : Made) (bit : Bool) (i j : ℕ) → Merging k slot made bit i j → length a + length b ≤ i + j
      → Built (list_of (merged o table (signal_of a) (signal_of b)) n) old slot made
  merge_done k slot made bit i j m done =
      scanning_done (merged o table (signal_of a) (signal_of b)) n old k slot made m.scan
      (still_for_good o table (signal_of a) (signal_of b) k (held_value a i) (held_value b j)
      (at_end_lem (signal_of a) a i k m.left (omega (arith, m.left.within, m.right.within)))
      (at_end_lem (signal_of b) b j k m.right (omega (arith, m.left.within, m.right.within))))
