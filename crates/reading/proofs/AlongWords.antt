-- Going along a list's words: a turn of the loop; where it comes to in an accepted list; what passing the date finds there.
use Prim.Native.Nat.{ℕ, zero, suc, ◌+◌, ◌-◌, ◌≤◌, ◌<◌}
use native.Mathlib.Omega.{arith}
use mathlib.Core.Path.{◌≡◌, refl, sym, ◌∙◌, ap, subst}
use mathlib.Core.Bool.{Bool, true, false, cond}
use mathlib.Core.List.{List, [], ◌∷◌}
use lib.Dec.{leb, ltb}
use lib.ListN.{length, get_or, drop, drop_of_length-le}
use borrow.Author.Tests.{lt-ltb, le-ltb, ltb-true, ltb-false, le-leb, lt-leb, leb-true, leb-false}
use Rattle.signals.specs.Words.{date_of, signal_of}
use Rattle.signals.specs.Normal.{Accepted, Rising}
use Rattle.signals.specs.Passing.{held_value, is_next, at_date, after_date, passed_date}
use Rattle.signals.proofs.Operand.{At, Passed, at_pass, next_later, value_held, words_left}
use Rattle.signals.proofs.Normal.{accepted_start}
use Rattle.reading.specs.Dated.{count_by, dated_by}
use Rattle.reading.specs.Reading.{NEVER, next_date, step_past}
use Rattle.reading.specs.Along.{front_before, along_to, Sought}
use Rattle.reading.specs.declared.Step.{Step}
use Rattle.reading.proofs.ReadingFacts.{not_next, none_next}
use Rattle.reading.proofs.Counting.{next_in, next_left, passed_next, count_none, count_start, none_left, pass_count}

-- a word dated before k is passed and the others are gone along from there; where the next is not so dated, none is
pub along_word : (l : List ℕ) (p k : ℕ) → p < length l → next_date l p < k → along_to l (p + 1) k ≡ along_to l p k
unfolding along_to front_before
along_word l p k h lt =
    let before : date_of (get_or l p 0) < k = rw (next_in l p h) at lt in
    rw (words_left l p h, lt-ltb (date_of (get_or l p 0)) k before) (omega arith)

pub along_none : (l : List ℕ) (p k : ℕ) → k ≤ next_date l p → p ≡ along_to l p k
unfolding along_to front_before
along_none l p k le = go (ltb p (length l)) refl
  where
    go : (t : Bool) → ltb p (length l) ≡ t → p ≡ along_to l p k
    go true e =
        let h = ltb-true p (length l) e in
        let late : k ≤ date_of (get_or l p 0) = rw (next_in l p h) at le in
        rw (words_left l p h, le-ltb (date_of (get_or l p 0)) k late) (omega arith)
    go false e = rw (drop_of_length-le l (ltb-false p (length l) e)) (omega arith)

-- a turn of the loop: a word is left, it is passed, and what is gone along from there is the same
pub record Turned (l : List ℕ) (k p q : ℕ) : Type 0 where
  pub left : p < length l
  pub one : q ≡ p + 1
  pub on : along_to l q k ≡ along_to l p k

pub turn : (l : List ℕ) (k p next : ℕ) (r : Step) → next ≡ next_date l p → next < k → k ≤ NEVER → r ≡ step_past l p next
    → Turned l k p r.passed
turn l k p next r e lt fits q =
    let h : p < length l = next_left l p (omega arith) in
    let one : r.passed ≡ p + 1 = rw (q, e) (passed_next l p h) in
    record { left = h; one = one; on = rw one (along_word l p k h (omega arith)) }

pub found : (l : List ℕ) (k p next : ℕ) → next ≡ next_date l p → k ≤ next → p ≡ along_to l p k
found l k p next e le = along_none l p k (omega arith)

-- Where that comes to in an accepted list. In rising words those in front that are dated before k are all that are.
front_count : (k j : ℕ) (ws : List ℕ) → Rising j ws → front_before k ws ≡ count_by (k - 1) ws
unfolding front_before count_by
front_count k j [] r = refl
front_count k j (w ∷ ws) r = go (ltb (date_of w) k) refl (front_count k (date_of w) ws r.1)
  where
    go : (t : Bool) → ltb (date_of w) k ≡ t → front_before k ws ≡ count_by (k - 1) ws
        → cond t (suc (front_before k ws)) 0 ≡ cond (leb (date_of w) (k - 1)) (suc (count_by (k - 1) ws)) (count_by (k - 1) ws)
    go true e rest = rw (le-leb (date_of w) (k - 1) (omega (arith, ltb-true (date_of w) k e))) (ap suc rest)
    go false e rest =
        let late : k - 1 < date_of w = omega (arith, ltb-false (date_of w) k e, r.0) in
        rw (lt-leb (date_of w) (k - 1) late) (sym (count_none (k - 1) (date_of w) ws (omega arith) r.1))

-- those dated by k are those dated by an earlier date, and those dated by k of the rest
count_on_lem : (e k j : ℕ) (ws : List ℕ) → e ≤ k → Rising j ws → count_by k ws ≡ count_by e ws + count_by k (drop (count_by e ws) ws)
unfolding count_by
count_on_lem e k j [] le r = refl
count_on_lem e k j (w ∷ ws) le r = go (leb (date_of w) e) refl (count_on_lem e k (date_of w) ws le r.1)
  where
    go : (t : Bool) → leb (date_of w) e ≡ t → count_by k ws ≡ count_by e ws + count_by k (drop (count_by e ws) ws)
        → cond (leb (date_of w) k) (suc (count_by k ws)) (count_by k ws)
        ≡ cond t (suc (count_by e ws)) (count_by e ws) + count_by k (drop (cond t (suc (count_by e ws)) (count_by e ws)) (w ∷ ws))
    go true q rest = rw (le-leb (date_of w) k (omega (arith, leb-true (date_of w) e q))) (omega (arith, rest))
    go false q rest = rw (count_none e (date_of w) ws (omega (arith, leb-false (date_of w) e q)) r.1) (omega arith)

module _ (l : List ℕ) (z : Accepted l) where
  dated_on : (e k : ℕ) → e ≤ k → dated_by k l ≡ dated_by e l + count_by k (drop (dated_by e l) l)
  unfolding dated_by
  dated_on e k le = go l (accepted_start l z).ahead.rises (accepted_start l z).within
    where
      go : (l : List ℕ) → Rising 0 (drop 1 l) → 1 ≤ length l → dated_by k l ≡ dated_by e l + count_by k (drop (dated_by e l) l)
      go [] r h = absurd (omega arith)
      go (h ∷ ws) r _ = omega (arith, count_on_lem e k 0 ws le r)

  -- past the date after one: from the reader that has passed the words dated by it to the one that has passed those dated by the next
  pass_on_lem : (e : ℕ) → At (signal_of l) l (dated_by e l) e → Passed (signal_of l) l (dated_by e l) e (suc e)
  pass_on_lem e on =
      at_pass (signal_of l) l (dated_by e l) e (suc e) on (omega arith)
      (λ h. omega (arith, next_later (signal_of l) l (dated_by e l) e on h))

  passed_on : (e : ℕ) → At (signal_of l) l (dated_by e l) e → passed_date l (dated_by e l) (suc e) ≡ dated_by (suc e) l
  passed_on e on =
      none_left l (suc e) (passed_date l (dated_by e l) (suc e)) (pass_on_lem e on).on
      (pass_count l (suc e) (dated_by e l) (dated_by (suc e) l) (dated_on e (suc e) (omega arith)))

  at_dated : (e : ℕ) → At (signal_of l) l (dated_by e l) e
  at_dated zero =
      let start = accepted_start l z in
      subst (λ (p : ℕ). At (signal_of l) l p 0) (none_left l 0 1 start (count_start l 0 z)) start
  at_dated (suc e) = subst (λ (p : ℕ). At (signal_of l) l p (suc e)) (passed_on e (at_dated e)) (pass_on_lem e (at_dated e)).on

  -- from those dated before a date, those dated before another that is not earlier
  pub along_dated : (e k : ℕ) → e ≤ k → along_to l (dated_by (e - 1) l) k ≡ dated_by (k - 1) l
  unfolding along_to
  along_dated e k le =
      ap (λ (n : ℕ). dated_by (e - 1) l + n)
      (front_count k (e - 1) (drop (dated_by (e - 1) l) l) (at_dated (e - 1)).ahead.rises)
      ∙ sym (dated_on (e - 1) (k - 1) (omega arith))

  -- the first word is the only one dated by 0
  pub first_dated : 1 ≡ dated_by 0 l
  first_dated = none_left l 0 1 (accepted_start l z) (count_start l 0 z)

  -- no word is dated 0
  no_zero : (p k : ℕ) → At (signal_of l) l p k → is_next l p 0 ≡ false
  no_zero p k a = go (ltb p (length l)) refl
    where
      go : (t : Bool) → ltb p (length l) ≡ t → is_next l p 0 ≡ false
      go true e = not_next l p 0 (λ d. omega (arith, next_later (signal_of l) l p k a (ltb-true p (length l) e)))
      go false e = none_next l p 0 (ltb-false p (length l) e)

  -- past date k, the words dated before it being passed
  pub sought : (k : ℕ) → Sought l k (step_past l (dated_by (k - 1) l) k)
  unfolding passed_date at_date after_date
  sought zero =
      let on = at_dated 0 in
      let none : is_next l (dated_by 0 l) 0 ≡ false = no_zero (dated_by 0 l) 0 on in
      let first : Bool = held_value l (dated_by 0 l) in
      let held : first ≡ signal_of l 0 =
      sym (on.ahead.says 0 (omega arith) ∙ value_held first 0 (drop (dated_by 0 l) l) 0 on.ahead.rises (omega arith)) in
      (rw none refl, rw none held, rw none held)
  sought (suc e) =
      let on = at_dated e in
      let before : suc e - 1 ≡ e = omega arith in
      subst (λ (i : ℕ). Sought l (suc e) (step_past l (dated_by i l) (suc e))) (sym before)
      (passed_on e on, sym (pass_on_lem e on).held.at, sym (pass_on_lem e on).held.after)

  -- so it is from where the words dated before an earlier date were passed
  pub sought_from : (e k p q : ℕ) (r : Step) → e ≤ k → p ≡ dated_by (e - 1) l → q ≡ along_to l p k → r ≡ step_past l q k
      → (q ≡ dated_by (k - 1) l) × Sought l k r
  sought_from e k p q r le from along step =
      let there : q ≡ dated_by (k - 1) l = along ∙ ap (λ (i : ℕ). along_to l i k) from ∙ along_dated e k le in
      (there, subst (Sought l k) (sym (step ∙ ap (λ (i : ℕ). step_past l i k) there)) (sought k))
