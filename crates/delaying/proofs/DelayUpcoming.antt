-- The date that a delay looks at next: after the date passed, not after the next word's nor the pending one, within the horizon.
use Prim.Native.Nat.{ℕ, ◌≤◌, ◌<◌}
use native.Mathlib.Omega.{arith}
use mathlib.Core.Path.{◌≡◌, refl}
use mathlib.Core.Bool.{Bool, true, false, cond, ◌&&◌}
use mathlib.Core.List.{List}
use lib.Dec.{ltb}
use lib.ListN.{length, get_or}
use borrow.Author.Tests.{ltb-true, ltb-false, lt-ltb, le-ltb}
use Rattle.signals.specs.Moment.{M, gap}
use Rattle.signals.specs.Signal.{Signal}
use Rattle.signals.specs.Words.{date_of, last_date}
use Rattle.signals.specs.Quantified.{Up, Down}
use Rattle.signals.proofs.Truth.{not_both_lem}
use Rattle.signals.proofs.Operand.{At, next_later}
use Rattle.signals.proofs.Normal.{next_within}
use Rattle.reading.specs.Reading.{NEVER, next_date}
use Rattle.timing.specs.declared.Timer.{Timer}
use Rattle.timing.proofs.DelayTiming.{moment_of, Timed, timed_ahead}

-- the next date to look at: that of the next word or of the pending change, NEVER when there is neither
unfoldable pub upcoming_date : ℕ → Timer → ℕ
upcoming_date next s = cond (s.waiting && ltb s.due.0 next) s.due.0 next

module _ (next : ℕ) (s : Timer) where
  pub upcoming_due : s.waiting ≡ true → s.due.0 < next → upcoming_date next s ≡ s.due.0
  unfolding upcoming_date
  upcoming_due w h = rw (w, lt-ltb s.due.0 next h)

  pub upcoming_word : s.waiting ≡ true → next ≤ s.due.0 → upcoming_date next s ≡ next
  unfolding upcoming_date
  upcoming_word w h = rw (w, le-ltb s.due.0 next h)

  pub upcoming_none : s.waiting ≡ false → upcoming_date next s ≡ next
  unfolding upcoming_date
  upcoming_none w = rw w

pub next_in : (l : List ℕ) (p : ℕ) → p < length l → next_date l p ≡ date_of (get_or l p 0)
unfolding next_date
next_in l p h = rw (lt-ltb p (length l) h)

pub next_end : (l : List ℕ) (p : ℕ) → length l ≤ p → next_date l p ≡ NEVER
unfolding next_date
next_end l p h = rw (le-ltb p (length l) h)

pub record Upcoming (l : List ℕ) (p : ℕ) (s : Timer) (k n e : ℕ) : Type 0 where
  pub later : k < e
  pub by_word : p < length l → e ≤ date_of (get_or l p 0)
  pub by_due : Up s.waiting → e ≤ s.due.0
  pub within : e < NEVER → e ≤ n
  pub none : NEVER ≤ e → (length l ≤ p) × Down s.waiting

-- what is told of the next word's date
record NextWord (l : List ℕ) (p k n e : ℕ) : Type 0 where
  later : k < e
  by_word : p < length l → e ≤ date_of (get_or l p 0)
  within : e < NEVER → e ≤ n
  none : NEVER ≤ e → length l ≤ p

next_word_lem : (f : Signal) (l : List ℕ) (p k n : ℕ) → At f l p k → k ≤ n → last_date l ≤ M → last_date l ≤ n → n < NEVER
    → NextWord l p k n (next_date l p)
next_word_lem f l p k n a le early far small = go (ltb p (length l)) refl
  where
    go : (b : Bool) → ltb p (length l) ≡ b → NextWord l p k n (next_date l p)
    go true q =
        let h = ltb-true p (length l) q in
        let e = next_in l p h in
        let w = next_within f l p k a h in
        record {
          later = omega (arith, next_later f l p k a h);
          by_word = λ i. omega arith;
          within = λ i. omega arith;
          none = λ i. absurd (omega arith);
        }
    go false q =
        let h = ltb-false p (length l) q in
        let e = next_end l p h in
        record { later = omega arith; by_word = λ i. absurd (omega arith); within = λ i. absurd (omega arith); none = λ i. h }

module _ (f g E : Signal) (l : List ℕ) (p k n : ℕ) (s : Timer) (a : At f l p k) (h : Timed g E n s (gap k)) (le : k ≤ n)
    (early : last_date l ≤ M) (far : last_date l ≤ n) (small : n < NEVER) where
  due_later : Up s.waiting → k < s.due.0
  due_later w = go s.at (timed_ahead g E n s (gap k) h w).0
    where
      go : (x : Bool) → gap k < moment_of x s.due.0 → k < s.due.0
      go true q = omega arith
      go false q = omega arith

  pub upcoming_is : Upcoming l p s k n (upcoming_date (next_date l p) s)
  upcoming_is = go s.waiting refl (ltb s.due.0 (next_date l p)) refl
    where
      w : NextWord l p k n (next_date l p)
      w = next_word_lem f l p k n a le early far small

      go : (x : Bool) → s.waiting ≡ x → (y : Bool) → ltb s.due.0 (next_date l p) ≡ y
          → Upcoming l p s k n (upcoming_date (next_date l p) s)
      go true q true r =
          let lt = ltb-true s.due.0 (next_date l p) r in
          let e = upcoming_due (next_date l p) s q lt in
          let bound = (timed_ahead g E n s (gap k) h q).1 in
          record {
            later = omega (arith, due_later q);
            by_word = λ i. omega (arith, w.by_word i);
            by_due = λ i. omega arith;
            within = λ i. omega arith;
            none = λ i. absurd (omega arith);
          }
      go true q false r =
          let ge = ltb-false s.due.0 (next_date l p) r in
          let e = upcoming_word (next_date l p) s q ge in
          let bound = (timed_ahead g E n s (gap k) h q).1 in
          record {
            later = omega (arith, w.later);
            by_word = λ i. omega (arith, w.by_word i);
            by_due = λ i. omega arith;
            within = λ i. omega arith;
            none = λ i. absurd (omega arith);
          }
      go false q y r =
          let e = upcoming_none (next_date l p) s q in
          record {
            later = omega (arith, w.later);
            by_word = λ i. omega (arith, w.by_word i);
            by_due = λ i. not_both_lem i q;
            within = λ i. omega (arith, w.within (omega arith));
            none = λ i. (w.none (omega arith), q);
          }
