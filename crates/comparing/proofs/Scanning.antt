-- The scan's loop: its readers go along the lists, and what is met from here on is met from where it began.
use Prim.Native.Nat.{ℕ, ◌+◌, ◌-◌, ◌≤◌, ◌<◌, min}
use native.Mathlib.Omega.{arith}
use mathlib.Core.Path.{◌≡◌, refl, sym, ap, subst, ◌∙◌}
use mathlib.Core.Logic.{⊎_elim}
use mathlib.Core.Bool.{Bool, true, false, cond}
use mathlib.Core.List.{List}
use lib.ListN.{length}
use Rattle.slices.specs.Bytes.{Words}
use Rattle.signals.specs.Words.{value_after}
use Rattle.signals.specs.Passing.{held_value, is_next, at_date, passed_date}
use Rattle.reading.specs.Reading.{NEVER, next_date, step_past}
use Rattle.reading.proofs.Counting.{next_left, passed_next}
use Rattle.sources.specs.Sources.{On, past_on}
use Rattle.sources.specs.declared.Cursor.{Cursor}
use Rattle.sources.specs.declared.Passed.{Passed}
use Rattle.sources.proofs.Going.{on_date, on_held, on_step, on_next}
use Rattle.comparing.specs.declared.Scan.{Scan}
use Rattle.comparing.specs.declared.Met.{Met}
use Rattle.comparing.specs.declared.Met.TheVariants.{Gap, Instant, Nothing}
use Rattle.comparing.specs.Finding.{sought_by, next_of, Standing, Quiet, Meets, MeetsFrom, in_gap, ended, at_instant, turn}
use Rattle.comparing.proofs.Watching.{one_of}
use Rattle.comparing.proofs.FirstFound.{passed_is}

passed_le : (l : List ℕ) (i d : ℕ) → i ≤ passed_date l i d
unfolding passed_date
passed_le l i d = go (is_next l i d)
  where
    go : (t : Bool) → i ≤ cond t (i + 1) i
    go true = omega arith
    go false = omega arith

-- at the next date, if it is a word's, that word is passed
passed_one : (l : List ℕ) (i d : ℕ) → d < NEVER → d ≡ next_date l i → (i < length l) × (passed_date l i d ≡ i + 1)
passed_one l i d small e =
    let h : i < length l = next_left l i (omega arith) in
    (h, rw e (passed_next l i h))

-- where the loop stands: what is met from here on is met from where the scan began
pub record Scanning (both failing : Bool) (a b : List ℕ) (from : Scan) (last : ℕ) (x y : Cursor) : Type 0 where
  pub short_a : length a < 4294967296
  pub short_b : length b < 4294967296
  pub words_a : Words a
  pub words_b : Words b
  pub left : On a x x.passed
  pub right : On b y y.passed
  pub on : (r : Met) → Meets both failing a b last x.passed y.passed r → MeetsFrom both failing a b from r

pub scan_start : (both failing : Bool) (a b : List ℕ) (from : Scan) → length a < 4294967296 → length b < 4294967296 → Words a → Words b
    → Standing a b from → Scanning both failing a b from from.after from.left from.right
scan_start both failing a b from short_a short_b words_a words_b h =
    record {
      short_a = short_a;
      short_b = short_b;
      words_a = words_a;
      words_b = words_b;
      left = h.left;
      right = h.right;
      on = λ r m. m;
    }

module _ {both failing : Bool} {a b : List ℕ} {from : Scan} {last : ℕ} {x y : Cursor} {v : Bool}
    (w : Scanning both failing a b from last x y) (e : v ≡ sought_by both failing (value_after x.last) (value_after y.last)) where
  held_sought : sought_by both failing (held_value a x.passed) (held_value b y.passed) ≡ v
  held_sought =
      rw
      (← on_held a w.words_a w.short_a x x.passed w.left, ← on_held b w.words_b w.short_b y y.passed w.right)
      (sym e)

  pub gap_met : v ≡ true → MeetsFrom both failing a b from (Gap (record { after = last; left = x; right = y }))
  gap_met t = w.on _ (in_gap (held_sought ∙ t) (record { date = refl; left = w.left; right = w.right }))

  module _ (quiet : v ≡ false) (d : ℕ) (m : d ≡ min x.date y.date) where
    next_is : d ≡ next_of a b x.passed y.passed
    unfolding next_of
    next_is =
        rw
        (← on_date a w.words_a w.short_a x x.passed w.left, ← on_date b w.words_b w.short_b y y.passed w.right)
        m

    pub none_met : NEVER ≤ d → MeetsFrom both failing a b from Nothing
    none_met h = w.on Nothing (ended (held_sought ∙ quiet) (omega (arith, next_is)))

    module _ (s t : Passed) (small : d < NEVER) (es : s ≡ past_on a x d) (et : t ≡ past_on b y d) where
      quiet_is : Quiet both failing a b x.passed y.passed d
      quiet_is = record { held = held_sought ∙ quiet; next = next_is; left = small }

      step_a : s.step ≡ step_past a x.passed d
      step_a = on_step a w.words_a w.short_a x x.passed w.left d small s es

      step_b : t.step ≡ step_past b y.passed d
      step_b = on_step b w.words_b w.short_b y y.passed w.right d small t et

      next_a : On a s.next s.step.passed
      next_a = on_next a w.words_a w.short_a x x.passed w.left d small s es

      next_b : On b t.next t.step.passed
      next_b = on_next b w.words_b w.short_b y y.passed w.right d small t et

      on_a : On a s.next (passed_date a x.passed d)
      on_a = subst (On a s.next) (ap (λ z. z.passed) step_a) next_a

      on_b : On b t.next (passed_date b y.passed d)
      on_b = subst (On b t.next) (ap (λ z. z.passed) step_b) next_b

      passed_a : s.next.passed ≡ passed_date a x.passed d
      passed_a = passed_is a s.next _ on_a

      passed_b : t.next.passed ≡ passed_date b y.passed d
      passed_b = passed_is b t.next _ on_b

      at_sought : sought_by both failing (at_date a x.passed d) (at_date b y.passed d)
          ≡ sought_by both failing s.step.at t.step.at
      at_sought = rw (step_a, step_b)

      pub instant_met : (u : Bool) → u ≡ sought_by both failing s.step.at t.step.at → u ≡ true
          → MeetsFrom both failing a b from (Instant (record { after = d; left = s.next; right = t.next }))
      instant_met u h i = w.on _ (at_instant quiet_is (at_sought ∙ sym h ∙ i) (record { date = refl; left = on_a; right = on_b }))

      pub scan_on : (u : Bool) → u ≡ sought_by both failing s.step.at t.step.at → u ≡ false
          → Scanning both failing a b from d s.next t.next
      scan_on u h i =
          record {
            short_a = w.short_a;
            short_b = w.short_b;
            words_a = w.words_a;
            words_b = w.words_b;
            left = subst (On a s.next) (sym passed_a) on_a;
            right = subst (On b t.next) (sym passed_b) on_b;
            on = λ r m. w.on r (turn quiet_is (at_sought ∙ sym h ∙ i) (rw (passed_a, passed_b) at m));
          }

      -- a word is passed
      pub falls : (length a - s.next.passed) + (length b - t.next.passed) < (length a - x.passed) + (length b - y.passed)
      falls =
          rw
          (passed_a, passed_b)
          (⊎_elim
          (λ n. omega (arith, passed_one a x.passed d small n, passed_le b y.passed d))
          (λ n. omega (arith, passed_one b y.passed d small n, passed_le a x.passed d))
          (one_of a b x.passed y.passed d next_is))
