-- What a reader holds of a list that it goes along: the next word, the value held, and how many words are passed.
use Prim.Native.Nat.{ℕ, ◌+◌, ◌/◌, ◌%◌, ◌<◌}
use native.Mathlib.Omega.{arith}
use native.Mathlib.Decide.{ℕ_discrete}
use mathlib.Core.Path.{◌≡◌, refl, sym, ◌∙◌, ap}
use mathlib.Core.Bool.{Bool, true, false, cond, ◌&&◌}
use mathlib.Core.List.{List}
use lib.Dec.{ltb, eqb}
use lib.ListN.{length, get_or}
use borrow.Author.Tests.{ltb-true, ltb-false, eq-eqb, ne_eqb}
use Rattle.signals.specs.Words.{value_at, value_after, date_of}
use Rattle.signals.specs.Passing.{held_value, is_next, passed_date}
use Rattle.reading.specs.Reading.{NEVER, next_date, held_on, step_past}
use Rattle.sources.specs.Sources.{next_word, cursor_at, start_of, On, past_on}
use Rattle.sources.specs.declared.Cursor.{Cursor}
use Rattle.sources.specs.declared.Passed.{Passed}
use Rattle.sources.proofs.SourceWords.{pass_on, no_word_left, pass_word, pass_none}
use Rattle.slices.specs.Bytes.{Words}
use native.Mathlib.Nat.{mod-eq_of_lt}
use Rattle.sources.proofs.Sourcing.{pass_is_step, held_after, first_held, next_word_date, date_of_left}

passed_few : (l : List ℕ) (i d : ℕ) → length l < 4294967296 → i < 4294967296 → passed_date l i d < 4294967296
unfolding passed_date is_next
passed_few l i d short few = go (ltb i (length l)) (eqb (date_of (get_or l i 0)) d) refl
  where
    go : (t u : Bool) → ltb i (length l) ≡ t → cond (t && u) (i + 1) i < 4294967296
    go true true e = let h = ltb-true i (length l) e in omega arith
    go true false e = few
    go false u e = few

pub on_start : (l : List ℕ) (c : Cursor) → c ≡ start_of l → On l c 1
unfolding cursor_at
on_start l c e = rw e (record { is = refl; held = first_held l; few = omega arith })

-- the low bits of a word have its values
low_at : (x : ℕ) → value_at (x % 4294967296) ≡ value_at x
unfolding value_at
low_at x = let e : x % 4294967296 / 2 % 2 ≡ x / 2 % 2 = omega arith in rw e

low_after : (x : ℕ) → value_after (x % 4294967296) ≡ value_after x
unfolding value_after
low_after x = let e : x % 4294967296 % 2 ≡ x % 2 = omega arith in rw e

-- a word of the date, or none
pub past_taken : (l : List ℕ) (c : Cursor) (d : ℕ) → c.date ≡ d
    → past_on l c d
    ≡ (record {
      step = record {
        before = value_after c.last;
        at = value_at c.word;
        after = value_after c.word;
        passed = c.passed % 4294967296 + 1;
      };
      next = cursor_at l (c.passed % 4294967296 + 1) c.word;
    })
unfolding past_on
past_taken l c d e = rw (eq-eqb c.date d e)

pub past_kept : (l : List ℕ) (c : Cursor) (d : ℕ) → (c.date ≡ d → ⊥)
    → past_on l c d ≡ (record { step = held_on (value_after c.last) c.passed; next = c })
unfolding past_on
past_kept l c d x = rw (ne_eqb c.date d x)

-- as the code makes it
pub started : (l : List ℕ) (w : ℕ) (c : Cursor) → w ≡ next_word l 0 → c ≡ cursor_at l 1 w → c ≡ start_of l
started l w c e f = rw e at f

pub taken_is : (l : List ℕ) (c next : Cursor) (d : ℕ) → c.date ≡ d → next ≡ cursor_at l (c.passed % 4294967296 + 1) c.word
    → ◌≡◌ {A = Passed} (record {
      step = record {
        before = value_after c.last;
        at = value_at c.word;
        after = value_after c.word;
        passed = c.passed % 4294967296 + 1;
      };
      next = next;
    }) (past_on l c d)
taken_is l c next d e f = rw f (sym (past_taken l c d e))

module _ (l : List ℕ) (small : Words l) (short : length l < 4294967296) (c : Cursor) (i : ℕ) (o : On l c i) where
  date_low : next_word l i / 4 % 4294967296 ≡ next_word l i / 4
  date_low = mod-eq_of_lt (go (ltb i (length l)) refl)
    where
      go : (t : Bool) → ltb i (length l) ≡ t → next_word l i / 4 < 4294967296
      go true e = let h = date_of_left l i small (ltb-true i (length l) e) in omega arith
      go false e = rw (no_word_left l i (ltb-false i (length l) e)) (omega arith)

  -- its date is the next word's, and the value held is the list's
  pub on_date : c.date ≡ next_date l i
  unfolding cursor_at
  on_date = ap (λ x. x.date) o.is ∙ date_low ∙ next_word_date l i

  pub on_held : value_after c.last ≡ held_value l i
  on_held = o.held

  -- past a date
  module _ (d : ℕ) (early : d < NEVER) (u : Passed) (e : u ≡ past_on l c d) where
    passed_is : c.passed ≡ i
    unfolding cursor_at
    passed_is = ap (λ x. x.passed) o.is

    at_is : value_at c.word ≡ value_at (next_word l i)
    unfolding cursor_at
    at_is = ap (λ x. value_at x.word) o.is ∙ low_at (next_word l i)

    after_is : value_after c.word ≡ value_after (next_word l i)
    unfolding cursor_at
    after_is = ap (λ x. value_after x.word) o.is ∙ low_after (next_word l i)

    -- the step, and the reader past it
    record Both : Type 0 where
      step_is : u.step ≡ pass_on (next_word l i) (held_value l i) i d
      next_is : u.next ≡ cursor_at l u.step.passed u.next.last
      held_is : value_after u.next.last ≡ u.step.after

    on_taken : next_date l i ≡ d → Both
    unfolding cursor_at
    on_taken q =
        let r = e ∙ past_taken l c d (on_date ∙ q) in
        record {
          step_is = ap (λ x. x.step) r
              ∙ rw (on_held, at_is, after_is, passed_is) (pass_word (next_word l i) (held_value l i) i d (next_word_date l i ∙ q));
          next_is = rw r refl;
          held_is = rw r refl;
        }

    on_kept : (next_date l i ≡ d → ⊥) → Both
    on_kept n =
        let r = e ∙ past_kept l c d (λ z. n (sym on_date ∙ z)) in
        let k : held_on (value_after c.last) c.passed ≡ held_on (held_value l i) i = rw (on_held, passed_is) in
        record {
          step_is = ap (λ x. x.step) r ∙ k ∙ pass_none (next_word l i) (held_value l i) i d (λ z. n (sym (next_word_date l i) ∙ z));
          next_is = rw r (o.is ∙ ap (λ n. cursor_at l n c.last) (sym passed_is));
          held_is = rw r refl;
        }

    both : Both
    both = go (ℕ_discrete (next_date l i) d)
      where
        go : Dec (next_date l i ≡ d) → Both
        go (yes q) = on_taken q
        go (no n) = on_kept n

    pub on_step : u.step ≡ step_past l i d
    on_step = both.step_is ∙ pass_is_step l i d early o.few

    pub on_next : On l u.next u.step.passed
    on_next =
        record {
          is = both.next_is;
          held = both.held_is ∙ rw on_step (sym (held_after l i d));
          few = rw on_step (passed_few l i d short o.few);
        }
