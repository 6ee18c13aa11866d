-- A reader by value that passes the words of a list in turn, each at its date.
use Prim.Native.Nat.{ℕ, ◌+◌, ◌≤◌, ◌<◌}
use native.Mathlib.Omega.{arith}
use mathlib.Core.Path.{◌≡◌, refl, ◌∙◌, ap}
use mathlib.Core.Bool.{Bool, true, false, cond}
use mathlib.Core.List.{List}
use lib.Dec.{ltb}
use lib.ListN.{length, get_or}
use borrow.Author.Tests.{ltb-true, ltb-false, lt-ltb, eq-eqb}
use Rattle.signals.specs.Words.{date_of, value_at, value_after}
use Rattle.signals.specs.Passing.{held_value, is_next, at_date, after_date, passed_date}
use Rattle.signals.proofs.WordFacts.{date_le}
use Rattle.reading.specs.Reading.{NEVER, next_date, step_past}
use Rattle.reading.specs.declared.Step.{Step}
use Rattle.sources.specs.Sources.{past_on}
use Rattle.sources.specs.declared.Cursor.{Cursor}
use Rattle.sources.specs.declared.Passed.{Passed}
use Rattle.sources.proofs.Readers.{Reading, reads_date, reads_step, reads_passed, reads_on}

-- past the date of the next word
at_word : (l : List ℕ) (p : ℕ) → p < length l → step_past l p (date_of (get_or l p 0))
    ≡ (record { before = held_value l p; at = value_at (get_or l p 0); after = value_after (get_or l p 0); passed = p + 1 })
unfolding at_date after_date passed_date is_next
at_word l p h = rw (lt-ltb p (length l) h, eq-eqb (date_of (get_or l p 0)) (date_of (get_or l p 0)) refl)

module _ (l : List ℕ) (x : Cursor) (g : Reading l x) where
  abbrev word : ℕ
  word = get_or l x.passed 0

  -- its date is below NEVER exactly where a word is left, and is then that word's
  pub word_left : x.date < NEVER → (x.passed < length l) × (x.date ≡ date_of word)
  unfolding next_date
  word_left h = go (ltb x.passed (length l)) refl (reads_date l x g)
    where
      go : (t : Bool) → ltb x.passed (length l) ≡ t → x.date ≡ cond t (date_of word) NEVER
          → (x.passed < length l) × (x.date ≡ date_of word)
      go true e q = (ltb-true x.passed (length l) e, q)
      go false e q = absurd (omega (arith, q, h))

  pub none_left : NEVER ≤ x.date → length l ≤ x.passed
  unfolding next_date
  none_left h = go (ltb x.passed (length l)) refl (reads_date l x g)
    where
      go : (t : Bool) → ltb x.passed (length l) ≡ t → x.date ≡ cond t (date_of word) NEVER → length l ≤ x.passed
      go true e q = absurd (omega (arith, q, h, date_le word (g.small x.passed)))
      go false e q = ltb-false x.passed (length l) e

  module _ (early : x.date < NEVER) (u : Passed) (e : u ≡ past_on l x x.date) where
    pub word_step : u.step
        ≡ (record { before = held_value l x.passed; at = value_at word; after = value_after word; passed = x.passed + 1 })
    word_step =
        reads_step l x g x.date early u e ∙ ap (step_past l x.passed) (word_left early).1
        ∙ at_word l x.passed (word_left early).0

    pub word_passed : u.next.passed ≡ x.passed + 1
    word_passed = reads_passed l x g x.date early u e ∙ ap (λ (s : Step). s.passed) word_step

    pub word_on : Reading l u.next
    word_on = reads_on l x g x.date early u e
