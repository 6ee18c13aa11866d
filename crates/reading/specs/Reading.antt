-- Mirrored: Reading along a list's words: the next word's date, and what passing a date gives. Tied to what is believed by `ReaderSays`.
use Rattle.std.specs.Prelude.{ℕ, Bool, cond, List, ltb, length, get_or}
use Rattle.signals.specs.Words.{date_of}
use Rattle.signals.specs.Passing.{held_value, at_date, after_date, passed_date}
use Rattle.reading.specs.declared.Step.{Step}

-- The date where no word is left: above every sum of a date and a length.
abbrev pub NEVER : ℕ
NEVER = 4294967295

-- the date of the next word
unfoldable pub next_date : List ℕ → ℕ → ℕ
next_date l passed = cond (ltb passed (length l)) (date_of (get_or l passed 0)) NEVER

-- past a date without a word: the value held before it goes on
abbrev pub held_on : Bool → ℕ → Step
held_on before passed = record { before = before; at = before; after = before; passed = passed }

-- past a date that is not after the next word's: the values before, at and after it, and the new number passed
abbrev pub step_past : List ℕ → ℕ → ℕ → Step
step_past l passed date =
    record {
      before = held_value l passed;
      at = at_date l passed date;
      after = after_date l passed date;
      passed = passed_date l passed date;
    }
