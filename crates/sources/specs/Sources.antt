-- Mirrored: The list that a source names in the memory that it stands in, the next of its words, passing a date by it, and slots of the
-- work area.
use Rattle.std.specs.Prelude.{ℕ, ◌+◌, ◌-◌, ◌/◌, ◌%◌, ◌<◌, min, ◌≡◌, Bool, true, cond, ◌||◌, List, ◌++◌, leb, ltb, eqb, length, take}
use Rattle.std.specs.Prelude.{drop, get_or}
use Rattle.slices.specs.Bytes.{low32, words_in}
use Rattle.signals.specs.Words.{value_at, value_after}
use Rattle.signals.specs.Passing.{held_value}
use Rattle.reading.specs.Reading.{held_on}
use Rattle.sources.specs.declared.Memory.{Memory}
use Rattle.sources.specs.declared.Memory.TheVariants.{Sheet, Work, Left, Right}
use Rattle.sources.specs.declared.Source.{Source}
use Rattle.sources.specs.declared.Cursor.{Cursor}
use Rattle.sources.specs.declared.Passed.{Passed}

-- stands for the next word where none is left: 4 times the date that does
abbrev pub no_word : ℕ
no_word = 17179869180

unfoldable pub next_word : List ℕ → ℕ → ℕ
next_word l passed = cond (ltb passed (length l)) (get_or l passed 0) no_word

-- the word whose bytes begin at a place of a sheet
unfoldable pub sheet_word : List ℕ → ℕ → ℕ
sheet_word sheet at = cond (ltb (length sheet) (at + 4)) no_word (low32 (drop at sheet))

-- the words of a sheet from a byte on, so many, as far as they are whole
unfoldable pub list_on_sheet : List ℕ → ℕ → ℕ → List ℕ
list_on_sheet sheet at count = words_in (min count ((length sheet - at) / 4)) (drop at sheet)

abbrev pub list_from : Memory → List ℕ → List ℕ → List ℕ → List ℕ → ℕ → ℕ → List ℕ
list_from Sheet sheet left right work at count = list_on_sheet sheet at count
list_from Work sheet left right work at count = take count (drop at work)
list_from Left sheet left right work at count = take count (drop at left)
list_from Right sheet left right work at count = take count (drop at right)

-- the list that a source names
abbrev pub list_at : List ℕ → List ℕ → List ℕ → List ℕ → Source → List ℕ
list_at sheet left right work s = list_from s.memory sheet left right work s.at s.count

-- the reader of a list of which so many words are passed, the last of them given; past the first word
unfoldable pub cursor_at : List ℕ → ℕ → ℕ → Cursor
cursor_at l passed last =
    record { word = next_word l passed % 4294967296; date = next_word l passed / 4 % 4294967296; last = last; passed = passed }

abbrev pub start_of : List ℕ → Cursor
start_of l = cursor_at l 1 (next_word l 0)

-- a reader by value stands past so many words of a list
pub record On (l : List ℕ) (c : Cursor) (i : ℕ) : Type 0 where
  pub is : c ≡ cursor_at l i c.last
  pub held : value_after c.last ≡ held_value l i
  pub few : i < 4294967296

-- past a date by the reader: a word of that date is passed
unfoldable pub past_on : List ℕ → Cursor → ℕ → Passed
past_on l c date =
    cond (eqb c.date date)
    (record {
      step = record {
        before = value_after c.last;
        at = value_at c.word;
        after = value_after c.word;
        passed = c.passed % 4294967296 + 1;
      };
      next = cursor_at l (c.passed % 4294967296 + 1) c.word;
    })
    (record { step = held_on (value_after c.last) c.passed; next = c })

-- none of the places that the list claims is among `room` words of the work area from `at` on
abbrev pub apart_in : Memory → ℕ → ℕ → ℕ → ℕ → Bool
apart_in Sheet from count at room = true
apart_in Work from count at room = leb (from + count) at || leb (at + room) from
apart_in Left from count at room = true
apart_in Right from count at room = true

abbrev pub apart_from : Source → ℕ → ℕ → Bool
apart_from s at room = apart_in s.memory s.at s.count at room

-- the slot of `room` words of the work area from `at` on, and the work area with other words in it
abbrev pub slot_in : List ℕ → ℕ → ℕ → List ℕ
slot_in work at room = take room (drop at work)

abbrev pub with_slot : List ℕ → ℕ → ℕ → List ℕ → List ℕ
with_slot work at room slot = take at work ++ (slot ++ drop (at + room) work)
