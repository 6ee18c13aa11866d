-- Mirrored: the merge of two lists date by date, for every two lists, and its answer in a slot, also of the work area.
use Rattle.std.specs.Prelude.{ℕ, ◌+◌, ◌≤◌, ◌<◌, min, ◌≡◌, Bool, true, false, ◌&&◌, List, leb, length, set}
use Rattle.signals.specs.Signal.{Table, num}
use Rattle.signals.specs.Words.{most_words}
use Rattle.signals.specs.Passing.{held_value, at_date, after_date, passed_date}
use Rattle.reading.specs.Reading.{NEVER, next_date}
use Rattle.building.specs.Building.{begun, emitted, emitted_in}
use Rattle.building.specs.Slots.{made_answer}
use Rattle.building.specs.declared.Made.{Made}
use Rattle.building.specs.declared.SlotAnswer.{SlotAnswer}
use Rattle.building.specs.declared.SlotAnswer.TheVariants.{NotBegun}
use Rattle.showing.specs.Showing.{first_shown, date_shown}
use Rattle.showing.specs.declared.Operation.{Operation}
use Rattle.showing.specs.declared.Shown.{Shown}
use Rattle.sources.specs.Sources.{list_at, apart_from, slot_in, with_slot}
use Rattle.sources.specs.declared.Source.{Source}

-- how far a merge is: the slot, what is built there, the bit carried, and how many words of either list are passed
pub record State : Type 0 where
  pub slot : List ℕ
  pub made : Made
  pub bit : Bool
  pub first : ℕ
  pub second : ℕ

-- the next date of either list
unfoldable pub date_ahead : List ℕ → List ℕ → State → ℕ
date_ahead a b s = min (next_date a s.first) (next_date b s.second)

-- what date d shows
abbrev pub shown_at : Operation → Table → List ℕ → List ℕ → State → ℕ → Shown
shown_at o table a b s d =
    date_shown o table s.bit (held_value a s.first) (at_date a s.first d) (after_date a s.first d) (at_date b s.second d)
    (after_date b s.second d)

-- gap 0 in a slot, and past date d
unfoldable pub begun_in : Operation → Table → List ℕ → List ℕ → List ℕ → State
begun_in o table a b slot =
    record {
      slot = set slot 0 (num (first_shown o table (held_value a 1) (held_value b 1)).after);
      made = begun (first_shown o table (held_value a 1) (held_value b 1)).after;
      bit = (first_shown o table (held_value a 1) (held_value b 1)).carried;
      first = 1;
      second = 1;
    }

unfoldable pub past_date : Operation → Table → List ℕ → List ℕ → State → ℕ → State
past_date o table a b s d =
    record {
      slot = emitted_in s.slot s.made d (shown_at o table a b s d).at (shown_at o table a b s d).after;
      made = emitted s.made d (shown_at o table a b s d).at (shown_at o table a b s d).after;
      bit = (shown_at o table a b s d).carried;
      first = passed_date a s.first d;
      second = passed_date b s.second d;
    }

-- From a state on, date by date until no word is left, the merge ends with this slot and this answer built in it.
pub data Merges (o : Operation) (table : Table) (a b slot : List ℕ) (made : Made) : State → Type 0 where
  done : {s : State} → NEVER ≤ date_ahead a b s → s.slot ≡ slot → s.made ≡ made → Merges o table a b slot made s
  turn : {s : State} → date_ahead a b s < NEVER → Merges o table a b slot made (past_date o table a b s (date_ahead a b s)) →
      Merges o table a b slot made s

-- The merge of two lists in a slot: what is built, and the slot after it.
abbrev pub BuiltIn : Operation → Table → List ℕ → List ℕ → List ℕ → Made → List ℕ → Type 0
BuiltIn o table l m slot made after = Merges o table l m after made (begun_in o table l m slot)

-- in the slot of `room` words of the work area from `at` on: what is built, and the work area after it
abbrev pub BuiltFrom : Operation → Table → List ℕ → List ℕ → List ℕ → ℕ → ℕ → Made → List ℕ → Type 0
BuiltFrom o table l m work at room made after =
    (slot : List ℕ) × BuiltIn o table l m (slot_in work at room) made slot × (after ≡ with_slot work at room slot)

-- of two sources
abbrev pub BuiltAt : Operation → Table → List ℕ → List ℕ → List ℕ → List ℕ → Source → Source → ℕ → ℕ → Made → List ℕ → Type 0
BuiltAt o table sheet left right work a b at room made after =
    BuiltFrom o table (list_at sheet left right work a) (list_at sheet left right work b) work at room made after

-- both lists are apart from the slot, and it fits
abbrev pub MayMerge : Source → Source → ℕ → ℕ → ℕ → Type 0
MayMerge a b at room n = (apart_from a at room ≡ true) × (apart_from b at room ≡ true) × (at + room ≤ n)

unfoldable pub may_merge : Source → Source → ℕ → ℕ → Bool
may_merge a b at n = apart_from a at most_words && (apart_from b at most_words && leb (at + most_words) n)

-- the whole call, in a slot of 256 words: all is as it was where it may not begin
pub record MergedAt (o : Operation) (table : Table) (sheet left right work : List ℕ) (a b : Source) (at : ℕ) (answer : SlotAnswer)
    (after : List ℕ) : Type 0 where
  pub refused : may_merge a b at (length work) ≡ false → (answer ≡ NotBegun) × (after ≡ work)
  pub built : may_merge a b at (length work) ≡ true
      → (made : Made) × BuiltAt o table sheet left right work a b at most_words made after × (answer ≡ made_answer made)
