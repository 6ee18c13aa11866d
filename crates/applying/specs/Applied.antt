-- Mirrored: What a part's operation makes of its operands' lists, whatever they are, in some slot; and the operation on lists where they
-- stand, in a slot of the work area.
use Rattle.std.specs.Prelude.{ℕ, ◌/◌, ◌%◌, ◌≤◌, ◌<◌, ◌≡◌, Bool, true, false, cond, ◌||◌, List, [], ◌∷◌, leb, eqb, length, take}
use Rattle.signals.specs.Moment.{M}
use Rattle.signals.specs.Words.{most_words}
use Rattle.signals.specs.Answers.{count_in}
use Rattle.signals.specs.declared.Written.{Written}
use Rattle.signals.specs.declared.Written.TheVariants.{Refused}
use Rattle.building.specs.Slots.{made_answer}
use Rattle.building.specs.declared.Made.{Made}
use Rattle.sources.specs.Sources.{list_at, slot_in, with_slot}
use Rattle.sources.specs.declared.Source.{Source}
use Rattle.merging.specs.Merging.{Merges, begun_in, may_merge}
use Rattle.lent_slots.specs.Lent.{Engine}
use Rattle.delay_parts.specs.DelayAt.{delay_engine}
use Rattle.pulsing.specs.Turns.{pulse_engine}
use Rattle.grammar.specs.Kinds as kinds
use Rattle.code_words.specs.CodeWords.{constants}
use Rattle.applying.specs.PartCalls.{part_answer}
use Rattle.applying.specs.Merges.{operation_of, table_for}

-- a merge in a slot that held other words: its numbered answer, and the slot after it
pub record MergedIn (kind : ℕ) (a b before slot : List ℕ) (answer : Written) : Type 0 where
  pub made : Made
  pub merges : Merges (operation_of kind) (table_for kind) a b slot made (begun_in (operation_of kind) (table_for kind) a b before)
  pub answer_is : answer ≡ part_answer (made_answer made)

-- a timer's engine, by its kind
unfoldable pub engine_of : ℕ → ℕ → Engine
engine_of kind d =
    cond (eqb kind kinds.TON || eqb kind kinds.TOF) (delay_engine (eqb kind kinds.TON) d) (pulse_engine d)

-- a timer: where its length is over M, 5, and the slot is as it was
pub record TimedInto (engine : Engine) (d : ℕ) (a before slot : List ℕ) (answer : Written) : Type 0 where
  pub past_M : M < d → (answer ≡ Refused 5) × (slot ≡ before)
  pub ran : d ≤ M → (answer ≡ part_answer (made_answer (engine a before).made)) × (slot ≡ (engine a before).slot)

-- NOT or an edge
abbrev pub edged : ℕ → Bool
edged k = (eqb k kinds.NOT || eqb k kinds.RISING) || eqb k kinds.FALLING

-- by the kind: of two operands; of one, as a merge with the list that is always down; or a timer
abbrev pub AppliedInBy : Bool → Bool → ℕ → List ℕ → List ℕ → List ℕ → List ℕ → Written → Type 0
AppliedInBy true edge w a b before slot answer = MergedIn (w % 16) a b before slot answer
AppliedInBy false true w a b before slot answer = MergedIn (w % 16) a (0 ∷ []) before slot answer
AppliedInBy false false w a b before slot answer =
    TimedInto (engine_of (w % 16) (w / 16 % 4294967296)) (w / 16 % 4294967296) a before slot answer

abbrev pub AppliedIn : ℕ → List ℕ → List ℕ → List ℕ → List ℕ → Written → Type 0
AppliedIn w a b before slot answer = AppliedInBy (leb kinds.AND (w % 16)) (edged (w % 16)) w a b before slot answer

-- in some slot of 256 words: its list is at the slot's front
pub record Applied (w : ℕ) (a b : List ℕ) (answer : Written) (l : List ℕ) : Type 0 where
  pub before : List ℕ
  pub slot : List ℕ
  pub wide : length before ≡ most_words
  pub applied : AppliedIn w a b before slot answer
  pub list_is : l ≡ take (count_in answer) slot

-- the merge and the timer on lists where they stand, in the slot
pub record MergePart (kind : ℕ) (sheet work : List ℕ) (a b : Source) (at : ℕ) (answer : Written) (after : List ℕ) : Type 0 where
  pub slot : List ℕ
  pub after_is : after ≡ with_slot work at most_words slot
  pub short : count_in answer ≤ most_words
  pub applied :
      MergedIn kind (list_at sheet constants constants work a) (list_at sheet constants constants work b) (slot_in work at most_words) slot
      answer

pub record TimerPart (w : ℕ) (sheet work : List ℕ) (a : Source) (at : ℕ) (answer : Written) (after : List ℕ) : Type 0 where
  pub slot : List ℕ
  pub after_is : after ≡ with_slot work at most_words slot
  pub short : count_in answer ≤ most_words
  pub applied :
      TimedInto (engine_of (w % 16) (w / 16 % 4294967296)) (w / 16 % 4294967296) (list_at sheet constants constants work a)
      (slot_in work at most_words) slot answer

-- the operation in the slot, and the whole work area after it
pub record PartMade (w : ℕ) (sheet work : List ℕ) (a b : Source) (at : ℕ) (answer : Written) (after : List ℕ) : Type 0 where
  pub slot : List ℕ
  pub after_is : after ≡ with_slot work at most_words slot
  pub short : count_in answer ≤ most_words
  pub applied :
      AppliedIn w (list_at sheet constants constants work a) (list_at sheet constants constants work b) (slot_in work at most_words)
      slot answer

-- The operation on lists where they stand, in the slot of the work area from `at` on: 5 and nothing written where that may not be.
pub record PartAt (w : ℕ) (sheet work : List ℕ) (a b : Source) (at : ℕ) (answer : Written) (after : List ℕ) : Type 0 where
  pub refused : may_merge a b at (length work) ≡ false → (answer ≡ Refused 5) × (after ≡ work)
  pub begun : may_merge a b at (length work) ≡ true → PartMade w sheet work a b at answer after
