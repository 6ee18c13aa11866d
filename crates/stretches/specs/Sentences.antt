-- Statement: When each fault of the up-time call is given, what it gives without one, and that an answer is read as what it was given of.
use Rattle.std.specs.Prelude.{ℕ, ◌≤◌, ◌<◌, ◌≡◌, List, ◌++◌, length, drop}
use Rattle.slices.specs.Bytes.{Bytes}
use Rattle.signals.specs.Moment.{M}
use Rattle.signals.specs.Words.{most_words}
use Rattle.signals.specs.Checks.{Check, FaultCheck, NoFault, Exactly}
use Rattle.names.specs.Sentence.{IsName}
use Rattle.format.specs.Reading.{sheet_fault, signals_on, names, environment_on}
use Rattle.format.specs.Calls.{lookup_fault}
use Rattle.format.specs.Sentences.{OneOf}
use Rattle.stretches.specs.Stretches.{Stretch, stretch_words}
use Rattle.stretches.specs.LongestRuns.{StretchesOf}
use Rattle.stretches.specs.Totals.{up_gaps}
use Rattle.stretches.specs.Calls.{fault_of_up_time, count_of_up_time, total_of_up_time, up_time_for, up_time_words, up_time_fault}
use Rattle.stretches.specs.Calls.{CallOfUpTime}
use Rattle.stretches.specs.declared.UpTime.{UpTime}
use Rattle.stretches.specs.declared.UpTime.TheVariants.{Told, Refused}

-- "19 when H [..] is above M, tested after 13": sheet, 16, 13, 19, 7.
abbrev pub UpTimeFaultIs : List ℕ → List ℕ → ℕ → ℕ → ℕ → Type 0
UpTimeFaultIs sheet name H room =
    FaultCheck (sheet_fault sheet)
    (Check 16 (¬ IsName name)
    (Check 13 (¬ OneOf (names (signals_on sheet)) name)
    (Check 19 (M < H) (Check 7 (room < length (up_time_words sheet name H)) NoFault))))

abbrev pub UpTimeFaultsExact : Type 0
UpTimeFaultsExact =
    (sheet name : List ℕ) (H room : ℕ) → Exactly (UpTimeFaultIs sheet name H room) (up_time_fault sheet name H room)

-- What the call gives, by its contract.
pub record Gives (sheet name : List ℕ) (H : ℕ) (out : List ℕ) (answer : UpTime) (after : List ℕ) : Type 1 where
  -- without a fault: the stretches of the name's signal before H, their words, those past them being the old ones, and the number of up
  -- gaps among gaps 0 to H-1
  pub stretches : List Stretch
  pub those : StretchesOf (environment_on sheet name) H stretches
  pub answered : answer ≡ Told (length (stretch_words stretches)) (up_gaps (environment_on sheet name) H)
  pub written : after ≡ stretch_words stretches ++ drop (length (stretch_words stretches)) out

pub record UpTimeGives : Type 1 where
  pub gives : (sheet name : List ℕ) (H : ℕ) (out : List ℕ) (answer : UpTime) (after : List ℕ)
      → CallOfUpTime sheet name H out answer after → up_time_fault sheet name H (length out) ≡ 0 → Gives sheet name H out answer after
  -- with one: its number, and the output is as it was
  pub refused : (sheet name : List ℕ) (H : ℕ) (out : List ℕ) (answer : UpTime) (after : List ℕ)
      → CallOfUpTime sheet name H out answer after → ¬ (up_time_fault sheet name H (length out) ≡ 0)
      → (answer ≡ Refused (up_time_fault sheet name H (length out))) × (after ≡ out)
  -- an output as long as a list may be is never too short
  pub suffices : (sheet name : List ℕ) (H : ℕ) → Bytes sheet → lookup_fault sheet name ≡ 0 → length (up_time_words sheet name H) ≤
      most_words

-- the answers: a refusal has a number
abbrev pub GivenUpTime : UpTime → Type 0
GivenUpTime (Told count total) = Unit
GivenUpTime (Refused fault) = 1 ≤ fault

pub record UpTimeSays : Type 0 where
  pub fault : (f count total : ℕ) → fault_of_up_time (up_time_for f count total) ≡ f
  pub value : (count total : ℕ)
      → (count_of_up_time (up_time_for 0 count total) ≡ count) × (total_of_up_time (up_time_for 0 count total) ≡ total)
  pub refused : (f count total : ℕ) → 1 ≤ f
      → (count_of_up_time (up_time_for f count total) ≡ 0) × (total_of_up_time (up_time_for f count total) ≡ 0)
  pub given : (f count total : ℕ) → GivenUpTime (up_time_for f count total)
  pub every : (answer : UpTime) → GivenUpTime answer
      → up_time_for (fault_of_up_time answer) (count_of_up_time answer) (total_of_up_time answer) ≡ answer
