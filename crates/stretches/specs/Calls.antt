-- Believed: The up-time call of document 02, request 2, on a sheet: its answer by fault number and values, its faults in their order.
use Rattle.std.specs.Prelude.{ℕ, ◌≡◌, cond, List, ltb, eqb, length}
use Rattle.signals.specs.Moment.{M}
use Rattle.signals.specs.Answers.{first_of, output_of}
use Rattle.format.specs.Reading.{environment_on}
use Rattle.format.specs.Calls.{lookup_fault}
use Rattle.stretches.specs.Stretches.{Stretch, stretches_before, sum_of_ticks, stretch_words}
use Rattle.stretches.specs.declared.UpTime.{UpTime}
use Rattle.stretches.specs.declared.UpTime.TheVariants.{Told, Refused}

-- UpTime. The fault number, 0 for none; the number of words and the total, 0 when refused.
abbrev pub fault_of_up_time : UpTime → ℕ
fault_of_up_time (Told count total) = 0
fault_of_up_time (Refused fault) = fault

abbrev pub count_of_up_time : UpTime → ℕ
count_of_up_time (Told count total) = count
count_of_up_time (Refused fault) = 0

abbrev pub total_of_up_time : UpTime → ℕ
total_of_up_time (Told count total) = total
total_of_up_time (Refused fault) = 0

-- the answer of a call with this fault (0 for none), so many words and this total
unfoldable pub up_time_for : ℕ → ℕ → ℕ → UpTime
up_time_for fault count total = cond (eqb fault 0) (Told count total) (Refused fault)

-- the stretches of a name's signal on a sheet
unfoldable pub stretches_on : List ℕ → List ℕ → ℕ → List Stretch
stretches_on sheet name H = stretches_before (environment_on sheet name) H

-- 19: the horizon is above M
unfoldable pub horizon_fault : ℕ → ℕ
horizon_fault H = cond (ltb M H) 19 0

-- the words of these stretches, two each
unfoldable pub up_time_words : List ℕ → List ℕ → ℕ → List ℕ
up_time_words sheet name H = stretch_words (stretches_on sheet name H)

-- It takes sheet, 16, 13, 19, then 7, where the output has `room` words.
unfoldable pub up_time_fault : List ℕ → List ℕ → ℕ → ℕ → ℕ
up_time_fault sheet name H room =
    first_of (lookup_fault sheet name) (first_of (horizon_fault H) (cond (ltb room (length (up_time_words sheet name H))) 7 0))

-- The call: the sheet, the name, the horizon, the output at entry, the answer, the output at exit.
abbrev pub CallOfUpTime : List ℕ → List ℕ → ℕ → List ℕ → UpTime → List ℕ → Type 0
CallOfUpTime sheet name H out answer after =
    let fault = up_time_fault sheet name H (length out) in
    (answer ≡ up_time_for fault (length (up_time_words sheet name H)) (sum_of_ticks (stretches_on sheet name H)))
    × (after ≡ output_of fault (up_time_words sheet name H) out)
