-- Statement: Document 02, request 2: which fault refuses an input, what is printed of the others, how long it can be, and that it tells
-- the stretches.
use Rattle.std.specs.Prelude.{ℕ, ◌≤◌, ◌<◌, ◌^◌, ◌≡◌, List, [], ◌∷◌, ◌++◌, length, take}
use Rattle.slices.specs.Bytes.{Bytes}
use Rattle.signals.specs.Moment.{M}
use Rattle.signals.specs.Checks.{Check, FaultCheck, NoFault, Exactly}
use Rattle.signals.specs.declared.Verdict.TheVariants.{Refused}
use Rattle.names.specs.Sentence.{IsName}
use Rattle.format.specs.Reading.{sheet_fault, signals_on, names, environment_on}
use Rattle.format.specs.Sentences.{OneOf}
use Rattle.format.specs.Calls.{lookup_fault}
use Rattle.texts.specs.Decimal.{decimal}
use Rattle.signals.specs.Signal.{Signal}
use Rattle.stretches.specs.Stretches.{Stretch, stretches_before}
use Rattle.stretches.specs.LongestRuns.{StretchesOf}
use Rattle.stretches.specs.Totals.{up_gaps}
use Rattle.stretches.specs.Calls.{stretches_on}
use Rattle.inputs.specs.Input.{limit, first_line, second_line, sheet_in}
use Rattle.verdict_line.specs.Line.{line_of}
use Rattle.uptime_page.specs.Page.{stretch_lines, total_line, page_text}
use Rattle.uptime_page.specs.Printing.{page_fault, printed, most_bytes}

-- H, written as a length is, and not above M: decimal, without needless leading zeros
abbrev pub IsHorizon : List ℕ → ℕ → Type 0
IsHorizon text H = (H ≤ M) × (text ≡ decimal H)

-- "19 when H is not so written or is above M, tested after 13": sheet, 16, 13, 19.
abbrev pub PageFaultIs : List ℕ → ℕ → Type 0
PageFaultIs input =
    FaultCheck (sheet_fault (sheet_in input))
    (Check 16 (¬ IsName (first_line input))
    (Check 13 (¬ OneOf (names (signals_on (sheet_in input))) (first_line input))
    (Check 19 (¬ ((H : ℕ) × IsHorizon (second_line input) H)) NoFault)))

-- every number of a stretch has 32 bits
abbrev pub Small : List Stretch → Type 0
Small [] = Unit
Small (s ∷ ss) = (s.first < 2 ^ 32) × (s.ticks < 2 ^ 32) × Small ss

-- what is printed of an input without a fault, in the words of the request: the longest runs of up gaps of the name's signal before H,
-- and the number of up gaps among gaps 0 to H-1
pub record Told (input : List ℕ) (H : ℕ) : Type 1 where
  pub stretches : List Stretch
  pub those : StretchesOf (environment_on (sheet_in input) (first_line input)) H stretches
  pub lines : printed input ≡ stretch_lines stretches ++ total_line (up_gaps (environment_on (sheet_in input) (first_line input)) H)

pub record PageSays : Type 1 where
  pub faults : (input : List ℕ) → Exactly (PageFaultIs input) (page_fault input)
  -- without a fault: the page of the stretches before the H that is written there
  pub page : (input : List ℕ) (H : ℕ) → lookup_fault (sheet_in input) (first_line input) ≡ 0 → IsHorizon (second_line input) H
      → printed input ≡ page_text (stretches_on (sheet_in input) (first_line input) H)
  pub told : (input : List ℕ) (H : ℕ) → page_fault input ≡ 0 → IsHorizon (second_line input) H → Told input H
  -- with one: one line, and the fault is 13 to 17 or 19
  pub refused : (input : List ℕ) → ¬ (page_fault input ≡ 0) → printed input ≡ line_of (Refused (page_fault input))
  pub refusals : (input : List ℕ) → ¬ (page_fault input ≡ 0) → (13 ≤ page_fault input) × (page_fault input ≤ 19) × ¬ (page_fault input ≡ 18)
  -- without a second line feed, or with nothing after it, the sheet is empty: 14; what is past the bytes that count is dropped
  pub no_sheet : (input : List ℕ) → sheet_in input ≡ [] → printed input ≡ line_of (Refused 14)
  pub cut : (input : List ℕ) → printed (take limit input) ≡ printed input
  -- no page is longer than the array that it stands in, and each ends with the line feed
  pub fits : (input : List ℕ) → Bytes input → length (printed input) ≤ most_bytes
  pub ends : (input : List ℕ) → (text : List ℕ) × (printed input ≡ text ++ (10 ∷ []))
  -- a page tells its stretches, whose numbers have 32 bits, and is no refusal
  pub tells : (ss rs : List Stretch) → Small ss → Small rs → page_text ss ≡ page_text rs → ss ≡ rs
  pub small : (f : Signal) (H : ℕ) → H ≤ M → Small (stretches_before f H)
  pub apart : (ss : List Stretch) (n : ℕ) → Small ss → page_text ss ≡ line_of (Refused n) → ⊥
