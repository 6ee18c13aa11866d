-- What is printed of an input: the page or the refusal, how long it is, where it ends.
use Prim.Native.Nat.{ℕ, zero, suc, ◌+◌, ◌≤◌, ◌<◌}
use native.Mathlib.Omega.{arith}
use mathlib.Core.Path.{◌≡◌, refl, sym, ap, ◌∙◌}
use mathlib.Core.Bool.{Bool, true, false, cond}
use mathlib.Core.List.{List, [], ◌∷◌, ◌++◌, append_assoc}
use mathlib.Core.Logic.{inl, inr}
use lib.Dec.{eqb}
use lib.ListN.{length, get_or, take, length-append}
use lib.Seq.{take-take}
use borrow.Author.Tests.{eqb-true, eq-eqb, ne_eqb}
use Rattle.slices.specs.Slices.{past}
use Rattle.slices.specs.Bytes.{Bytes}
use Rattle.signals.specs.Moment.{M}
use Rattle.signals.specs.Signal.{Signal}
use Rattle.signals.specs.Words.{most_words}
use Rattle.signals.specs.Answers.{first_of}
use Rattle.signals.specs.declared.Verdict.TheVariants.{Refused}
use Rattle.signals.proofs.FirstFault.{both_none}
use Rattle.format.specs.Reading.{front_fault, sheet_fault, environment_on}
use Rattle.format.specs.Calls.{lookup_fault}
use Rattle.stretches.specs.Stretches.{Stretch, stretches_before, sum_of_ticks, stretch_words}
use Rattle.stretches.specs.LongestRuns.{IsAmong}
use Rattle.stretches.specs.Calls.{stretches_on, up_time_words}
use Rattle.stretches.proofs.LongestRuns.{stretches_of}
use Rattle.stretches.proofs.Totals.{totals}
use Rattle.stretches.proofs.CallGives.{suffices}
use Rattle.texts.specs.Decimal.{decimal}
use Rattle.texts.specs.Lengths.{value}
use Rattle.inputs.specs.Input.{limit, counted, first_line, second_line, sheet_in}
use Rattle.verdict_line.specs.Line.{line, line_of, refused_text}
use Rattle.verdict_line.proofs.Lines.{line_fits}
use Rattle.uptime_page.specs.Page.{total_text, total_line, stretch_lines, page_text}
use Rattle.uptime_page.specs.Printing.{page_fault, printed, most_bytes}
use Rattle.uptime_page.specs.Words.{word_lines}
use Rattle.uptime_page.specs.PageSays.{IsHorizon, Small, Told, PageSays}
use Rattle.uptime_page.proofs.Sizes.{lines_size, total_length}
use Rattle.uptime_page.proofs.PageTells.{page_tells, no_refusal}
use Rattle.uptime_page.proofs.PageFaults.{horizon_value, page_faults, page_fine, page_numbers}

-- the lines of stretches are those of their words
pub lines_of : (ss : List Stretch) → word_lines (stretch_words ss) ≡ stretch_lines ss
unfolding word_lines stretch_words stretch_lines
lines_of [] = refl
lines_of (s ∷ ss) = rw (lines_of ss)

page_length : (ss : List Stretch) → length (stretch_words ss) ≤ most_words → length (page_text ss) ≤ most_bytes
unfolding page_text
page_length ss h =
    omega (
      arith,
      length-append (stretch_lines ss) (total_line (sum_of_ticks ss)),
      ap length (lines_of ss),
      lines_size (stretch_words ss),
      h,
      total_length (sum_of_ticks ss),
    )

-- the sheet in bytes is bytes
bytes_take : (n : ℕ) (l : List ℕ) → Bytes l → Bytes (take n l)
bytes_take zero l b i = omega arith
bytes_take (suc n) [] b i = b i
bytes_take (suc n) (x ∷ l) b zero = b 0
bytes_take (suc n) (x ∷ l) b (suc i) = bytes_take n l (λ k. b (suc k)) i

bytes_past : (stop : ℕ) (l : List ℕ) → Bytes l → Bytes (past stop l)
unfolding past
bytes_past stop [] b i = b i
bytes_past stop (x ∷ l) b i = go (eqb x stop) (bytes_past stop l (λ k. b (suc k)) i)
  where
    go : (t : Bool) → get_or (past stop l) i 0 < 256 → get_or (cond t l (past stop l)) i 0 < 256
    go true h = b (suc i)
    go false h = h

bytes_sheet : (input : List ℕ) → Bytes input → Bytes (sheet_in input)
unfolding sheet_in counted
bytes_sheet input b = bytes_past 10 _ (bytes_past 10 _ (bytes_take limit input b))

page_of : (input : List ℕ) (H : ℕ) → lookup_fault (sheet_in input) (first_line input) ≡ 0 → IsHorizon (second_line input) H
    → printed input ≡ page_text (stretches_on (sheet_in input) (first_line input) H)
unfolding printed
page_of input H z h = rw (eq-eqb (page_fault input) 0 (page_fine input H z h), horizon_value (second_line input) H h)

refused_so : (input : List ℕ) → ¬ (page_fault input ≡ 0) → printed input ≡ line_of (Refused (page_fault input))
unfolding printed
refused_so input n = rw (ne_eqb (page_fault input) 0 n)

-- the stretches that an input asks for
abbrev stretches_in : List ℕ → List Stretch
stretches_in input = stretches_on (sheet_in input) (first_line input) (value (second_line input))

-- by whether there is a fault
by_fault : (P : List ℕ → Type 0) (input : List ℕ)
    → (lookup_fault (sheet_in input) (first_line input) ≡ 0
    → P (page_text (stretches_in input)))
    → P (line_of (Refused (page_fault input))) → P (printed input)
unfolding printed page_fault
by_fault P input page line = go (eqb (page_fault input) 0) refl
  where
    go : (t : Bool) → eqb (page_fault input) 0 ≡ t
        → P (cond t (page_text (stretches_in input)) (line_of (Refused (page_fault input))))
    go true e = page (both_none (lookup_fault (sheet_in input) (first_line input)) _ (eqb-true (page_fault input) 0 e)).0
    go false e = line

few_words : (sheet name : List ℕ) (H : ℕ) → Bytes sheet → lookup_fault sheet name ≡ 0
    → length (stretch_words (stretches_on sheet name H)) ≤ most_words
unfolding up_time_words
few_words sheet name H b z = suffices sheet name H b z

page_fits : (input : List ℕ) → Bytes input → length (printed input) ≤ most_bytes
page_fits input b =
    by_fault (λ text. length text ≤ most_bytes) input
    (λ z. page_length (stretches_in input)
    (few_words (sheet_in input) (first_line input) (value (second_line input)) (bytes_sheet input b) z))
    (omega (arith, line_fits (Refused (page_fault input))))

-- text and a line feed
abbrev Ends : List ℕ → Type 0
Ends l = (text : List ℕ) × (l ≡ text ++ (10 ∷ []))

page_ends : (input : List ℕ) → Ends (printed input)
unfolding page_text total_line line_of line
page_ends input =
    by_fault Ends input
    (λ z. let ss = stretches_in input in (
      stretch_lines ss ++ (total_text ++ decimal (sum_of_ticks ss)),
      sym (append_assoc (stretch_lines ss) (total_text ++ decimal (sum_of_ticks ss)) (10 ∷ [])),
    ))
    (refused_text ++ decimal (page_fault input), refl)

told_so : (input : List ℕ) (H : ℕ) → page_fault input ≡ 0 → IsHorizon (second_line input) H → Told input H
unfolding page_fault page_text stretches_on
told_so input H z h =
    let s : Signal = environment_on (sheet_in input) (first_line input) in
    record {
      stretches = stretches_before s H;
      those = stretches_of s H;
      lines =
          page_of input H (both_none (lookup_fault (sheet_in input) (first_line input)) _ z).0 h
          ∙ ap (λ (n : ℕ). stretch_lines (stretches_before s H) ++ total_line n) (totals.total s H);
    }

-- an empty sheet has no mark
no_sheet_lem : (input : List ℕ) → sheet_in input ≡ [] → printed input ≡ line_of (Refused 14)
unfolding page_fault lookup_fault sheet_fault front_fault first_of
no_sheet_lem input e =
    let z : page_fault input ≡ 14 = rw e in
    refused_so input (λ y. omega (arith, z, y)) ∙ ap (λ (n : ℕ). line_of (Refused n)) z

cut_so : (input : List ℕ) → printed (take limit input) ≡ printed input
unfolding printed page_fault first_line second_line sheet_in counted
cut_so input = rw (take-take limit limit input (omega arith))

-- no number of a stretch before H is above H
small_of : (ss : List Stretch) (H : ℕ) → H ≤ M → ((s : Stretch) → IsAmong ss s → s.first + s.ticks ≤ H) → Small ss
small_of [] H m h = tt
small_of (s ∷ ss) H m h =
    let l = h s (inl refl) in
    (omega (arith, l, m), omega (arith, l, m), small_of ss H m (λ r i. h r (inr i)))

pub page_says : PageSays
page_says =
    record {
      faults = page_faults;
      page = page_of;
      told = told_so;
      refused = refused_so;
      refusals = page_numbers;
      no_sheet = no_sheet_lem;
      cut = cut_so;
      fits = page_fits;
      ends = page_ends;
      tells = page_tells;
      small = λ f H m. small_of (stretches_before f H) H m (totals.within f H);
      apart = no_refusal;
    }
