-- Statement: Document 01, "Faults by number": the sentences that a formula call and a claim can meet, and the order in which they are
-- taken.
use Rattle.std.specs.Prelude.{ℕ, ◌<◌, ◌≡◌, false, ◌⊎◌, List, length, get_or}
use Rattle.signals.specs.Moment.{M}
use Rattle.signals.specs.Signal.{Signal}
use Rattle.signals.specs.Words.{date_of, most_words}
use Rattle.signals.specs.Checks.{Check, FaultCheck, NoFault}
use Rattle.grammar.specs.Tree.{Tree, Leaf, leaf, unary, binary, down, up, name}
use Rattle.grammar.specs.Grammar.{Writes}
use Rattle.grammar.specs.Exactness.{FormulaChecks}
use Rattle.grammar.specs.Parts.{parts, part_at}
use Rattle.format.specs.Names.{among}
use Rattle.format.specs.Reading.{sheet_fault, signals_on, names}
use Rattle.calls.specs.OnSheet.{signal_on}
use Rattle.calls.specs.Calls.{needed_work}
use Rattle.calls.specs.NormalLists.{ListFor}

-- a name that stands in a tree
abbrev pub LeafNames : Leaf → List ℕ → Type 0
LeafNames down n = ⊥
LeafNames up n = ⊥
LeafNames (name m) n = m ≡ n

abbrev pub Names : Tree → List ℕ → Type 0
Names (leaf l) n = LeafNames l n
Names (unary o t) n = Names t n
Names (binary o t u) n = Names t n ⊎ Names u n

-- 13: name not in the sheet
abbrev pub Breaks13 : List ℕ → List ℕ → Type 0
Breaks13 sheet formula =
    (t : Tree) × (d : ℕ) × Writes formula t d × ((n : List ℕ) × Names t n × (among n (names (signals_on sheet)) ≡ false))

-- 18: work area under the needed words
abbrev pub Breaks18 : List ℕ → ℕ → Type 0
Breaks18 sheet work = work < needed_work sheet

-- 5: exact answer over 256 words, those past M counted; 6: exact answer changes after M
abbrev pub Meets5 : Signal → Type 0
Meets5 s = (l : List ℕ) × ListFor s l × (most_words < length l)

abbrev pub Meets6 : Signal → Type 0
Meets6 s = (l : List ℕ) × ListFor s l × ((i : ℕ) × (i < length l) × (M < date_of (get_or l i 0)))

-- no part worked out before part i meets 5 or 6
abbrev pub FineBefore : List ℕ → Tree → ℕ → Type 0
FineBefore sheet t i = (j : ℕ) → j < i → (¬ Meets5 (signal_on sheet (part_at t j))) × (¬ Meets6 (signal_on sheet (part_at t j)))

-- the first part worked out that meets 5 or 6 meets 5; it meets 6 alone (5 where both apply)
abbrev pub Breaks5 : List ℕ → List ℕ → Type 0
Breaks5 sheet formula =
    (t : Tree) × (d : ℕ) × Writes formula t d
    × ((i : ℕ) × (i < length (parts t)) × FineBefore sheet t i × Meets5 (signal_on sheet (part_at t i)))

abbrev pub Breaks6 : List ℕ → List ℕ → Type 0
Breaks6 sheet formula =
    (t : Tree) × (d : ℕ) × Writes formula t d
    × ((i : ℕ) × (i < length (parts t)) × FineBefore sheet t i
    × (¬ Meets5 (signal_on sheet (part_at t i))) × Meets6 (signal_on sheet (part_at t i)))

-- 7: output, of so many words, shorter than the answer
abbrev pub Breaks7 : List ℕ → List ℕ → ℕ → Type 0
Breaks7 sheet formula room =
    (t : Tree) × (d : ℕ) × Writes formula t d × ((l : List ℕ) × ListFor (signal_on sheet t) l × (room < length l))

-- formula 10 (empty or over 1,024 bytes), 11 (outside the grammar), 8 (length above M), 12 (over 32 parts, or depth over 16), 13
abbrev pub ReadingChecks : List ℕ → List ℕ → (ℕ → Type 0) → ℕ → Type 0
ReadingChecks sheet formula later = FormulaChecks formula (Check 13 (Breaks13 sheet formula) later)

-- 5 or 6 at the first part worked out that meets one
abbrev pub WorkingChecks : List ℕ → List ℕ → (ℕ → Type 0) → ℕ → Type 0
WorkingChecks sheet formula later = Check 5 (Breaks5 sheet formula) (Check 6 (Breaks6 sheet formula) later)

-- A formula call takes sheet, formula 10, 11, 8, 12, 13, 18, then 5 or 6 at the first part worked out that meets one, then 7.
abbrev pub CallFaultIs : List ℕ → List ℕ → ℕ → ℕ → ℕ → Type 0
CallFaultIs sheet formula work room =
    FaultCheck (sheet_fault sheet)
    (ReadingChecks sheet formula
    (Check 18 (Breaks18 sheet work) (WorkingChecks sheet formula (Check 7 (Breaks7 sheet formula room) NoFault))))

-- For claims F, then G, 18, F's parts before G's; a claim has no output and no 7.
abbrev pub ClaimFaultIs : List ℕ → List ℕ → List ℕ → ℕ → ℕ → Type 0
ClaimFaultIs sheet F G work =
    FaultCheck (sheet_fault sheet)
    (ReadingChecks sheet F
    (ReadingChecks sheet G
    (Check 18 (Breaks18 sheet work) (WorkingChecks sheet F (WorkingChecks sheet G NoFault)))))
