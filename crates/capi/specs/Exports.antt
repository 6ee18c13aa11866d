-- Believed: The whole of an exported call that writes or works: the number it returns, the output and the work area at exit, in the
-- definitions of the library's calls.
use Rattle.std.specs.Prelude.{ℕ, ◌≡◌, List, length}
use Rattle.signals.specs.Signal.{Signal}
use Rattle.signals.specs.Answers.{written_of, output_of}
use Rattle.signals.specs.declared.Verdict.{Verdict}
use Rattle.operations.specs.Calls.{fault_of_one, exact_of_one, fault_of_two, exact_of_two, fault_of_delay, exact_of_delay}
use Rattle.signals.specs.Words.{tidied}
use Rattle.tidying.specs.Calls.{tidying_fault}
use Rattle.grammar.specs.Formula.{formula_fault, code_of, code_after}
use Rattle.format.specs.Calls.{append_fault, appended}
use Rattle.stretches.specs.Stretches.{sum_of_ticks}
use Rattle.stretches.specs.Calls.{up_time_for, stretches_on, up_time_words, up_time_fault}
use Rattle.calls.specs.Calls.{call_answer, call_output, claim_answer}
use Rattle.calls.specs.Work.{first_fault, first_claim_fault, KeptWhen}
use Rattle.columns.specs.Columns.{column_words, column_fault, column_answer}
use Rattle.packing.specs.Packing.{pack_written, pack_verdict, pack_span, pack_up_time, pack_column}

-- a call with this fault (0 for none) and these words: the number, and the output at exit from the output at entry
abbrev pub Exported : ℕ → List ℕ → List ℕ → ℕ → List ℕ → Type 0
Exported fault words out r after = (r ≡ pack_written (written_of fault words)) × (after ≡ output_of fault words out)

abbrev pub ExportedOne : (Signal → Signal) → List ℕ → List ℕ → ℕ → List ℕ → Type 0
ExportedOne operation a out = Exported (fault_of_one operation a (length out)) (exact_of_one operation a) out

abbrev pub ExportedTwo : (Signal → Signal → Signal) → List ℕ → List ℕ → List ℕ → ℕ → List ℕ → Type 0
ExportedTwo operation a b out = Exported (fault_of_two operation a b (length out)) (exact_of_two operation a b) out

abbrev pub ExportedDelay : (Signal → Signal) → ℕ → List ℕ → List ℕ → ℕ → List ℕ → Type 0
ExportedDelay operation d a out = Exported (fault_of_delay operation d a (length out)) (exact_of_delay operation d a) out

abbrev pub ExportedTidying : List ℕ → List ℕ → ℕ → List ℕ → Type 0
ExportedTidying a out = Exported (tidying_fault a (length out)) (tidied a) out

abbrev pub ExportedAppend : List ℕ → List ℕ → List ℕ → List ℕ → ℕ → List ℕ → Type 0
ExportedAppend sheet name list out = Exported (append_fault sheet name list (length out)) (appended sheet name list) out

-- list, moments and output at entry; the number; the output at exit
abbrev pub ExportedColumn : List ℕ → List ℕ → List ℕ → ℕ → List ℕ → Type 0
ExportedColumn l ms out r after =
    (r ≡ pack_column (column_answer l ms (length out))) × (after ≡ output_of (column_fault l ms (length out)) (column_words l ms) out)

-- sheet, name, horizon and output at entry; the number; the output at exit
abbrev pub ExportedUpTime : List ℕ → List ℕ → ℕ → List ℕ → ℕ → List ℕ → Type 0
ExportedUpTime sheet name H out r after =
    let fault = up_time_fault sheet name H (length out) in
    (r ≡ pack_up_time (up_time_for fault (length (up_time_words sheet name H)) (sum_of_ticks (stretches_on sheet name H))))
    × (after ≡ output_of fault (up_time_words sheet name H) out)

-- formula and code words at entry; the number; the code words at exit
abbrev pub ExportedParts : List ℕ → List ℕ → ℕ → List ℕ → Type 0
ExportedParts formula code r after =
    (r ≡ pack_written (written_of (formula_fault formula) (code_of formula))) × (after ≡ code_after formula code)

-- sheet, formula, work area and output at entry; the number; output and work area at exit
abbrev pub ExportedFormula : List ℕ → List ℕ → List ℕ → List ℕ → ℕ → List ℕ → List ℕ → Type 0
ExportedFormula sheet formula work out r outAfter workAfter =
    (r ≡ pack_written (call_answer sheet formula (length work) out))
    × (outAfter ≡ call_output sheet formula (length work) out)
    × KeptWhen (first_fault sheet formula (length work)) work workAfter

-- a claim's answer, packed by the function given
abbrev pub ExportedAs : (Verdict → ℕ) → List ℕ → List ℕ → List ℕ → List ℕ → ℕ → List ℕ → Type 0
ExportedAs packed sheet F G work r workAfter =
    (r ≡ packed (claim_answer sheet F G (length work))) × KeptWhen (first_claim_fault sheet F G (length work)) work workAfter

abbrev pub ExportedClaim : List ℕ → List ℕ → List ℕ → List ℕ → ℕ → List ℕ → Type 0
ExportedClaim = ExportedAs pack_verdict

abbrev pub ExportedSpan : List ℕ → List ℕ → List ℕ → List ℕ → ℕ → List ℕ → Type 0
ExportedSpan = ExportedAs pack_span
