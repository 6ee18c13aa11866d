-- Believed: The whole of a call: its answer and the output at exit, from its arguments and the output at entry.
use Rattle.std.specs.Prelude.{ℕ, ◌≡◌, List, [], length}
use Rattle.signals.specs.Answers.{written_of, output_of}
use Rattle.signals.specs.declared.Written.{Written}
use Rattle.format.specs.Writing.{sheet_bytes}
use Rattle.format.specs.Calls.{begin_fault, append_fault, appended}

abbrev pub CallOfBegin : List ℕ → Written → List ℕ → Type 0
CallOfBegin out answer after =
    (answer ≡ written_of (begin_fault (length out)) (sheet_bytes [])) × (after ≡ output_of (begin_fault (length out)) (sheet_bytes []) out)

abbrev pub CallOfAppend : List ℕ → List ℕ → List ℕ → List ℕ → Written → List ℕ → Type 0
CallOfAppend sheet name list out answer after =
    (answer ≡ written_of (append_fault sheet name list (length out)) (appended sheet name list))
    × (after ≡ output_of (append_fault sheet name list (length out)) (appended sheet name list) out)
