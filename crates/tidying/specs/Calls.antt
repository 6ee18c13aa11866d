-- Believed: Tidying as a call: its faults in document 01's order, and its whole answer and output.
use Rattle.std.specs.Prelude.{ℕ, ◌≡◌, cond, List, ltb, length}
use Rattle.signals.specs.Words.{tidy_fault}
use Rattle.signals.specs.Words.{tidied}
use Rattle.signals.specs.Answers.{first_of, written_of, output_of}
use Rattle.signals.specs.declared.Written.{Written}

-- tidying into n words of output: 1, 2, 3, then 7 when the output is shorter than the answer
unfoldable pub tidying_fault : List ℕ → ℕ → ℕ
tidying_fault l n = first_of (tidy_fault l) (cond (ltb n (length (tidied l))) 7 0)

-- The whole of a call of tidying: its answer and the output at exit, from the list and the output at entry.
abbrev pub CallOfTidying : List ℕ → List ℕ → Written → List ℕ → Type 0
CallOfTidying l out answer after =
    (answer ≡ written_of (tidying_fault l (length out)) (tidied l))
    × (after ≡ output_of (tidying_fault l (length out)) (tidied l) out)
