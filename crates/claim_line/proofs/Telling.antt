-- From the parts of the input, its claim's answer and the line of that, the line printed.
use Prim.Native.Nat.{ℕ}
use mathlib.Core.Path.{◌≡◌, ap, ◌∙◌}
use mathlib.Core.List.{List}
use Rattle.signals.specs.declared.Verdict.{Verdict}
use Rattle.calls.specs.Calls.{claim_answer, needed_work, work_words}
use Rattle.inputs.specs.Input.{first_line, second_line, sheet_in}
use Rattle.verdict_line.specs.Written.{Lined, LineOfVerdict}
use Rattle.claim_line.specs.Printing.{claim_of, printed}

pub work_words_lem : (sheet : List ℕ) (work : ℕ) → work ≡ work_words → work ≡ needed_work sheet
unfolding needed_work
work_words_lem sheet work e = e

module _ (input sheet f g : List ℕ) (e : f ≡ first_line input) (d : g ≡ second_line input) (s : sheet ≡ sheet_in input) where
  claim_is : claim_answer sheet f g (needed_work sheet) ≡ claim_of input
  unfolding claim_of needed_work
  claim_is = rw (s, e, d)

  pub line_told : (v : Verdict) (bytes : List ℕ) (work count : ℕ) → work ≡ needed_work sheet → v ≡ claim_answer sheet f g work
      → LineOfVerdict v bytes count → Lined (printed input) bytes count
  unfolding printed
  line_told v bytes work count w said told = rw (said ∙ ap (claim_answer sheet f g) w ∙ claim_is) at told
