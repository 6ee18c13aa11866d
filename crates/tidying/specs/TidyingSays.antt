-- Statement: What calls of tidying come to: lists of one signal have one answer (document 02, request 3), which of a list's words are
-- given, and output words past the count stay.
use Rattle.std.specs.Prelude.{ℕ, ◌≤◌, List, ◌≡◌, length, take, drop}
use Rattle.signals.specs.Words.{signal_of, tidy_fault}
use Rattle.signals.specs.Settled.{Same}
use Rattle.signals.specs.Answers.{fault_in, count_in}
use Rattle.signals.specs.declared.Written.{Written}
use Rattle.tidying.specs.Calls.{CallOfTidying}
use Rattle.tidying.specs.Kept.{kept}

-- a call of tidying that is not refused: the list, the output at entry, the answer and the output at exit
abbrev pub Tidies : List ℕ → List ℕ → Written → List ℕ → Type 0
Tidies l out answer after = CallOfTidying l out answer after × (fault_in answer ≡ 0)

pub record TidyingSays : Type 0 where
  -- any two lists that tidying accepts, of one signal, give the same words, whatever their outputs held
  pub one : (l m out other after later : List ℕ) (a b : Written) → Tidies l out a after → Tidies m other b later
      → Same (signal_of l) (signal_of m) → (count_in a ≡ count_in b) × (take (count_in a) after ≡ take (count_in b) later)
  -- in one output they have the same answer, 7 too, and leave the same words there
  pub alike : (l m out after later : List ℕ) (a b : Written) → tidy_fault l ≡ 0 → tidy_fault m ≡ 0 → Same (signal_of l) (signal_of m)
      → CallOfTidying l out a after → CallOfTidying m out b later → (a ≡ b) × (after ≡ later)
  -- two lists that give the same words are of one signal
  pub only : (l m out other after later : List ℕ) (a b : Written) → Tidies l out a after → Tidies m other b later
      → take (count_in a) after ≡ take (count_in b) later → Same (signal_of l) (signal_of m)
  -- the words given are the list's first word and those of its words that change something
  pub words : (l out after : List ℕ) (a : Written) → Tidies l out a after
      → (count_in a ≡ length (kept l)) × (take (count_in a) after ≡ kept l)
  -- they are no more than the list has, so an output as long as the list is never too short
  pub fewer : (l out after : List ℕ) (a : Written) → Tidies l out a after → count_in a ≤ length l
  pub enough : (l out after : List ℕ) (a : Written) → tidy_fault l ≡ 0 → length l ≤ length out → CallOfTidying l out a after
      → fault_in a ≡ 0
  -- output words past the count stay; the count of a refused call is 0, so all stay
  pub past : (l out after : List ℕ) (a : Written) → CallOfTidying l out a after → drop (count_in a) after ≡ drop (count_in a) out
