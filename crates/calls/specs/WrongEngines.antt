-- Statement: Eight wrong engines, document 01's six in its order first, each the defined one but for the thing named; demands 2 and 3 shut
-- out each.
use Rattle.std.specs.Prelude.{ℕ, ◌+◌, cond, List, [], ◌∷◌, eqb, length}
use Rattle.signals.specs.Answers.{written_of, output_of}
use Rattle.signals.specs.declared.Written.{Written}
use Rattle.signals.specs.declared.Written.TheVariants as written
use Rattle.signals.specs.declared.End.TheVariants as ends
use Rattle.signals.specs.declared.Verdict.{Verdict}
use Rattle.signals.specs.declared.Verdict.TheVariants as verdict
use Rattle.grammar.specs.Tree.{Tree, leaf, unary, binary}
use Rattle.grammar.specs.Grammar.{Writes}
use Rattle.grammar.specs.Formula.{formula_tree}
use Rattle.laws.specs.Rewriting.{Rewrites}
use Rattle.calls.specs.OnSheet.{exact_on}
use Rattle.calls.specs.Calls.{call_fault, claim_fault, call_answer, call_output, claim_answer}
use Rattle.operations.specs.Calls.{room_fault}
use Rattle.calls.specs.Engine.{Engine}
use Rattle.calls.specs.Demand2.{Demand2}
use Rattle.calls.specs.Answered.{Answered}
use Rattle.calls.specs.Demand3.{SameWords, SameVerdicts, Demand3}
use Rattle.signals.specs.Answers.{first_of}

-- gives [0] for all formulas: where the defined call has no fault, the one word 0
unfoldable pub zero_answer : List ℕ → List ℕ → ℕ → List ℕ → Written
zero_answer sheet formula work old = written_of (call_fault sheet formula work (length old)) (0 ∷ [])

unfoldable pub zero_output : List ℕ → List ℕ → ℕ → List ℕ → List ℕ
zero_output sheet formula work old = output_of (call_fault sheet formula work (length old)) (0 ∷ []) old

abbrev pub gives_zero : Engine
gives_zero = record { answer = zero_answer; output = zero_output; claim = claim_answer }

-- calls every claim true: where the defined claim has no fault, it holds
unfoldable pub true_claim : List ℕ → List ℕ → List ℕ → ℕ → Verdict
true_claim sheet F G work = cond (eqb (claim_fault sheet F G work) 0) verdict.Holds (verdict.Refused (claim_fault sheet F G work))

abbrev pub claims_true : Engine
claims_true = record { answer = call_answer; output = call_output; claim = true_claim }

-- faults all as 5: every formula call and every claim is refused so
abbrev pub faults_as5 : Engine
faults_as5 =
    record {
      answer = λ sheet formula work old. written.Refused 5;
      output = λ sheet formula work old. old;
      claim = λ sheet F G work. verdict.Refused 5;
    }

-- leaves the output words old
abbrev pub leaves_old : Engine
leaves_old = record { answer = call_answer; output = λ sheet formula work old. old; claim = claim_answer }

-- copies its operand: the words of an operator or block are those of its (first) operand; they must fit the output too
abbrev pub operand_of : Tree → Tree
operand_of (leaf l) = leaf l
operand_of (unary o t) = t
operand_of (binary o t u) = t

unfoldable pub operand_words : List ℕ → List ℕ → List ℕ
operand_words sheet formula = exact_on sheet (operand_of (formula_tree formula))

unfoldable pub copy_fault : List ℕ → List ℕ → ℕ → ℕ → ℕ
copy_fault sheet formula work room =
    first_of (call_fault sheet formula work room) (room_fault (operand_words sheet formula) room)

unfoldable pub copy_answer : List ℕ → List ℕ → ℕ → List ℕ → Written
copy_answer sheet formula work old = written_of (copy_fault sheet formula work (length old)) (operand_words sheet formula)

unfoldable pub copy_output : List ℕ → List ℕ → ℕ → List ℕ → List ℕ
copy_output sheet formula work old = output_of (copy_fault sheet formula work (length old)) (operand_words sheet formula) old

abbrev pub copies_operand : Engine
copies_operand = record { answer = copy_answer; output = copy_output; claim = claim_answer }

-- invents a word count: one more than the words that it gives
abbrev pub one_more : Written → Written
one_more (written.Count n) = written.Count (n + 1)
one_more (written.Refused f) = written.Refused f

abbrev pub invents_count : Engine
invents_count =
    record { answer = λ sheet formula work old. one_more (call_answer sheet formula work old); output = call_output; claim = claim_answer }

-- answers holds to every claim whose work area is short: where the defined claim is refused as 18
unfoldable pub short_claim : List ℕ → List ℕ → List ℕ → ℕ → Verdict
short_claim sheet F G work = cond (eqb (claim_fault sheet F G work) 18) verdict.Holds (claim_answer sheet F G work)

abbrev pub holds_when_short : Engine
holds_when_short = record { answer = call_answer; output = call_output; claim = short_claim }

-- tells every failing run as a flicker: as its last moment the first
abbrev pub flicker : Verdict → Verdict
flicker verdict.Holds = verdict.Holds
flicker (verdict.FailsAt k end) = verdict.FailsAt k (ends.At k)
flicker (verdict.FailsAfter k end) = verdict.FailsAfter k (ends.Before (k + 1))
flicker (verdict.Refused f) = verdict.Refused f

abbrev pub tells_flickers : Engine
tells_flickers = record { answer = call_answer; output = call_output; claim = λ sheet F G work. flicker (claim_answer sheet F G work) }

-- neither demand holds of the engine
pub record ShutOut (E : Engine) : Type 0 where
  pub by_demand2 : ¬ Demand2 E
  pub by_demand3 : ¬ Demand3 E

pub record EightShutOut : Type 0 where
  pub zero : ShutOut gives_zero
  pub true : ShutOut claims_true
  pub five : ShutOut faults_as5
  pub old : ShutOut leaves_old
  pub copy : ShutOut copies_operand
  pub count : ShutOut invents_count
  pub short : ShutOut holds_when_short
  pub flickers : ShutOut tells_flickers

-- F and G of demand 3 give the same words, and have the same verdicts with a third formula
pub record ObeysEveryLaw (E : Engine) : Type 0 where
  pub words : (F G : List ℕ) (f g : Tree) (d e : ℕ) → Writes F f d → Writes G g e → Rewrites f g
      → (sheet : List ℕ) → Answered sheet F → Answered sheet G → SameWords E sheet F G
  pub verdicts : (F G H : List ℕ) (f g : Tree) (d e : ℕ) → Writes F f d → Writes G g e → Rewrites f g
      → (sheet : List ℕ) → Answered sheet F → Answered sheet G → Answered sheet H → SameVerdicts E sheet F G H

-- The engine that gives [0] for all formulas obeys every law, and is shut out all the same.
abbrev pub ZeroObeysEveryLaw : Type 0
ZeroObeysEveryLaw = ObeysEveryLaw gives_zero
