-- Statement: What the demands leave open: demand 2 nothing, demand 3 nothing of answered formulas and of claims of two answered formulas.
use Rattle.std.specs.Prelude.{ℕ, ◌≡◌, ◌↔◌, List}
use Rattle.signals.specs.Answers.{fault_of_verdict}
use Rattle.calls.specs.Calls.{call_answer, call_output, claim_answer}
use Rattle.calls.specs.Engine.{Engine}
use Rattle.calls.specs.Answered.{Answered}
use Rattle.calls.specs.Demand2.{Demand2}
use Rattle.calls.specs.Demand3.{Served, Demand3}

-- One engine meets demand 2: any that does answers and writes what the defined one does, for every input, faulty ones too.
pub record Agrees (E : Engine) : Type 0 where
  pub answer : (sheet formula : List ℕ) (work : ℕ) (old : List ℕ) → E.answer sheet formula work old ≡ call_answer sheet formula work old
  pub output : (sheet formula : List ℕ) (work : ℕ) (old : List ℕ) → E.output sheet formula work old ≡ call_output sheet formula work old
  pub claim : (sheet F G : List ℕ) (work : ℕ) → E.claim sheet F G work ≡ claim_answer sheet F G work

abbrev pub OneEngine : Type 0
OneEngine = (E : Engine) → Demand2 E → Agrees E

-- Exactly those engines meet demand 3 that answer, write and judge as the defined one does wherever the formulas are answered, however
-- many the work words and whatever the output, and that refuse every formula call and every claim of another formula. Left to demands 1
-- and 2: which number refuses those, and the output of such a formula call.
pub record AgreesWhereAnswered (E : Engine) : Type 0 where
  pub answer : (sheet formula : List ℕ) → Answered sheet formula → (work : ℕ) (old : List ℕ)
      → E.answer sheet formula work old ≡ call_answer sheet formula work old
  pub output : (sheet formula : List ℕ) → Answered sheet formula → (work : ℕ) (old : List ℕ)
      → E.output sheet formula work old ≡ call_output sheet formula work old
  pub claim : (sheet F G : List ℕ) → Answered sheet F → Answered sheet G → (work : ℕ) → E.claim sheet F G work ≡ claim_answer sheet F G work
  pub no_other : (sheet formula : List ℕ) (work : ℕ) (old : List ℕ) → Served E sheet formula work old → Answered sheet formula
  pub no_other_claim : (sheet F G : List ℕ) (work : ℕ) → fault_of_verdict (E.claim sheet F G work) ≡ 0
      → Answered sheet F × Answered sheet G

abbrev pub OneEngineWhereAnswered : Type 0
OneEngineWhereAnswered = (E : Engine) → Demand3 E ↔ AgreesWhereAnswered E

-- An engine that is the defined one everywhere, as the code's contracts say of the code, meets both demands.
abbrev pub AgreeingMeets : Type 0
AgreeingMeets = (E : Engine) → Agrees E → Demand2 E × Demand3 E
