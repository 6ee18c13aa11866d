-- Statement: Demand 3 said of any engine, sentence by sentence.
use Rattle.std.specs.Prelude.{ℕ, ◌≤◌, ◌<◌, ◌≡◌, ◌↔◌, List, length, take}
use Rattle.signals.specs.Answers.{fault_in, count_in}
use Rattle.signals.specs.Earliest.{JudgedAs}
use Rattle.signals.specs.Implication.{fault_of_verdict}
use Rattle.signals.specs.Settled.{Same}
use Rattle.signals.specs.declared.Written.TheVariants as written
use Rattle.signals.specs.declared.Verdict.TheVariants as verdict
use Rattle.grammar.specs.Tree.{Tree}
use Rattle.grammar.specs.Grammar.{Writes}
use Rattle.laws.specs.Rewriting.{Rewrites}
use Rattle.calls.specs.OnSheet.{signal_on}
use Rattle.calls.specs.Calls.{needed_work, words_on}
use Rattle.calls.specs.Answered.{Answered, Enough}
use Rattle.calls.specs.Engine.{Engine}
use Rattle.calls.specs.Demand2.{GivesTheList}

-- A call without a fault; its words: those, as many as the word count, that it gives.
abbrev pub Served : Engine → List ℕ → List ℕ → ℕ → List ℕ → Type 0
Served E sheet formula work old = fault_in (E.answer sheet formula work old) ≡ 0

abbrev pub words_given : Engine → List ℕ → List ℕ → ℕ → List ℕ → List ℕ
words_given E sheet formula work old = take (count_in (E.answer sheet formula work old)) (E.output sheet formula work old)

-- F and G give the same word count and the same words, however many work words they had and whatever their outputs held
pub record SameWords (E : Engine) (sheet F G : List ℕ) : Type 0 where
  pub count : (workF workG : ℕ) (oldF oldG : List ℕ) → Served E sheet F workF oldF → Served E sheet G workG oldG
      → count_in (E.answer sheet F workF oldF) ≡ count_in (E.answer sheet G workG oldG)
  pub words : (workF workG : ℕ) (oldF oldG : List ℕ) → Served E sheet F workF oldF → Served E sheet G workG oldG
      → words_given E sheet F workF oldF ≡ words_given E sheet G workG oldG

-- a refused call: the fault's number is its answer, and the output is the old one
pub record RefusedAs (E : Engine) (sheet formula : List ℕ) (work : ℕ) (old : List ℕ) (fault : ℕ) : Type 0 where
  pub answer : E.answer sheet formula work old ≡ written.Refused fault
  pub output : E.output sheet formula work old ≡ old

-- the third formula H has, as the first side of a claim and as the second, the same verdict with G as with F: the whole answers are
-- equal, whatever the work area
pub record SameVerdicts (E : Engine) (sheet F G H : List ℕ) : Type 0 where
  pub as_first : (work : ℕ) → E.claim sheet H F work ≡ E.claim sheet H G work
  pub as_second : (work : ℕ) → E.claim sheet F H work ≡ E.claim sheet G H work

pub record Demand3 (E : Engine) : Type 0 where
  -- its answered formulas are those defined: with the needed work words and an output at least as long as the answer, an answered formula's
  -- call meets no fault, and a call without a fault is of an answered formula
  pub served : (sheet F : List ℕ) → Answered sheet F → (work : ℕ) (old : List ℕ) → Enough sheet F work old → Served E sheet F work old
  pub answered : (sheet F : List ℕ) (work : ℕ) (old : List ℕ) → Served E sheet F work old → Answered sheet F
  -- with fewer work words its call is refused as 18, else, with an output shorter than the answer, as 7
  pub short_work : (sheet F : List ℕ) → Answered sheet F → (work : ℕ) (old : List ℕ) → work < needed_work sheet
      → RefusedAs E sheet F work old 18
  pub short_output : (sheet F : List ℕ) → Answered sheet F → (work : ℕ) (old : List ℕ) → needed_work sheet ≤ work
      → length old < length (words_on sheet F) → RefusedAs E sheet F work old 7
  -- "Take any formula F, any one part of it and any equation of document 01's law table that fits that part in either direction, and let
  -- G be F with the part so rewritten. Then on every sheet where both are answered, F and G give the same word count and the same words."
  pub rewritten : (F G : List ℕ) (f g : Tree) (d e : ℕ) → Writes F f d → Writes G g e → Rewrites f g
      → (sheet : List ℕ) → Answered sheet F → Answered sheet G → SameWords E sheet F G
  -- "Any third formula answered there, as the first side of a claim and as the second, has the same verdict with G as with F:"
  pub third : (F G H : List ℕ) (f g : Tree) (d e : ℕ) → Writes F f d → Writes G g e → Rewrites f g
      → (sheet : List ℕ) → Answered sheet F → Answered sheet G → Answered sheet H → SameVerdicts E sheet F G H
  -- "the one that document 01's implication gives for the signals as defined." What every claim call without a fault says, of any two
  -- formulas answered there, how a failing run ends included (document 02, request 4)
  pub claims : (sheet F G : List ℕ) (f g : Tree) (d e : ℕ) → Writes F f d → Writes G g e → Answered sheet F → Answered sheet G
      → (work : ℕ) → fault_of_verdict (E.claim sheet F G work) ≡ 0
      → JudgedAs (signal_on sheet f) (signal_on sheet g) (E.claim sheet F G work)
  -- "A claim of two formulas answered on the sheet can meet no fault but 18": none with the needed work words, 18 with fewer
  pub claim_served : (sheet F G : List ℕ) → Answered sheet F → Answered sheet G → (work : ℕ) → needed_work sheet ≤ work
      → fault_of_verdict (E.claim sheet F G work) ≡ 0
  pub claim_short_work : (sheet F G : List ℕ) → Answered sheet F → Answered sheet G → (work : ℕ) → work < needed_work sheet
      → E.claim sheet F G work ≡ verdict.Refused 18
  -- a claim call without a fault is of two answered formulas
  pub claim_answered : (sheet F G : List ℕ) (work : ℕ) → fault_of_verdict (E.claim sheet F G work) ≡ 0
      → Answered sheet F × Answered sheet G
  -- "Each answered formula gives the one normal list of its signal,"
  pub lists : (sheet F : List ℕ) → Answered sheet F → (work : ℕ) (old : List ℕ) → Served E sheet F work old
      → GivesTheList E sheet F work old
  -- "and two, on one sheet or on two, give the same words exactly when their signals, as defined, are up at the same instants and in the
  -- same gaps."
  pub exactly : (sheetF sheetG F G : List ℕ) (f g : Tree) (d e : ℕ) → Writes F f d → Writes G g e
      → Answered sheetF F → Answered sheetG G → (workF workG : ℕ) (oldF oldG : List ℕ)
      → Served E sheetF F workF oldF → Served E sheetG G workG oldG
      → (words_given E sheetF F workF oldF ≡ words_given E sheetG G workG oldG) ↔ Same (signal_on sheetF f) (signal_on sheetG g)
