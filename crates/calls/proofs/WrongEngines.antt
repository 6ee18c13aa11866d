-- Demands 2 and 3 shut out each of the eight wrong engines, by what both say of 1, !1 and the claim 1 to 0 on the empty sheet.
use Prim.Native.Nat.{ℕ, ◌≤◌, ◌<◌}
use native.Mathlib.Omega.{arith}
use mathlib.Core.Path.{◌≡◌, refl, ◌∙◌, ap}
use mathlib.Core.List.{List, [], ◌∷◌, ◌++◌}
use lib.ListN.{length, drop}
use borrow.Author.Tests.{eq-eqb}
use Rattle.signals.specs.Answers.{output_of}
use Rattle.signals.specs.declared.Written.TheVariants as written
use Rattle.signals.specs.declared.End.TheVariants as ends
use Rattle.signals.specs.declared.Verdict.TheVariants as verdict
use Rattle.grammar.specs.Tree as tree
use Rattle.grammar.proofs.Reading.{tree_of_lem}
use Rattle.calls.specs.Calls.{needed_work, words_on, call_fault, call_answer, call_output, claim_fault, claim_answer, work_words}
use Rattle.operations.specs.Calls.{room_fault}
use Rattle.calls.specs.Engine.{Engine}
use Rattle.calls.specs.OneEngine.{AgreesWhereAnswered}
use Rattle.calls.specs.WrongEngines.{zero_output, gives_zero, true_claim, claims_true, faults_as5, leaves_old, operand_words, copy_fault}
use Rattle.calls.specs.WrongEngines.{copy_output, copies_operand, one_more, invents_count, short_claim, holds_when_short, ShutOut}
use Rattle.calls.specs.WrongEngines.{flicker, tells_flickers, EightShutOut}
use Rattle.calls.proofs.NotRefused.{work_ok, work_short, answered_claim, given_claim, short_claim_lem, enough_served}
use Rattle.calls.proofs.Demand2.{delivered}
use Rattle.calls.proofs.OneEngine.{one_engine, one_engine_where_answered, agreeing_meets}
use Rattle.calls.proofs.SmallCases.{empty_sheet, one, none, not_one, up, down, one_writes, none_writes, not_one_writes, one_answered}
use Rattle.calls.proofs.SmallCases.{none_answered, not_one_answered, one_words, not_one_words, up_words, enough_of, one_to_none}
use Rattle.signals.proofs.FirstFault.{next_is}

-- what each demand says of these calls
pub record Says (E : Engine) : Type 0 where
  pub counts : E.answer empty_sheet one work_words (0 ∷ []) ≡ written.Count 1
  pub writes : E.output empty_sheet one work_words (0 ∷ []) ≡ 1 ∷ []
  pub inverts : E.output empty_sheet not_one work_words (1 ∷ []) ≡ 0 ∷ []
  pub fails : E.claim empty_sheet one none work_words ≡ verdict.FailsAfter 0 ends.Never
  pub short : E.claim empty_sheet one none 8191 ≡ verdict.Refused 18

-- the defined calls
one_fault : call_fault empty_sheet one work_words 1 ≡ 0
one_fault = enough_served empty_sheet one one_answered work_words (0 ∷ []) (enough_of one 1 0 one_words)

not_one_fault : call_fault empty_sheet not_one work_words 1 ≡ 0
not_one_fault = enough_served empty_sheet not_one not_one_answered work_words (1 ∷ []) (enough_of not_one 0 1 not_one_words)

enough_work : needed_work empty_sheet ≤ work_words
unfolding needed_work
enough_work = omega arith

short_work_lem : 8191 < needed_work empty_sheet
unfolding needed_work
short_work_lem = omega arith

claim_fine : claim_fault empty_sheet one none work_words ≡ 0
claim_fine = answered_claim empty_sheet one none one_answered none_answered work_words ∙ work_ok empty_sheet work_words enough_work

claim_at_18 : claim_fault empty_sheet one none 8191 ≡ 18
claim_at_18 = answered_claim empty_sheet one none one_answered none_answered 8191 ∙ work_short empty_sheet 8191 short_work_lem

one_counted : call_answer empty_sheet one work_words (0 ∷ []) ≡ written.Count 1
one_counted = (delivered empty_sheet one work_words (0 ∷ []) one_fault).count ∙ ap (λ (l : List ℕ). written.Count (length l)) one_words

written_so : (formula old words : List ℕ) → call_fault empty_sheet formula work_words (length old) ≡ 0 → words_on empty_sheet formula ≡
    words
    → call_output empty_sheet formula work_words old ≡ words ++ drop (length words) old
written_so formula old words z e =
    (delivered empty_sheet formula work_words old z).output ∙ ap (λ (l : List ℕ). l ++ drop (length l) old) e

claim_said : claim_answer empty_sheet one none work_words ≡ verdict.FailsAfter 0 ends.Never
claim_said =
    given_claim empty_sheet one none one_answered none_answered work_words enough_work
    ∙ rw (tree_of_lem one up 0 one_writes, tree_of_lem none down 0 none_writes) one_to_none

-- an engine that agrees with them where formulas are answered
says : (E : Engine) → AgreesWhereAnswered E → Says E
says E A =
    record {
      counts = A.answer empty_sheet one one_answered work_words (0 ∷ []) ∙ one_counted;
      writes = A.output empty_sheet one one_answered work_words (0 ∷ []) ∙ written_so one (0 ∷ []) (1 ∷ []) one_fault one_words;
      inverts = A.output empty_sheet not_one not_one_answered work_words (1 ∷ [])
          ∙ written_so not_one (1 ∷ []) (0 ∷ []) not_one_fault not_one_words;
      fails = A.claim empty_sheet one none one_answered none_answered work_words ∙ claim_said;
      short = A.claim empty_sheet one none one_answered none_answered 8191
          ∙ short_claim_lem empty_sheet one none one_answered none_answered 8191 short_work_lem;
    }

shut_out : (E : Engine) → (¬ Says E) → ShutOut E
shut_out E h =
    record {
      by_demand2 = λ D. h (says E ((one_engine_where_answered E).0 (agreeing_meets E (one_engine E D)).1));
      by_demand3 = λ D. h (says E ((one_engine_where_answered E).0 D));
    }

-- each of the eight
zero_writes : zero_output empty_sheet one work_words (0 ∷ []) ≡ 0 ∷ []
unfolding zero_output output_of
zero_writes = rw (eq-eqb (call_fault empty_sheet one work_words 1) 0 one_fault) refl

true_claims : true_claim empty_sheet one none work_words ≡ verdict.Holds
unfolding true_claim
true_claims = rw (eq-eqb (claim_fault empty_sheet one none work_words) 0 claim_fine) refl

operand_words_lem : operand_words empty_sheet not_one ≡ 1 ∷ []
unfolding operand_words
operand_words_lem = rw (tree_of_lem not_one (tree.Tree.unary tree.Unary.invert up) 1 not_one_writes) up_words

copy_fine : copy_fault empty_sheet not_one work_words 1 ≡ 0
unfolding copy_fault room_fault
copy_fine =
    next_is (call_fault empty_sheet not_one work_words 1) (room_fault (operand_words empty_sheet not_one) 1) not_one_fault ∙ rw
    operand_words_lem refl

copy_writes : copy_output empty_sheet not_one work_words (1 ∷ []) ≡ 1 ∷ []
unfolding copy_output output_of
copy_writes = rw (eq-eqb (copy_fault empty_sheet not_one work_words 1) 0 copy_fine, operand_words_lem) refl

short_holds : short_claim empty_sheet one none 8191 ≡ verdict.Holds
unfolding short_claim
short_holds = rw (eq-eqb (claim_fault empty_sheet one none 8191) 18 claim_at_18) refl

not_zero : ¬ Says gives_zero
not_zero h = let a : zero_output empty_sheet one work_words (0 ∷ []) ≡ 1 ∷ [] = h.writes in let b = zero_writes in let z : ◌≡◌ {A = ℕ} 0 1 =
    cc in omega arith

not_true : ¬ Says claims_true
not_true h =
    let a : true_claim empty_sheet one none work_words ≡ verdict.FailsAfter 0 ends.Never = h.fails in
    let b = true_claims in let z : ◌≡◌ {A = ℕ} 0 1 = cc in omega arith

not_five : ¬ Says faults_as5
not_five h = let a : written.Refused 5 ≡ written.Count 1 = h.counts in let z : ◌≡◌ {A = ℕ} 0 1 = cc in omega arith

not_old : ¬ Says leaves_old
not_old h = let a : ◌≡◌ {A = List ℕ} (0 ∷ []) (1 ∷ []) = h.writes in let z : ◌≡◌ {A = ℕ} 0 1 = cc in omega arith

not_copy : ¬ Says copies_operand
not_copy h =
    let a : copy_output empty_sheet not_one work_words (1 ∷ []) ≡ 0 ∷ [] = h.inverts in let b = copy_writes in let z : ◌≡◌ {A = ℕ} 0 1 =
    cc in omega arith

not_count : ¬ Says invents_count
not_count h =
    let a : one_more (call_answer empty_sheet one work_words (0 ∷ [])) ≡ written.Count 1 = h.counts in
    let b : one_more (call_answer empty_sheet one work_words (0 ∷ [])) ≡ written.Count 2 = ap one_more one_counted in
    let z : ◌≡◌ {A = ℕ} 2 1 = cc in
    omega arith

not_short : ¬ Says holds_when_short
not_short h =
    let a : short_claim empty_sheet one none 8191 ≡ verdict.Refused 18 = h.short in let b = short_holds in let z : ◌≡◌ {A = ℕ} 0 1 =
    cc in omega arith

not_flickers : ¬ Says tells_flickers
not_flickers h =
    let a : flicker (claim_answer empty_sheet one none work_words) ≡ verdict.FailsAfter 0 ends.Never = h.fails in
    let b : flicker (claim_answer empty_sheet one none work_words) ≡ verdict.FailsAfter 0 (ends.Before 1) = ap flicker claim_said in
    let z : ◌≡◌ {A = ℕ} 0 1 = cc in
    omega arith

pub eight_shut_out : EightShutOut
eight_shut_out =
    record {
      zero = shut_out gives_zero not_zero;
      true = shut_out claims_true not_true;
      five = shut_out faults_as5 not_five;
      old = shut_out leaves_old not_old;
      copy = shut_out copies_operand not_copy;
      count = shut_out invents_count not_count;
      short = shut_out holds_when_short not_short;
      flickers = shut_out tells_flickers not_flickers;
    }
