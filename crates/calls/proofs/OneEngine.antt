-- An engine that meets demand 2 is the defined one at every input, one that meets demand 3 wherever formulas are answered.
use Prim.Native.Nat.{ℕ, ◌≤◌}
use native.Mathlib.Omega.{arith}
use mathlib.Core.Path.{◌≡◌, refl, sym, ◌∙◌, ap, fun_ext}
use mathlib.Core.Bool.{Bool, true, false}
use mathlib.Core.Logic.{◌⊎◌, inl, inr}
use mathlib.Core.List.{List, ◌++◌}
use lib.Dec.{ltb}
use lib.ListN.{length, drop}
use borrow.Author.Tests.{ltb-true, ltb-false}
use Rattle.signals.specs.Answers.{fault_in}
use Rattle.signals.specs.Implication.{fault_of_verdict}
use Rattle.signals.specs.declared.Written.{Written}
use Rattle.signals.specs.declared.Written.TheVariants as written
use Rattle.signals.specs.declared.Verdict.{Verdict}
use Rattle.signals.specs.declared.Verdict.TheVariants as verdict
use Rattle.calls.specs.Calls.{needed_work, words_on, call_fault, call_answer, call_output, claim_fault, claim_answer}
use Rattle.calls.specs.Engine.{Engine, defined}
use Rattle.calls.specs.Tabled.{ReadingChecks, WorkingChecks, CallFaultIs, ClaimFaultIs}
use Rattle.signals.specs.Checks.{NoFault}
use Rattle.calls.specs.Demand2.{GivesTheList, Demand2}
use Rattle.calls.specs.Demand3.{RefusedAs, Demand3}
use Rattle.calls.specs.Answered.{Answered, Enough}
use Rattle.calls.specs.OneFault.{OneFault}
use Rattle.calls.specs.OneEngine.{Agrees, OneEngine, OneEngineWhereAnswered, AgreeingMeets}
use Rattle.calls.proofs.FirstFault.{zero_or_not}
use Rattle.signals.proofs.Checks.{Single, check_single}
use Rattle.format.proofs.FaultNumbers.{sheet_of}
use Rattle.calls.proofs.ReadingFaults.{derived, text_fine}
use Rattle.calls.proofs.CallFaults.{call_fault_lem, claim_fault_lem}
use Rattle.calls.proofs.NotRefused.{Clear, call_clear, answered_clear, clear_short, clear_tight, call_refused, enough_served}
use Rattle.calls.proofs.NotRefused.{claim_fault_shown, short_claim_lem}
use Rattle.calls.proofs.Demand2.{demand2, clear_list, delivered, output_kept, claim_judged}
use Rattle.calls.proofs.Demand3.{meets3, demand3, one_verdict}

-- the checks give one fault
none_single : Single NoFault
none_single n m a b = a ∙ sym b

reading_single : (sheet formula : List ℕ) (later : ℕ → Type 0) → Single later → Single (ReadingChecks sheet formula later)
reading_single sheet formula later h = check_single (check_single (check_single (check_single (check_single h))))

working_single : (sheet formula : List ℕ) (later : ℕ → Type 0) → Single later → Single (WorkingChecks sheet formula later)
working_single sheet formula later h = check_single (check_single h)

call_single : (sheet formula : List ℕ) (work room : ℕ) → Single (CallFaultIs sheet formula work room)
call_single sheet formula work room =
    check_single (reading_single sheet formula _ (check_single (working_single sheet formula _ (check_single none_single))))

claim_single : (sheet F G : List ℕ) (work : ℕ) → Single (ClaimFaultIs sheet F G work)
claim_single sheet F G work =
    check_single
    (reading_single sheet F _ (reading_single sheet G _ (check_single (working_single sheet F _ (working_single sheet G _ none_single)))))

pub one_fault : OneFault
one_fault =
    record {
      call = call_fault_lem;
      claim = claim_fault_lem;
      one_of_call = λ sheet formula work room fault h.
          call_single sheet formula work room fault (call_fault sheet formula work room) h (call_fault_lem sheet formula work room);
      one_of_claim = λ sheet F G work fault h. claim_single sheet F G work fault (claim_fault sheet F G work) h
          (claim_fault_lem sheet F G work);
      sheets = sheet_of;
    }

-- an answer with a fault is that refusal
refused : (a : Written) → (¬ (fault_in a ≡ 0)) → a ≡ written.Refused (fault_in a)
refused (written.Count n) h = absurd (h refl)
refused (written.Refused f) h = refl

refused_claim : (v : Verdict) → (¬ (fault_of_verdict v ≡ 0)) → v ≡ verdict.Refused (fault_of_verdict v)
refused_claim verdict.Holds h = absurd (h refl)
refused_claim (verdict.FailsAt k end) h = absurd (h refl)
refused_claim (verdict.FailsAfter k end) h = absurd (h refl)
refused_claim (verdict.Refused f) h = refl

-- a call of an engine and the defined one
abbrev Alike : Engine → List ℕ → List ℕ → ℕ → List ℕ → Type 0
Alike E sheet formula work old =
    (E.answer sheet formula work old ≡ call_answer sheet formula work old)
    × (E.output sheet formula work old ≡ call_output sheet formula work old)

alike_given : (E : Engine) (sheet formula : List ℕ) (work : ℕ) (old : List ℕ) → call_fault sheet formula work (length old) ≡ 0
    → GivesTheList E sheet formula work old → Alike E sheet formula work old
alike_given E sheet formula work old z g =
    let c = (call_clear sheet formula work (length old) z).0 in
    let q : g.words ≡ words_on sheet formula =
    (clear_list sheet formula c g.tree g.depth g.writes).only g.words g.the_list.listed in
    let h = delivered sheet formula work old z in (
      g.delivered.count ∙ ap (λ (l : List ℕ). written.Count (length l)) q ∙ sym h.count,
      g.delivered.output ∙ ap (λ (l : List ℕ). l ++ drop (length l) old) q ∙ sym h.output,
    )

alike_refused : (E : Engine) (sheet formula : List ℕ) (work : ℕ) (old : List ℕ) (n : ℕ) → call_fault sheet formula work (length old) ≡ n
    → (¬ (n ≡ 0))
    → RefusedAs E sheet formula work old n → Alike E sheet formula work old
alike_refused E sheet formula work old n e h r = (
  r.answer ∙ sym (call_refused sheet formula work old n e h),
  r.output ∙ sym (output_kept sheet formula work old (λ z. h (sym e ∙ z))),
)

module _ (E : Engine) (D : Demand2 E) where
  same_fault : (sheet formula : List ℕ) (work : ℕ) (old : List ℕ)
      → fault_in (E.answer sheet formula work old) ≡ call_fault sheet formula work (length old)
  same_fault sheet formula work old =
      one_fault.one_of_call sheet formula work (length old) (fault_in (E.answer sheet formula work old))
      (D.call_faults sheet formula work old)

  alike : (sheet formula : List ℕ) (work : ℕ) (old : List ℕ) → Alike E sheet formula work old
  alike sheet formula work old = go (zero_or_not (fault_in (E.answer sheet formula work old)))
    where
      s : call_fault sheet formula work (length old) ≡ fault_in (E.answer sheet formula work old)
      s = sym (same_fault sheet formula work old)

      go : (fault_in (E.answer sheet formula work old) ≡ 0) ⊎ (¬ (fault_in (E.answer sheet formula work old) ≡ 0))
          → Alike E sheet formula work old
      go (inl e) = alike_given E sheet formula work old (s ∙ e) (D.lists sheet formula work old e)
      go (inr e) =
          alike_refused E sheet formula work old (fault_in (E.answer sheet formula work old)) s e
          (record { answer = refused (E.answer sheet formula work old) e; output = D.refused_keeps sheet formula work old e })

  same_claim_fault : (sheet F G : List ℕ) (work : ℕ) → fault_of_verdict (E.claim sheet F G work) ≡ claim_fault sheet F G work
  same_claim_fault sheet F G work =
      one_fault.one_of_claim sheet F G work (fault_of_verdict (E.claim sheet F G work)) (D.claim_faults sheet F G work)

  same_claim : (sheet F G : List ℕ) (work : ℕ) → E.claim sheet F G work ≡ claim_answer sheet F G work
  same_claim sheet F G work = go (zero_or_not (fault_of_verdict (E.claim sheet F G work)))
    where
      s : fault_of_verdict (E.claim sheet F G work) ≡ claim_fault sheet F G work
      s = same_claim_fault sheet F G work

      go : (fault_of_verdict (E.claim sheet F G work) ≡ 0) ⊎ (¬ (fault_of_verdict (E.claim sheet F G work) ≡ 0))
          → E.claim sheet F G work ≡ claim_answer sheet F G work
      go (inl e) =
          let g = D.claims sheet F G work e in
          one_verdict
          g.judged
          (claim_judged sheet F G work (sym s ∙ e) g.tree_f g.tree_g g.depth_f g.depth_g g.writes_f g.writes_g)
      go (inr e) =
          refused_claim (E.claim sheet F G work) e
          ∙ ap verdict.Refused (s ∙ sym (claim_fault_shown sheet F G work))
          ∙ sym (refused_claim (claim_answer sheet F G work) (λ k. e (s ∙ sym (claim_fault_shown sheet F G work) ∙ k)))

pub one_engine : OneEngine
one_engine E D =
    record {
      answer = λ sheet formula work old. (alike E D sheet formula work old).0;
      output = λ sheet formula work old. (alike E D sheet formula work old).1;
      claim = same_claim E D;
    }

-- the same of an engine that meets demand 3, where formulas are answered
module _ (E : Engine) (D : Demand3 E) where
  alike_answered : (sheet formula : List ℕ) → Answered sheet formula → (work : ℕ) (old : List ℕ) → Alike E sheet formula work old
  alike_answered sheet formula a work old = by_work (ltb work (needed_work sheet)) refl
    where
      c : Clear sheet formula
      c = answered_clear sheet formula a

      by_room : (t : Bool) → ltb (length old) (length (words_on sheet formula)) ≡ t → needed_work sheet ≤ work
          → Alike E sheet formula work old
      by_room true q l =
          let m = ltb-true (length old) (length (words_on sheet formula)) q in
          alike_refused E sheet formula work old 7 (clear_tight sheet formula c work (length old) l m) (λ z. omega (arith, z))
          (D.short_output sheet formula a work old l m)
      by_room false q l =
          let n : Enough sheet formula work old = record { area = l; room = ltb-false (length old) (length (words_on sheet formula)) q } in
          alike_given E sheet formula work old (enough_served sheet formula a work old n)
          (D.lists sheet formula a work old (D.served sheet formula a work old n))

      by_work : (t : Bool) → ltb work (needed_work sheet) ≡ t → Alike E sheet formula work old
      by_work true q =
          let l = ltb-true work (needed_work sheet) q in
          alike_refused E sheet formula work old 18 (clear_short sheet formula c work (length old) l) (λ z. omega (arith, z))
          (D.short_work sheet formula a work old l)
      by_work false q = by_room (ltb (length old) (length (words_on sheet formula))) refl (ltb-false work (needed_work sheet) q)

  alike_claim : (sheet F G : List ℕ) → Answered sheet F → Answered sheet G → (work : ℕ)
      → E.claim sheet F G work ≡ claim_answer sheet F G work
  alike_claim sheet F G a b work = go (ltb work (needed_work sheet)) refl
    where
      go : (t : Bool) → ltb work (needed_work sheet) ≡ t → E.claim sheet F G work ≡ claim_answer sheet F G work
      go true q =
          let l = ltb-true work (needed_work sheet) q in
          D.claim_short_work sheet F G a b work l ∙ sym (short_claim_lem sheet F G a b work l)
      go false q =
          let l = ltb-false work (needed_work sheet) q in
          let w = derived F (text_fine sheet F (answered_clear sheet F a).text_ok) in
          let v = derived G (text_fine sheet G (answered_clear sheet G b).text_ok) in
          one_verdict
          (D.claims sheet F G w.0 v.0 w.1 v.1 w.2 v.2 a b work (D.claim_served sheet F G a b work l))
          (demand3.claims sheet F G w.0 v.0 w.1 v.1 w.2 v.2 a b work (demand3.claim_served sheet F G a b work l))

pub one_engine_where_answered : OneEngineWhereAnswered
one_engine_where_answered E = (
  λ D.
      record {
        answer = λ sheet formula a work old. (alike_answered E D sheet formula a work old).0;
        output = λ sheet formula a work old. (alike_answered E D sheet formula a work old).1;
        claim = alike_claim E D;
        no_other = D.answered;
        no_other_claim = D.claim_answered;
      },
  meets3 E,
)

-- an engine that agrees with the defined one everywhere is it
same_engine : (E : Engine) → Agrees E → E ≡ defined
same_engine E h = λ i.
    record {
      answer = fun_ext (λ sheet. fun_ext (λ formula. fun_ext (λ work. fun_ext (λ old. h.answer sheet formula work old)))) i;
      output = fun_ext (λ sheet. fun_ext (λ formula. fun_ext (λ work. fun_ext (λ old. h.output sheet formula work old)))) i;
      claim = fun_ext (λ sheet. fun_ext (λ F. fun_ext (λ G. fun_ext (λ work. h.claim sheet F G work)))) i;
    }

pub agreeing_meets : AgreeingMeets
agreeing_meets E h = rw (same_engine E h) (demand2, demand3)
