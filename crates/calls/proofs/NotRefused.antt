-- Which calls are not refused: those of answered formulas with enough work words and room, and claims of them.
use Prim.Native.Nat.{ℕ, ◌≤◌, ◌<◌}
use native.Mathlib.Omega.{arith}
use mathlib.Core.Path.{◌≡◌, refl, sym, ◌∙◌, ap}
use mathlib.Core.Bool.{Bool, true, false, cond}
use mathlib.Core.List.{List}
use lib.Dec.{ltb, eqb}
use lib.ListN.{length}
use borrow.Author.Tests.{ltb-false, le-ltb, lt-ltb, eqb-true, eq-eqb, ne_eqb}
use Rattle.signals.specs.Answers.{fault_in, written_of, verdict_for}
use Rattle.signals.specs.Implication.{fault_of_verdict}
use Rattle.signals.proofs.AnswersSay.{answers_say}
use Rattle.signals.specs.declared.Written.TheVariants as written
use Rattle.signals.specs.declared.Verdict.TheVariants as verdict
use Rattle.grammar.specs.Tree.{Tree}
use Rattle.grammar.specs.Formula.{formula_tree}
use Rattle.format.specs.Reading.{sheet_fault}
use Rattle.calls.specs.Calls.{needed_work, reading_fault, work_fault, working_fault, words_on, call_fault, call_answer, claim_fault}
use Rattle.calls.specs.Calls.{claim_fails, claim_verdict, claim_answer}
use Rattle.operations.specs.Calls.{room_fault}
use Rattle.calls.specs.Answered.{Answered, Enough}
use Rattle.calls.specs.NotRefused.{NotRefused}
use Rattle.calls.proofs.FirstFault.{passed}
use Rattle.signals.specs.Answers.{first_of}
use Rattle.signals.proofs.FirstFault.{both_none, first_with_none, next_is, first_some}

-- a formula without a fault of the sheet, of the text or of a part
pub record Clear (sheet formula : List ℕ) : Type 0 where
  pub sheet_ok : sheet_fault sheet ≡ 0
  pub text_ok : reading_fault sheet formula ≡ 0
  pub parts_ok : working_fault sheet formula ≡ 0

pub work_ok : (sheet : List ℕ) (work : ℕ) → needed_work sheet ≤ work → work_fault sheet work ≡ 0
unfolding work_fault
work_ok sheet work l = rw (le-ltb work (needed_work sheet) l) refl

pub work_short : (sheet : List ℕ) (work : ℕ) → work < needed_work sheet → work_fault sheet work ≡ 18
unfolding work_fault
work_short sheet work l = rw (lt-ltb work (needed_work sheet) l) refl

pub work_from : (sheet : List ℕ) (work : ℕ) → work_fault sheet work ≡ 0 → needed_work sheet ≤ work
unfolding work_fault
work_from sheet work e = ltb-false work (needed_work sheet) (passed (ltb work (needed_work sheet)) 18 0 (omega arith) e).0

room_ok : (l : List ℕ) (room : ℕ) → length l ≤ room → room_fault l room ≡ 0
unfolding room_fault
room_ok l room h = rw (le-ltb room (length l) h) refl

room_short : (l : List ℕ) (room : ℕ) → room < length l → room_fault l room ≡ 7
unfolding room_fault
room_short l room h = rw (lt-ltb room (length l) h) refl

room_from : (l : List ℕ) (room : ℕ) → room_fault l room ≡ 0 → length l ≤ room
unfolding room_fault
room_from l room e = ltb-false room (length l) (passed (ltb room (length l)) 7 0 (omega arith) e).0

-- a call without a fault: the formula is clear, and there was enough
pub call_clear : (sheet formula : List ℕ) (work room : ℕ) → call_fault sheet formula work room ≡ 0
    → Clear sheet formula × (needed_work sheet ≤ work) × (length (words_on sheet formula) ≤ room)
unfolding call_fault
call_clear sheet formula work room e =
    let r = room_fault (words_on sheet formula) room in
    let a = both_none (sheet_fault sheet)
    (first_of (reading_fault sheet formula) (first_of (work_fault sheet work) (first_of (working_fault sheet formula) r))) e in
    let b = both_none (reading_fault sheet formula) (first_of (work_fault sheet work) (first_of (working_fault sheet formula) r)) a.1 in
    let c = both_none (work_fault sheet work) (first_of (working_fault sheet formula) r) b.1 in
    let d = both_none (working_fault sheet formula) r c.1 in (
      record { sheet_ok = a.0; text_ok = b.0; parts_ok = d.0 },
      work_from sheet work c.0,
      room_from (words_on sheet formula) room d.1,
    )

-- a clear formula's call has no fault but the work area's and the room's
clear_fault : (sheet formula : List ℕ) → Clear sheet formula → (work room : ℕ)
    → call_fault sheet formula work room ≡ first_of (work_fault sheet work) (room_fault (words_on sheet formula) room)
unfolding call_fault
clear_fault sheet formula c work room =
    next_is (sheet_fault sheet) _ c.sheet_ok
    ∙ next_is (reading_fault sheet formula) _ c.text_ok
    ∙ ap (first_of (work_fault sheet work)) (next_is (working_fault sheet formula) _ c.parts_ok)

pub clear_call : (sheet formula : List ℕ) → Clear sheet formula → (work room : ℕ) → needed_work sheet ≤ work
    → length (words_on sheet formula) ≤ room
    → call_fault sheet formula work room ≡ 0
clear_call sheet formula c work room l m =
    clear_fault sheet formula c work room
    ∙ next_is (work_fault sheet work) _ (work_ok sheet work l)
    ∙ room_ok (words_on sheet formula) room m

pub clear_short : (sheet formula : List ℕ) → Clear sheet formula → (work room : ℕ) → work < needed_work sheet
    → call_fault sheet formula work room ≡ 18
clear_short sheet formula c work room l =
    clear_fault sheet formula c work room
    ∙ first_some (work_fault sheet work) (room_fault (words_on sheet formula) room) 18 (work_short sheet work l) (omega arith)

pub clear_tight : (sheet formula : List ℕ) → Clear sheet formula → (work room : ℕ) → needed_work sheet ≤ work
    → room < length (words_on sheet formula)
    → call_fault sheet formula work room ≡ 7
clear_tight sheet formula c work room l m =
    clear_fault sheet formula c work room
    ∙ next_is (work_fault sheet work) _ (work_ok sheet work l)
    ∙ room_short (words_on sheet formula) room m

pub answered_clear : (sheet formula : List ℕ) → Answered sheet formula → Clear sheet formula
answered_clear sheet formula a = (call_clear sheet formula a.0 a.1 (a.2 a.0 a.1 (omega arith) (omega arith))).0

pub clear_answered : (sheet formula : List ℕ) → Clear sheet formula → Answered sheet formula
clear_answered sheet formula c = (needed_work sheet, length (words_on sheet formula), clear_call sheet formula c)

-- the fault that an answer shows
pub fault_shown : (f : ℕ) (words : List ℕ) → fault_in (written_of f words) ≡ f
unfolding written_of
fault_shown f words = go (eqb f 0) refl
  where
    go : (b : Bool) → eqb f 0 ≡ b → fault_in (cond b (written.Count (length words)) (written.Refused f)) ≡ f
    go true q = sym (eqb-true f 0 q)
    go false q = refl

pub no_fault : (sheet formula : List ℕ) (work : ℕ) (old : List ℕ) → fault_in (call_answer sheet formula work old) ≡ 0
    → call_fault sheet formula work (length old) ≡ 0
unfolding call_answer
no_fault sheet formula work old e = sym (fault_shown (call_fault sheet formula work (length old)) (words_on sheet formula)) ∙ e

pub counted : (sheet formula : List ℕ) (work : ℕ) (old : List ℕ) → call_fault sheet formula work (length old) ≡ 0
    → call_answer sheet formula work old ≡ written.Count (length (words_on sheet formula))
unfolding call_answer written_of
counted sheet formula work old e = rw (eq-eqb (call_fault sheet formula work (length old)) 0 e) refl

pub call_refused : (sheet formula : List ℕ) (work : ℕ) (old : List ℕ) (n : ℕ) → call_fault sheet formula work (length old) ≡ n → (¬ (n ≡ 0))
    → call_answer sheet formula work old ≡ written.Refused n
unfolding call_answer written_of
call_refused sheet formula work old n e h =
    rw (ne_eqb (call_fault sheet formula work (length old)) 0 (λ z. h (sym e ∙ z))) (ap written.Refused e)

-- claims
pub claim_clear : (sheet F G : List ℕ) (work : ℕ) → claim_fault sheet F G work ≡ 0
    → Clear sheet F × Clear sheet G × (needed_work sheet ≤ work)
unfolding claim_fault
claim_clear sheet F G work e =
    let p = first_of (working_fault sheet F) (working_fault sheet G) in
    let w = first_of (work_fault sheet work) p in
    let a = both_none (sheet_fault sheet) (first_of (reading_fault sheet F) (first_of (reading_fault sheet G) w)) e in
    let b = both_none (reading_fault sheet F) (first_of (reading_fault sheet G) w) a.1 in
    let c = both_none (reading_fault sheet G) w b.1 in
    let d = both_none (work_fault sheet work) p c.1 in
    let f = both_none (working_fault sheet F) (working_fault sheet G) d.1 in (
      record { sheet_ok = a.0; text_ok = b.0; parts_ok = f.0 },
      record { sheet_ok = a.0; text_ok = c.0; parts_ok = f.1 },
      work_from sheet work d.0,
    )

-- with both formulas clear a claim's fault is the work area's
pub clear_claim : (sheet F G : List ℕ) → Clear sheet F → Clear sheet G → (work : ℕ) → claim_fault sheet F G work ≡ work_fault sheet work
unfolding claim_fault
clear_claim sheet F G c d work =
    next_is (sheet_fault sheet) _ c.sheet_ok
    ∙ next_is (reading_fault sheet F) _ c.text_ok
    ∙ next_is (reading_fault sheet G) _ d.text_ok
    ∙ ap (first_of (work_fault sheet work)) (next_is (working_fault sheet F) (working_fault sheet G) c.parts_ok ∙ d.parts_ok)
    ∙ first_with_none (work_fault sheet work)

pub claim_given : (sheet F G : List ℕ) (work : ℕ) → claim_fault sheet F G work ≡ 0
    → claim_answer sheet F G work ≡ claim_verdict sheet (formula_tree F) (formula_tree G)
unfolding claim_answer verdict_for
claim_given sheet F G work e = rw (eq-eqb (claim_fault sheet F G work) 0 e) refl

claim_refused : (sheet F G : List ℕ) (work n : ℕ) → claim_fault sheet F G work ≡ n → 0 < n → claim_answer sheet F G work ≡ verdict.Refused n
unfolding claim_answer verdict_for
claim_refused sheet F G work n e l = rw (ne_eqb (claim_fault sheet F G work) 0 (λ z. omega arith)) (ap verdict.Refused e)

-- a verdict is no refusal
pub claim_no_fault : (sheet : List ℕ) (f g : Tree) → fault_of_verdict (claim_verdict sheet f g) ≡ 0
unfolding verdict_for
claim_no_fault sheet f g = answers_say.verdict.fault 0 (claim_fails sheet f g)

-- the fault that a claim's answer shows
pub claim_fault_shown : (sheet F G : List ℕ) (work : ℕ) → fault_of_verdict (claim_answer sheet F G work) ≡ claim_fault sheet F G work
unfolding claim_answer
claim_fault_shown sheet F G work =
    answers_say.verdict.fault (claim_fault sheet F G work) (claim_fails sheet (formula_tree F) (formula_tree G))

pub answered_claim : (sheet F G : List ℕ) → Answered sheet F → Answered sheet G → (work : ℕ)
    → claim_fault sheet F G work ≡ work_fault sheet work
answered_claim sheet F G a b work = clear_claim sheet F G (answered_clear sheet F a) (answered_clear sheet G b) work

pub given_claim : (sheet F G : List ℕ) → Answered sheet F → Answered sheet G → (work : ℕ) → needed_work sheet ≤ work
    → claim_answer sheet F G work ≡ claim_verdict sheet (formula_tree F) (formula_tree G)
given_claim sheet F G a b work l = claim_given sheet F G work (answered_claim sheet F G a b work ∙ work_ok sheet work l)

pub short_claim_lem : (sheet F G : List ℕ) → Answered sheet F → Answered sheet G → (work : ℕ) → work < needed_work sheet
    → claim_answer sheet F G work ≡ verdict.Refused 18
short_claim_lem sheet F G a b work l =
    claim_refused sheet F G work 18 (answered_claim sheet F G a b work ∙ work_short sheet work l) (omega arith)

pub enough_served : (sheet formula : List ℕ) → Answered sheet formula → (work : ℕ) (old : List ℕ) → Enough sheet formula work old
    → call_fault sheet formula work (length old) ≡ 0
enough_served sheet formula a work old n = clear_call sheet formula (answered_clear sheet formula a) work (length old) n.area n.room

needed : (sheet : List ℕ) → needed_work sheet ≡ 8192
unfolding needed_work
needed sheet = refl

pub not_refused : NotRefused
not_refused =
    record {
      needed = needed;
      enough = λ sheet formula a work old n. counted sheet formula work old (enough_served sheet formula a work old n);
      means = λ sheet formula work old e.
          clear_answered sheet formula (call_clear sheet formula work (length old) (no_fault sheet formula work old e)).0;
      means_enough = λ sheet formula work old e.
          let c = call_clear sheet formula work (length old) (no_fault sheet formula work old e) in
          record { area = c.1; room = c.2 };
      claims = given_claim;
      verdicts = λ sheet F G a b work l.
          ap fault_of_verdict (given_claim sheet F G a b work l) ∙ claim_no_fault sheet (formula_tree F) (formula_tree G);
      only18 = short_claim_lem;
      exactly = λ sheet formula. (
        λ a. let c = answered_clear sheet formula a in (c.sheet_ok, c.text_ok, c.parts_ok),
        λ h. clear_answered sheet formula (record { sheet_ok = h.0; text_ok = h.1; parts_ok = h.2 }),
      );
    }
