-- The defined calls meet demand 2.
use Prim.Native.Nat.{ℕ, ◌≤◌, ◌<◌, max}
use native.Mathlib.Omega.{arith}
use mathlib.Core.Path.{◌≡◌, refl, sym, ◌∙◌, ap}
use mathlib.Core.Bool.{Bool, true, false, cond}
use mathlib.Core.Logic.{◌↔◌}
use mathlib.Core.List.{List, ◌++◌}
use lib.Dec.{ltb}
use lib.ListN.{length, drop, get_or}
use lib.Seq.{take-append_seam}
use borrow.Author.Tests.{ltb-true, ltb-false, eq-eqb, ne_eqb}
use Rattle.signals.specs.Moment.{M}
use Rattle.signals.specs.Signal.{Signal}
use Rattle.signals.specs.Words.{date_of, signal_of, most_words}
use Rattle.signals.specs.Settled.{Same}
use Rattle.signals.specs.Answers.{fault_in, output_of}
use Rattle.signals.specs.Earliest.{JudgedAs}
use Rattle.signals.specs.Implication.{fault_of_verdict}
use Rattle.signals.proofs.Normal.{accepted_normal}
use Rattle.signals.proofs.Implication.{verdict_judged}
use Rattle.signals.proofs.Settling.{settled_later}
use Rattle.signals.proofs.Truth.{not_both_lem}
use Rattle.operations.specs.Calls.{changes_after_m, part_fault}
use Rattle.grammar.specs.Tree.{Tree}
use Rattle.grammar.specs.Grammar.{Writes}
use Rattle.grammar.proofs.Reading.{tree_of_lem}
use Rattle.slices.specs.Bytes.{Bytes, Words}
use Rattle.format.specs.Names.{among}
use Rattle.format.specs.Reading.{sheet_fault, signals_on, names, list_named, environment_on, entry}
use Rattle.format.specs.Sentences.{SheetFaultIs}
use Rattle.format.specs.Calls.{append_fault, appended}
use Rattle.format.proofs.Steps.{same_refl}
use Rattle.format.proofs.Named.{among_snoc, named_new}
use Rattle.format.proofs.Appending.{appends}
use Rattle.format.proofs.Theorems.{append_keeps_sheet}
use Rattle.calls.specs.OnSheet.{signal_on, settling_date, exact_on}
use Rattle.calls.specs.Calls.{needed_work, working_fault, words_on, call_fault, call_answer, call_output, claim_fault, claim_fails}
use Rattle.calls.specs.Calls.{claim_verdict, claim_answer}
use Rattle.calls.specs.NormalLists.{ListFor, TheList}
use Rattle.calls.specs.Engine.{Engine, defined}
use Rattle.calls.specs.Tabled.{CallFaultIs}
use Rattle.calls.specs.Demand2.{Delivered, GivesTheList, GivesTheVerdict, ReadsBack, Demand2}
use Rattle.calls.specs.Demand3.{words_given}
use Rattle.calls.proofs.FirstFault.{passed}
use Rattle.format.proofs.SheetLists.{named_words}
use Rattle.calls.proofs.Settles.{settles, exact_for_lem, one_for}
use Rattle.calls.proofs.PartFaults.{of_late, whole_none}
use Rattle.calls.proofs.ReadingFaults.{derived, text_fine}
use Rattle.calls.proofs.SheetNumbers.{call_sheet, claim_sheet}
use Rattle.calls.proofs.CallFaults.{call_fault_lem, claim_fault_lem}
use Rattle.calls.proofs.NamedFormula.{name_served}
use Rattle.calls.proofs.NotRefused.{Clear, call_clear, clear_call, claim_clear, fault_shown, no_fault, counted, claim_given}
use Rattle.calls.proofs.NotRefused.{claim_fault_shown}

-- a part without 5 or 6: its list is accepted and has no date past M
pub part_accepted : (s : Signal) (l : List ℕ) → ListFor s l → part_fault l ≡ 0 → TheList s l
unfolding part_fault
part_accepted s l h e =
    let a = passed (ltb most_words (length l)) 5 (cond (changes_after_m l) 6 0) (omega arith) e in
    let b = passed (changes_after_m l) 6 0 (omega arith) a.1 in
    record {
      listed = h;
      only = λ m k. one_for k h;
      accepted = (accepted_normal l).1 (h.normal, ltb-false most_words (length l) a.0);
      within_m = λ i m. within i m b.0;
    }
  where
    within : (i : ℕ) → i < length l → changes_after_m l ≡ false → date_of (get_or l i 0) ≤ M
    within i m q = go (ltb M (date_of (get_or l i 0))) refl
      where
        go : (b : Bool) → ltb M (date_of (get_or l i 0)) ≡ b → date_of (get_or l i 0) ≤ M
        go true r = not_both_lem (of_late l i m (ltb-true M (date_of (get_or l i 0)) r)) q
        go false r = ltb-false M (date_of (get_or l i 0)) r

-- a clear formula's words are the one normal list of its signal
pub clear_list : (sheet formula : List ℕ) → Clear sheet formula → (t : Tree) (d : ℕ) → Writes formula t d
    → TheList (signal_on sheet t) (words_on sheet formula)
unfolding words_on working_fault
clear_list sheet formula c t d w =
    rw (tree_of_lem formula t d w)
    (part_accepted (signal_on sheet t) (exact_on sheet t) (exact_for_lem sheet c.sheet_ok t)
    (whole_none sheet t (rw (tree_of_lem formula t d w) at c.parts_ok)))

-- a refused call keeps the output, one without a fault gives the words
fault_keeps : (f : ℕ) (words old : List ℕ) → (¬ (f ≡ 0)) → output_of f words old ≡ old
unfolding output_of
fault_keeps f words old h = rw (ne_eqb f 0 h) refl

none_gives : (f : ℕ) (words old : List ℕ) → f ≡ 0 → output_of f words old ≡ words ++ drop (length words) old
unfolding output_of
none_gives f words old e = rw (eq-eqb f 0 e) refl

pub output_kept : (sheet formula : List ℕ) (work : ℕ) (old : List ℕ) → (¬ (call_fault sheet formula work (length old) ≡ 0))
    → call_output sheet formula work old ≡ old
unfolding call_output
output_kept sheet formula work old h = fault_keeps (call_fault sheet formula work (length old)) (words_on sheet formula) old h

output_given : (sheet formula : List ℕ) (work : ℕ) (old : List ℕ) → call_fault sheet formula work (length old) ≡ 0
    → call_output sheet formula work old ≡ words_on sheet formula ++ drop (length (words_on sheet formula)) old
unfolding call_output
output_given sheet formula work old e = none_gives (call_fault sheet formula work (length old)) (words_on sheet formula) old e

pub delivered : (sheet formula : List ℕ) (work : ℕ) (old : List ℕ) → call_fault sheet formula work (length old) ≡ 0
    → Delivered defined sheet formula work old (words_on sheet formula)
delivered sheet formula work old e =
    record {
      count = counted sheet formula work old e;
      room = (call_clear sheet formula work (length old) e).2;
      output = output_given sheet formula work old e;
    }

-- the words that a call gave are those, as many as the count, that stand first in the output
pub words_given_lem : (E : Engine) (sheet formula : List ℕ) (work : ℕ) (old words : List ℕ) → Delivered E sheet formula work old words
    → words_given E sheet formula work old ≡ words
words_given_lem E sheet formula work old words h = rw (h.count, h.output) (take-append_seam words (drop (length words) old))

-- the fault that an answer shows is the defined one
pub shown : (sheet formula : List ℕ) (work : ℕ) (old : List ℕ)
    → fault_in (call_answer sheet formula work old) ≡ call_fault sheet formula work (length old)
unfolding call_answer
shown sheet formula work old = fault_shown (call_fault sheet formula work (length old)) (words_on sheet formula)

call_faults_lem : (sheet formula : List ℕ) (work : ℕ) (old : List ℕ)
    → CallFaultIs sheet formula work (length old) (fault_in (call_answer sheet formula work old))
call_faults_lem sheet formula work old = rw (shown sheet formula work old) (call_fault_lem sheet formula work (length old))

pub gives : (sheet formula : List ℕ) (work : ℕ) (old : List ℕ) → fault_in (call_answer sheet formula work old) ≡ 0
    → GivesTheList defined sheet formula work old
gives sheet formula work old e =
    let z = no_fault sheet formula work old e in
    let c = (call_clear sheet formula work (length old) z).0 in
    let w = derived formula (text_fine sheet formula c.text_ok) in
    record {
      words = words_on sheet formula;
      delivered = delivered sheet formula work old z;
      tree = w.0;
      depth = w.1;
      writes = w.2;
      the_list = clear_list sheet formula c w.0 w.1 w.2;
    }

-- a verdict of two trees is that of the implication of their signals
pub judged_as : (sheet : List ℕ) → sheet_fault sheet ≡ 0 → (f g : Tree)
    → JudgedAs (signal_on sheet f) (signal_on sheet g) (claim_verdict sheet f g)
unfolding claim_fails
judged_as sheet ok f g =
    let n = max (settling_date sheet f) (settling_date sheet g) in
    (verdict_judged (signal_on sheet f) (signal_on sheet g) n
    (settled_later (signal_on sheet f) (settling_date sheet f) n (settles sheet ok f) (omega arith))
    (settled_later (signal_on sheet g) (settling_date sheet g) n (settles sheet ok g) (omega arith))
    ).said

pub claim_judged : (sheet F G : List ℕ) (work : ℕ) → claim_fault sheet F G work ≡ 0 → (f g : Tree) (d e : ℕ) → Writes F f d → Writes G g e
    → JudgedAs (signal_on sheet f) (signal_on sheet g) (claim_answer sheet F G work)
claim_judged sheet F G work z f g d e w v =
    rw (claim_given sheet F G work z, tree_of_lem F f d w, tree_of_lem G g e v)
    (judged_as sheet (claim_clear sheet F G work z).0.sheet_ok f g)

pub says : (sheet F G : List ℕ) (work : ℕ) → fault_of_verdict (claim_answer sheet F G work) ≡ 0 → GivesTheVerdict defined sheet F G work
says sheet F G work e =
    let z = sym (claim_fault_shown sheet F G work) ∙ e in
    let c = claim_clear sheet F G work z in
    let w = derived F (text_fine sheet F c.0.text_ok) in
    let v = derived G (text_fine sheet G c.1.text_ok) in
    record {
      tree_f = w.0;
      tree_g = v.0;
      depth_f = w.1;
      depth_g = v.1;
      writes_f = w.2;
      writes_g = v.2;
      judged = claim_judged sheet F G work z w.0 v.0 w.1 v.1 w.2 v.2;
    }

-- reading back
written_back : (sheet formula : List ℕ) (work : ℕ) (old words : List ℕ) → fault_in (call_answer sheet formula work old) ≡ 0
    → Delivered defined sheet formula work old words → (tree : Tree) (depth : ℕ) → Writes formula tree depth
    → (later name : List ℕ) → list_named name (signals_on later) ≡ words → Same (environment_on later name) (signal_on sheet tree)
unfolding environment_on
written_back sheet formula work old words e h tree depth w later name q t =
    let z = no_fault sheet formula work old e in
    let c = (call_clear sheet formula work (length old) z).0 in
    let s : words ≡ words_on sheet formula =
    sym (words_given_lem defined sheet formula work old words h)
    ∙ words_given_lem defined sheet formula work old (words_on sheet formula) (delivered sheet formula work old z) in
    ap (λ (l : List ℕ). signal_of l t) (q ∙ s) ∙ (clear_list sheet formula c tree depth w).listed.denotes t

name_back : (sheet name list : List ℕ) → list_named name (signals_on sheet) ≡ list → Words list → sheet_fault sheet ≡ 0
    → among name (names (signals_on sheet)) ≡ true → (work : ℕ) (old : List ℕ) → needed_work sheet ≤ work → length list ≤ length old
    → Delivered defined sheet name work old list
name_back sheet name list q k ok e work old l m =
    let s = name_served sheet name (rw q k) ok e in
    let r = s.same_words ∙ q in
    rw (← r) (delivered sheet name work old (clear_call sheet name s.clear work (length old) l (rw r m)))

append_back : (sheet name list : List ℕ) (room : ℕ) → Bytes sheet → Words list → append_fault sheet name list room ≡ 0
    → (work : ℕ) (old : List ℕ) → needed_work (appended sheet name list) ≤ work → length list ≤ length old
    → Delivered defined (appended sheet name list) name work old list
append_back sheet name list room b k z work old l m =
    let s = append_keeps_sheet sheet name list room b k z in
    let a = appends sheet name list room z in
    let q : list_named name (signals_on (appended sheet name list)) ≡ list =
    rw s.1 (named_new name (signals_on sheet) (entry name list) a.new (same_refl name)) in
    let e : among name (names (signals_on (appended sheet name list))) ≡ true =
    rw (s.1, among_snoc name (signals_on sheet) (entry name list), a.new) (same_refl name) in
    name_back (appended sheet name list) name list q k s.0 e work old l m

-- 14 to 17 by their sentences
sheet_faults_lem : (sheet formula : List ℕ) (work : ℕ) (old : List ℕ) → Bytes sheet → (n : ℕ) → 14 ≤ n → n ≤ 17
    → (fault_in (defined.answer sheet formula work old) ≡ n) ↔ SheetFaultIs sheet n
sheet_faults_lem sheet formula work old b n l m =
    call_sheet sheet formula work (length old) (fault_in (call_answer sheet formula work old)) n
    (call_faults_lem sheet formula work old) b l m

claim_sheet_faults_lem : (sheet F G : List ℕ) (work : ℕ) → Bytes sheet → (n : ℕ) → 14 ≤ n → n ≤ 17
    → (fault_of_verdict (defined.claim sheet F G work) ≡ n) ↔ SheetFaultIs sheet n
claim_sheet_faults_lem sheet F G work b n l m =
    rw (claim_fault_shown sheet F G work) (claim_sheet sheet F G work (claim_fault sheet F G work) n (claim_fault_lem sheet F G work) b l m)

reads_back : ReadsBack defined
reads_back =
    record {
      written = written_back;
      named = λ sheet name small ok e work old l m.
          name_back sheet name (list_named name (signals_on sheet)) refl (named_words sheet name small) ok e work old l m;
      appends = append_back;
    }

pub demand2 : Demand2 defined
demand2 =
    record {
      lists = gives;
      read_back = reads_back;
      claims = says;
      call_faults = λ sheet formula work old. call_faults_lem sheet formula work old;
      claim_faults = λ sheet F G work. rw (claim_fault_shown sheet F G work) (claim_fault_lem sheet F G work);
      sheet_faults = sheet_faults_lem;
      claim_sheet_faults = claim_sheet_faults_lem;
      refused_keeps = λ sheet formula work old e. output_kept sheet formula work old (λ z. e (shown sheet formula work old ∙ z));
    }
