-- The defined calls meet demand 3, and so does every engine that agrees with them where formulas are answered.
use Prim.Native.Nat.{ℕ}
use native.Mathlib.Omega.{arith}
use mathlib.Core.Path.{◌≡◌, refl, sym, ◌∙◌, ap}
use mathlib.Core.Bool.{Bool, true, false}
use mathlib.Core.Logic.{◌⊎◌, inl, inr}
use mathlib.Core.List.{List}
use lib.Dec.{ltb}
use lib.ListN.{length}
use borrow.Author.Tests.{ltb-true, ltb-false}
use Rattle.signals.specs.Signal.{Signal}
use Rattle.signals.specs.Words.{signal_of}
use Rattle.signals.specs.Settled.{Same}
use Rattle.signals.specs.Answers.{fault_in, count_in, Span}
use Rattle.signals.specs.Earliest.{JudgedAs}
use Rattle.signals.specs.Implication.{fails_in, fault_of_verdict}
use Rattle.signals.specs.declared.Verdict.{Verdict}
use Rattle.signals.specs.declared.Verdict.TheVariants.{Holds}
use Rattle.grammar.specs.Tree.{Tree}
use Rattle.grammar.specs.Grammar.{Writes}
use Rattle.grammar.specs.Formula.{formula_tree}
use Rattle.grammar.proofs.Reading.{tree_of_lem}
use Rattle.laws.specs.Rewriting.{Rewrites}
use Rattle.laws.proofs.Soundness.{same_signal}
use Rattle.format.specs.Reading.{environment_on}
use Rattle.calls.specs.OnSheet.{signal_on}
use Rattle.calls.specs.Calls.{needed_work, words_on, call_fault, claim_fault, claim_verdict, claim_answer}
use Rattle.calls.specs.Answered.{Answered}
use Rattle.calls.specs.Engine.{Engine, defined}
use Rattle.calls.specs.Demand2.{Delivered}
use Rattle.calls.specs.Demand3.{Served, words_given, RefusedAs, Demand3}
use Rattle.calls.specs.OneEngine.{AgreesWhereAnswered}
use Rattle.calls.proofs.ReadingFaults.{derived, text_fine}
use Rattle.calls.proofs.NotRefused.{Clear, answered_clear, clear_answered, clear_short, clear_tight, no_fault, call_refused}
use Rattle.calls.proofs.NotRefused.{enough_served}
use Rattle.calls.proofs.NotRefused.{claim_clear, claim_fault_shown, given_claim, short_claim_lem, not_refused}
use Rattle.calls.proofs.Demand2.{clear_list, output_kept, delivered, words_given_lem, shown, judged_as, claim_judged}

-- one verdict for two signals
pub one_verdict : {f g : Signal} {v w : Verdict} → JudgedAs f g v → JudgedAs f g w → v ≡ w
one_verdict {f} {g} {v} {w} a b = go a.either
  where
    go : (v ≡ Holds) ⊎ ((s : Span) × (v ≡ fails_in s)) → v ≡ w
    go (inl e) = e ∙ sym (b.holds.1 (a.holds.0 e))
    go (inr (s, e)) = e ∙ sym ((b.fails s).1 ((a.fails s).0 e))

-- equal words exactly for equal signals
words_of_same : (sheetF sheetG F G : List ℕ) → Clear sheetF F → Clear sheetG G → (f g : Tree) (d e : ℕ) → Writes F f d → Writes G g e
    → Same (signal_on sheetF f) (signal_on sheetG g) → words_on sheetF F ≡ words_on sheetG G
words_of_same sheetF sheetG F G a b f g d e w v s =
    let l = clear_list sheetF F a f d w in
    let m = clear_list sheetG G b g e v in
    m.only (words_on sheetF F) (record { normal = l.listed.normal; denotes = λ t. l.listed.denotes t ∙ s t })

same_of_words : (sheetF sheetG F G : List ℕ) → Clear sheetF F → Clear sheetG G → (f g : Tree) (d e : ℕ) → Writes F f d → Writes G g e
    → words_on sheetF F ≡ words_on sheetG G → Same (signal_on sheetF f) (signal_on sheetG g)
same_of_words sheetF sheetG F G a b f g d e w v q t =
    sym ((clear_list sheetF F a f d w).listed.denotes t)
    ∙ ap (λ (l : List ℕ). signal_of l t) q
    ∙ (clear_list sheetG G b g e v).listed.denotes t

rewritten_words : (F G : List ℕ) (f g : Tree) (d e : ℕ) → Writes F f d → Writes G g e → Rewrites f g
    → (sheet : List ℕ) → Answered sheet F → Answered sheet G → words_on sheet F ≡ words_on sheet G
rewritten_words F G f g d e w v r sheet a b =
    words_of_same sheet sheet F G (answered_clear sheet F a) (answered_clear sheet G b) f g d e w v
    (λ t. ap (λ (s : Signal). s t) (same_signal f g r (environment_on sheet)))

-- the trees of F and G have one signal
one_signal : (F G : List ℕ) (f g : Tree) (d e : ℕ) → Writes F f d → Writes G g e → Rewrites f g → (sheet : List ℕ)
    → signal_on sheet (formula_tree F) ≡ signal_on sheet (formula_tree G)
one_signal F G f g d e w v r sheet = rw (tree_of_lem F f d w, tree_of_lem G g e v) (same_signal f g r (environment_on sheet))

-- two claims whose sides have the same signals give one answer
one_answer : (sheet F G H K : List ℕ) → Answered sheet F → Answered sheet G → Answered sheet H → Answered sheet K
    → signal_on sheet (formula_tree F) ≡ signal_on sheet (formula_tree H) → signal_on sheet (formula_tree G) ≡ signal_on sheet
    (formula_tree K)
    → (work : ℕ) → claim_answer sheet F G work ≡ claim_answer sheet H K work
one_answer sheet F G H K a b c d p q work = go (ltb work (needed_work sheet)) refl
  where
    one : claim_verdict sheet (formula_tree F) (formula_tree G) ≡ claim_verdict sheet (formula_tree H) (formula_tree K)
    one =
        let ok = (answered_clear sheet F a).sheet_ok in
        one_verdict (judged_as sheet ok (formula_tree F) (formula_tree G))
        (rw (p, q) (judged_as sheet ok (formula_tree H) (formula_tree K)))

    go : (t : Bool) → ltb work (needed_work sheet) ≡ t → claim_answer sheet F G work ≡ claim_answer sheet H K work
    go true z =
        let l = ltb-true work (needed_work sheet) z in
        short_claim_lem sheet F G a b work l ∙ sym (short_claim_lem sheet H K c d work l)
    go false z =
        let l = ltb-false work (needed_work sheet) z in
        given_claim sheet F G a b work l ∙ one ∙ sym (given_claim sheet H K c d work l)

-- an engine that agrees with the defined one where formulas are answered
module _ (E : Engine) (A : AgreesWhereAnswered E) where
  -- what its call without a fault gave
  given : (sheet F : List ℕ) → Answered sheet F → (work : ℕ) (old : List ℕ) → Served E sheet F work old
      → Delivered E sheet F work old (words_on sheet F)
  given sheet F a work old e =
      let same = A.answer sheet F a work old in
      let h = delivered sheet F work old (no_fault sheet F work old (sym (ap fault_in same) ∙ e)) in
      record { count = same ∙ h.count; room = h.room; output = A.output sheet F a work old ∙ h.output }

  words : (sheet F : List ℕ) → Answered sheet F → (work : ℕ) (old : List ℕ) → Served E sheet F work old
      → words_given E sheet F work old ≡ words_on sheet F
  words sheet F a work old e = words_given_lem E sheet F work old (words_on sheet F) (given sheet F a work old e)

  count : (sheet F : List ℕ) → Answered sheet F → (work : ℕ) (old : List ℕ) → Served E sheet F work old
      → count_in (E.answer sheet F work old) ≡ length (words_on sheet F)
  count sheet F a work old e = ap count_in (given sheet F a work old e).count

  refused : (sheet F : List ℕ) → Answered sheet F → (work : ℕ) (old : List ℕ) (n : ℕ) → call_fault sheet F work (length old) ≡ n
      → (¬ (n ≡ 0))
      → RefusedAs E sheet F work old n
  refused sheet F a work old n e h =
      record {
        answer = A.answer sheet F a work old ∙ call_refused sheet F work old n e h;
        output = A.output sheet F a work old ∙ output_kept sheet F work old (λ z. h (sym e ∙ z));
      }

  -- the fault that a claim of two answered formulas shows
  claim_shows : (sheet F G : List ℕ) → Answered sheet F → Answered sheet G → (work : ℕ)
      → fault_of_verdict (E.claim sheet F G work) ≡ claim_fault sheet F G work
  claim_shows sheet F G a b work = ap fault_of_verdict (A.claim sheet F G a b work) ∙ claim_fault_shown sheet F G work

  pub meets3 : Demand3 E
  meets3 =
      record {
        served = λ sheet F a work old n.
            ap fault_in (A.answer sheet F a work old) ∙ shown sheet F work old ∙ enough_served sheet F a work old n;
        answered = λ sheet F work old e. A.no_other sheet F work old e;
        short_work = λ sheet F a work old l.
            refused sheet F a work old 18 (clear_short sheet F (answered_clear sheet F a) work (length old) l) (λ z. omega (arith, z));
        short_output = λ sheet F a work old l m.
            refused sheet F a work old 7 (clear_tight sheet F (answered_clear sheet F a) work (length old) l m) (λ z. omega (arith, z));
        rewritten = λ F G f g d e w v r sheet a b.
            let q = rewritten_words F G f g d e w v r sheet a b in
            record {
              count = λ workF workG oldF oldG x y. count sheet F a workF oldF x ∙ ap length q ∙ sym (count sheet G b workG oldG y);
              words = λ workF workG oldF oldG x y. words sheet F a workF oldF x ∙ q ∙ sym (words sheet G b workG oldG y);
            };
        third = λ F G H f g d e w v r sheet a b c.
            let s = one_signal F G f g d e w v r sheet in
            record {
              as_first =
                  λ work. A.claim sheet H F c a work ∙ one_answer sheet H F H G c a c b refl s work ∙ sym (A.claim sheet H G c b work);
              as_second =
                  λ work. A.claim sheet F H a c work ∙ one_answer sheet F H G H a c b c s refl work ∙ sym (A.claim sheet G H b c work);
            };
        claims = λ sheet F G f g d e w v a b work z.
            rw (A.claim sheet F G a b work) (claim_judged sheet F G work (sym (claim_shows sheet F G a b work) ∙ z) f g d e w v);
        claim_served = λ sheet F G a b work l. ap fault_of_verdict (A.claim sheet F G a b work) ∙ not_refused.verdicts sheet F G a b work l;
        claim_short_work = λ sheet F G a b work l. A.claim sheet F G a b work ∙ short_claim_lem sheet F G a b work l;
        claim_answered = A.no_other_claim;
        lists = λ sheet F a work old e.
            let c = answered_clear sheet F a in
            let w = derived F (text_fine sheet F c.text_ok) in
            record {
              words = words_on sheet F;
              delivered = given sheet F a work old e;
              tree = w.0;
              depth = w.1;
              writes = w.2;
              the_list = clear_list sheet F c w.0 w.1 w.2;
            };
        exactly = λ sheetF sheetG F G f g d e w v a b workF workG oldF oldG x y.
            let p = words sheetF F a workF oldF x in
            let q = words sheetG G b workG oldG y in
            let m = answered_clear sheetF F a in
            let n = answered_clear sheetG G b in (
              λ z. same_of_words sheetF sheetG F G m n f g d e w v (sym p ∙ z ∙ q),
              λ s. p ∙ words_of_same sheetF sheetG F G m n f g d e w v s ∙ sym q,
            );
      }

-- a claim without a fault is of two answered formulas
judged_answered : (sheet F G : List ℕ) (work : ℕ) → fault_of_verdict (claim_answer sheet F G work) ≡ 0 → Answered sheet F × Answered sheet G
judged_answered sheet F G work e =
    let c = claim_clear sheet F G work (sym (claim_fault_shown sheet F G work) ∙ e) in
    (clear_answered sheet F c.0, clear_answered sheet G c.1)

pub demand3 : Demand3 defined
demand3 =
    meets3 defined
    (record {
      answer = λ sheet formula a work old. refl;
      output = λ sheet formula a work old. refl;
      claim = λ sheet F G a b work. refl;
      no_other = not_refused.means;
      no_other_claim = judged_answered;
    })
