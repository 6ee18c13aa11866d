-- The claim of two formulas from its pieces: the faults in document 01's order, then the verdict of the two signals.
use Prim.Native.Nat.{ℕ, max}
use native.Mathlib.Omega.{arith}
use mathlib.Core.Path.{◌≡◌, refl, sym, ◌∙◌, ap}
use mathlib.Core.List.{List, [], ◌∷◌, ◌++◌}
use mathlib.Core.Logic.{◌⊎◌, inl, inr}
use mathlib.Core.Option.{Option}
use lib.ListN.{length}
use borrow.Author.Tests.{eq-eqb, ne_eqb}
use Rattle.signals.specs.Words.{list_fault, last_date}
use Rattle.signals.specs.declared.Verdict.{Verdict}
use Rattle.signals.specs.declared.Verdict.TheVariants.{Refused}
use Rattle.signals.proofs.Settling.{settled_later}
use Rattle.grammar.specs.Tree.{Tree}
use Rattle.grammar.specs.Formula.{formula_tree}
use Rattle.signals.proofs.AnyDate.{one_verdict}
use Rattle.questions.specs.Questions.{implies_of, later_last}
use Rattle.signals.specs.Words.{pair_fault}
use Rattle.format.specs.Reading.{sheet_fault}
use Rattle.calls.specs.OnSheet.{exact_on, signal_on, settling_date}
use Rattle.calls.specs.Calls.{reading_fault, work_fault, working_fault, words_on, claim_fault, claim_fails, claim_verdict, claim_answer}
use Rattle.calls.proofs.Settles.{settles}
use Rattle.machine.specs.Machine.{placed_codes, judge_fault, Judged, claim_on_fault, ClaimOn}
use Rattle.machine.specs.Stack.{Runs, RanOut}
use Rattle.calls.specs.Work.{KeptWhen, first_claim_fault}
use Rattle.slices.specs.Bytes.{Bytes, Words}
use Rattle.machine.proofs.Exact.{signal_is, settled_at}
use Rattle.machine.proofs.FormulaRan.{formula_ran, in_a_row}
use Rattle.machine.proofs.Calling.{Outcome, outcome}
use Rattle.signals.specs.Answers.{first_of, Span, judged_by, verdict_for}
use Rattle.signals.proofs.FirstFault.{first_is, next_is, first_assoc}

-- faults in their order
pub by_first : (f g rest : ℕ) (v : Option Span) → g ≡ f → (f ≡ 0 → ⊥) → Refused f ≡ verdict_for (first_of g rest) v
unfolding verdict_for
by_first f g rest v e n =
    let m : g ≡ 0 → ⊥ = λ z. n (sym e ∙ z) in
    rw (first_is g rest m, ne_eqb g 0 m, e)

pub by_next : (f rest : ℕ) (v : Option Span) (r : Verdict) → f ≡ 0 → r ≡ verdict_for rest v → r ≡ verdict_for (first_of f rest) v
by_next f rest v r z h = rw (next_is f rest z) h

by_none : (f : ℕ) (v : Option Span) → f ≡ 0 → judged_by v ≡ verdict_for f v
unfolding verdict_for
by_none f v z = rw (eq-eqb f 0 z)

by_one : (f g : ℕ) (v : Option Span) → g ≡ f → (f ≡ 0 → ⊥) → Refused f ≡ verdict_for g v
unfolding verdict_for
by_one f g v e n = let m : g ≡ 0 → ⊥ = λ z. n (sym e ∙ z) in rw (ne_eqb g 0 m, e)

-- two lists compared
pub compared : (sheet : List ℕ) → sheet_fault sheet ≡ 0 → (t u : Tree) → list_fault (exact_on sheet t) ≡ 0 → list_fault
    (exact_on sheet u) ≡ 0
    → implies_of (exact_on sheet t) (exact_on sheet u) ≡ claim_verdict sheet t u
unfolding implies_of claim_fails verdict_for later_last pair_fault first_of
compared sheet ok t u a b =
    let n = max (last_date (exact_on sheet t)) (last_date (exact_on sheet u)) in
    let m = max (settling_date sheet t) (settling_date sheet u) in
    rw (a, b, signal_is sheet ok t, signal_is sheet ok u)
    (one_verdict (signal_on sheet t) (signal_on sheet u) n m
    (settled_later _ _ n (settled_at sheet ok t a) (omega arith))
    (settled_later _ _ n (settled_at sheet ok u b) (omega arith))
    (settled_later _ _ m (settles sheet ok t) (omega arith))
    (settled_later _ _ m (settles sheet ok u) (omega arith)))

-- both formulas worked out, F's list below G's
module _ (sheet f g : List ℕ) (ok : sheet_fault sheet ≡ 0) (bytes : Bytes sheet) (readF : reading_fault sheet f ≡ 0)
    (readG : reading_fault sheet g ≡ 0) (fault : ℕ) (end : List (List ℕ)) where
  abbrev Ended : Type 0
  Ended =
      (fault ≡ first_of (working_fault sheet f) (working_fault sheet g))
      × (fault ≡ 0 → (end ≡ words_on sheet g ∷ words_on sheet f ∷ [])
      × (list_fault (words_on sheet f) ≡ 0) × (list_fault (words_on sheet g) ≡ 0) × Words (words_on sheet f) × Words (words_on sheet g))

  pub both_ran : Runs sheet (placed_codes sheet f ++ placed_codes sheet g) [] fault end → Ended
  both_ran q = let b = in_a_row sheet (placed_codes sheet f) (placed_codes sheet g) [] fault end q in go b.middle b.ran
    where
      go : (middle : List (List ℕ))
          → (Runs sheet (placed_codes sheet f) [] 0 middle × Runs sheet (placed_codes sheet g) middle fault end)
          ⊎ ((fault ≡ 0 → ⊥) × Runs sheet (placed_codes sheet f) [] fault middle)
          → Ended
      go middle (inl h) =
          let a = formula_ran sheet f ok bytes readF [] (omega arith) 0 middle h.0 in
          let b = formula_ran sheet g ok bytes readG (words_on sheet f ∷ []) (omega arith) fault end (rw (a.stack_is refl) at h.1) in (
            b.fault_is ∙ sym (next_is (working_fault sheet f) _ (sym a.fault_is)),
            λ z. (b.stack_is z, a.accepted refl, b.accepted z, a.small refl, b.small z),
          )
      go middle (inr h) =
          let a = formula_ran sheet f ok bytes readF [] (omega arith) fault middle h.1 in
          (a.fault_is ∙ sym (first_is (working_fault sheet f) _ (λ z. h.0 (a.fault_is ∙ z))), λ z. absurd (h.0 z))

-- in a work area
module _ (sheet f g before after : List ℕ) (ok : sheet_fault sheet ≡ 0) (bytes : Bytes sheet) (readF : reading_fault sheet f ≡ 0)
    (readG : reading_fault sheet g ≡ 0) (fault : ℕ) (end : List (List ℕ))
    (r : RanOut sheet (placed_codes sheet f ++ placed_codes sheet g) before after fault end) where
  ended : Runs sheet (placed_codes sheet f ++ placed_codes sheet g) [] fault end → Ended sheet f g ok bytes readF readG fault end
  ended = both_ran sheet f g ok bytes readF readG fault end

  pub judged_fault_lem : fault ≡ judge_fault sheet f g (length before)
  unfolding judge_fault
  judged_fault_lem = go (outcome sheet _ before after fault end r)
    where
      go : Outcome sheet (placed_codes sheet f ++ placed_codes sheet g) before after fault end
          → fault ≡ first_of (work_fault sheet (length before)) (first_of (working_fault sheet f) (working_fault sheet g))
      go (inl h) = h.1 ∙ sym (first_is _ _ h.0)
      go (inr h) = (ended h.1).0 ∙ sym (next_is _ _ h.0)

  judged_kept : KeptWhen (work_fault sheet (length before)) before after
  judged_kept x = go (outcome sheet _ before after fault end r)
    where
      go : Outcome sheet (placed_codes sheet f ++ placed_codes sheet g) before after fault end → after ≡ before
      go (inl h) = h.2
      go (inr h) = absurd (x h.0)

  pub judge_refused : (fault ≡ 0 → ⊥) → Judged sheet f g before (Refused fault) after
  judge_refused x = record { answer_is = by_one fault _ _ (sym judged_fault_lem) x; kept = judged_kept }

  -- without a fault the two lists stand on the stack, accepted
  module _ (z : fault ≡ 0) where
    pub stands : (end ≡ words_on sheet g ∷ words_on sheet f ∷ [])
        × (list_fault (words_on sheet f) ≡ 0) × (list_fault (words_on sheet g) ≡ 0) × Words (words_on sheet f) × Words (words_on sheet g)
    stands = go (outcome sheet _ before after fault end r)
      where
        go : Outcome sheet (placed_codes sheet f ++ placed_codes sheet g) before after fault end
            → (end ≡ words_on sheet g ∷ words_on sheet f ∷ [])
            × (list_fault (words_on sheet f) ≡ 0) × (list_fault (words_on sheet g) ≡ 0) × Words (words_on sheet f) × Words
            (words_on sheet g)
        go (inl h) = absurd (h.0 (sym h.1 ∙ z))
        go (inr h) = (ended h.1).1 z

    pub judge_done : (v : Verdict) → v ≡ implies_of (words_on sheet f) (words_on sheet g) → Judged sheet f g before v after
    unfolding words_on
    judge_done v e =
        record {
          answer_is = e ∙ compared sheet ok (formula_tree f) (formula_tree g) stands.1 stands.2 ∙ by_none _ _ (sym judged_fault_lem ∙ z);
          kept = judged_kept;
        }

-- from G's reading on
module _ (sheet F G work : List ℕ) where
  pub on_reading : (f : ℕ) → reading_fault sheet G ≡ f → (f ≡ 0 → ⊥) → ClaimOn sheet F G work (Refused f) work
  unfolding claim_on_fault
  on_reading f e n = record { answer_is = by_first f (reading_fault sheet G) _ _ e n; kept = λ x. refl }

  pub on_judged : reading_fault sheet G ≡ 0 → (r : Verdict) (after : List ℕ) → Judged sheet F G work r after → ClaimOn sheet F G work r
      after
  unfolding claim_on_fault
  on_judged read r after x =
      record {
        answer_is = by_next (reading_fault sheet G) _ _ r read x.answer_is;
        kept = λ n. x.kept (λ z. n (next_is (reading_fault sheet G) _ read ∙ z));
      }

  abbrev pub Claimed : Verdict → List ℕ → Type 0
  Claimed r after = (r ≡ claim_answer sheet F G (length work)) × ((first_claim_fault sheet F G (length work) ≡ 0 → ⊥) → after ≡ work)

  -- a fault of the sheet or of F's reading
  pub claim_refused : (f : ℕ) → first_of (sheet_fault sheet) (reading_fault sheet F) ≡ f → (f ≡ 0 → ⊥) → Claimed (Refused f) work
  unfolding claim_answer claim_fault
  claim_refused f e n = (
    by_first f (first_of (sheet_fault sheet) (reading_fault sheet F)) _ _ e n
        ∙ ap (λ k. verdict_for k (claim_fails sheet (formula_tree F) (formula_tree G)))
        (first_assoc (sheet_fault sheet) (reading_fault sheet F) _),
    λ x. refl,
  )

  module _ (ok : sheet_fault sheet ≡ 0) where
    pub claim_goes_on : reading_fault sheet F ≡ 0 → (r : Verdict) (after : List ℕ) → ClaimOn sheet F G work r after → Claimed r after
    unfolding claim_answer claim_fault claim_on_fault judge_fault first_claim_fault
    claim_goes_on read r after c = (
      by_next (sheet_fault sheet) _ _ r ok (by_next (reading_fault sheet F) _ _ r read c.answer_is),
      λ n. c.kept (λ z. n (next_is (sheet_fault sheet) _ ok ∙ next_is (reading_fault sheet F) _ read ∙ z)),
    )
