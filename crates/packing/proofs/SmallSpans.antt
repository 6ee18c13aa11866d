-- The moments that a verdict names are up to gap M, so that a packed span tells them.
use Prim.Native.Nat.{ℕ, ◌+◌, ◌*◌, ◌≤◌, ◌<◌}
use native.Mathlib.Omega.{arith}
use mathlib.Core.Path.{◌≡◌, refl, sym, ap, ◌∙◌}
use mathlib.Core.Logic.{⊎_elim}
use mathlib.Core.Bool.{Bool, true, false, cond}
use mathlib.Core.List.{List}
use mathlib.Core.Option.{Option, none, some}
use lib.Dec.{eqb}
use Rattle.slices.specs.Bytes.{Words}
use Rattle.signals.specs.Moment.{M, gap, instant}
use Rattle.signals.specs.Signal.{Signal}
use Rattle.signals.specs.Words.{list_fault, pair_fault, signal_of, last_date}
use Rattle.signals.specs.Settled.{SettledFrom}
use Rattle.signals.specs.Answers.{Span, fault_of_verdict, last_in, end_of, judged_by, verdict_for}
use Rattle.signals.specs.AnswersSay.{GivenVerdict}
use Rattle.signals.specs.Implication.{fails_in}
use Rattle.signals.specs.Earliest.{FirstRun, Early}
use Rattle.signals.specs.declared.Verdict.{Verdict}
use Rattle.signals.specs.declared.Verdict.TheVariants.{Holds, FailsAt, FailsAfter, Refused}
use Rattle.signals.proofs.AnswersSay.{answers_say}
use Rattle.signals.proofs.FirstFault.{both_none}
use Rattle.signals.proofs.Implication.{verdict_judged, gap_told_lem, instant_told_lem, until_instant_lem, until_before_lem, for_good_lem}
use Rattle.signals.proofs.Implication.{same_span}
use Rattle.signals.proofs.Normal.{accepted_settled, last_date_bound}
use Rattle.signals.proofs.Settling.{settled_later}
use Rattle.signals.proofs.WordFacts.{date_le}
use Rattle.signals.proofs.Wording.{either}
use Rattle.questions.specs.Questions.{later_last, implies_of}
use Rattle.questions.proofs.Implication.{verdict_is}
use Rattle.questions.proofs.LaterLast.{settled_a, settled_b}
use Rattle.grammar.specs.Tree.{Tree}
use Rattle.grammar.specs.Grammar.{Writes}
use Rattle.calls.specs.OnSheet.{signal_on}
use Rattle.calls.specs.Calls.{words_on, claim_fault, claim_answer, work_words}
use Rattle.calls.specs.Printed.{printed_sheet, printed_f, printed_g}
use Rattle.calls.specs.NormalLists.{TheList}
use Rattle.calls.proofs.Printed as calls
use Rattle.calls.proofs.NotRefused.{Clear, claim_clear, claim_fault_shown}
use Rattle.calls.proofs.ReadingFaults.{derived, text_fine}
use Rattle.calls.proofs.Demand2.{clear_list, claim_judged}
use Rattle.packing.specs.Packing.{pack_moment, pack_end, pack_last, pack_span, span_bits}
use Rattle.packing.specs.SpansPacked.{Fits, SpansPacked}

-- a moment's number in C is one more
moment_packed : (s : Span) → pack_moment (fails_in s) ≡ s.first + 1
unfolding pack_moment
moment_packed s =
    ⊎_elim
    (λ g. ap pack_moment (gap_told_lem s g.0 g.1) ∙ omega (arith, g.1))
    (λ i. ap pack_moment (instant_told_lem s i.0 i.1 i.2) ∙ omega (arith, i.1, i.2))
    (either s.first)

last_packed : (s : Span) → pack_last (fails_in s) ≡ pack_end (end_of s.last)
unfolding pack_last
last_packed s =
    ⊎_elim
    (λ g. ap pack_last (gap_told_lem s g.0 g.1))
    (λ i. ap pack_last (instant_told_lem s i.0 i.1 i.2))
    (either s.first)

end_packed : (t : ℕ) → pack_end (end_of (some t)) ≡ t + 1
unfolding pack_end
end_packed t =
    ⊎_elim
    (λ g. ap (λ u. pack_end (end_of (some u))) g.1 ∙ ap pack_end (until_before_lem g.0) ∙ omega (arith, g.1))
    (λ i. ap (λ u. pack_end (end_of (some u))) i.2 ∙ ap pack_end (until_instant_lem i.0 i.1) ∙ omega (arith, i.1, i.2))
    (either t)

none_packed : pack_end (end_of none) ≡ 0
unfolding pack_end
none_packed = ap pack_end for_good_lem

-- both have room in 32 bits
abbrev pub SmallSpan : Verdict → Type 0
SmallSpan answer = (pack_moment answer < 4294967296) × (pack_last answer < 4294967296)

pub packed_span : (w v : Verdict) → w ≡ v → SmallSpan v → span_bits w ≡ pack_span v
unfolding span_bits pack_span
packed_span w v e h = ap span_bits e ∙ omega (arith, h.0, h.1)

last_small : (last : Option ℕ) → ((t : ℕ) → last ≡ some t → t < 2 * M) → pack_end (end_of last) < 4294967296
last_small none h = omega (arith, none_packed)
last_small (some t) h = omega (arith, end_packed t, h t refl)

early_small : (s : Span) → Early M s → SmallSpan (fails_in s)
early_small s h =
    (omega (arith, moment_packed s, h.0), rw (last_packed s) (last_small s.last h.1))

answer_early : (fault : ℕ) (span : Option Span) → ((s : Span) → verdict_for fault span ≡ fails_in s → Early M s)
    → SmallSpan (verdict_for fault span)
unfolding verdict_for pack_moment pack_last
answer_early fault span h = go (eqb fault 0) span h
  where
    go : (b : Bool) (span : Option Span)
        → ((s : Span) → cond b (judged_by span) (Refused fault) ≡ fails_in s → Early M s)
        → SmallSpan (cond b (judged_by span) (Refused fault))
    go true none h = (omega arith, omega arith)
    go true (some s) h = early_small s (h s refl)
    go false span h = (omega arith, omega arith)

-- a run of signals that are constant from gap M on
run_early : (f g : Signal) (s : Span) → SettledFrom f M → SettledFrom g M → FirstRun f g s → Early M s
run_early f g s sf sg run = let j = verdict_judged f g M sf sg in j.early s ((j.said.fails s).1 run)

no_fault : (s : Span) → fault_of_verdict (fails_in s) ≡ 0
unfolding verdict_for
no_fault s = answers_say.verdict.fault 0 (some s)

-- of two lists of words
words_settled : (l : List ℕ) → Words l → list_fault l ≡ 0 → SettledFrom (signal_of l) M
words_settled l w z =
    settled_later (signal_of l) (last_date l) M (accepted_settled l z) (last_date_bound M l (λ i h. date_le _ (w i)))

lists_early : (a b : List ℕ) → Words a → Words b → (s : Span) → implies_of a b ≡ fails_in s → Early M s
unfolding implies_of pair_fault
lists_early a b wa wb s e =
    let z : pair_fault a b ≡ 0 = sym (answers_say.verdict.fault (pair_fault a b) _) ∙ ap fault_of_verdict e ∙ no_fault s in
    let ok = accepted z in
    let j = verdict_judged (signal_of a) (signal_of b) (later_last a b) (settled_a a b ok.0 ok.1) (settled_b a b ok.0 ok.1) in
    run_early (signal_of a) (signal_of b) s (words_settled a wa ok.0) (words_settled b wb ok.1)
    ((j.said.fails s).0 (sym (verdict_is a b ok.0 ok.1) ∙ e))
  where
    accepted : pair_fault a b ≡ 0 → (list_fault a ≡ 0) × (list_fault b ≡ 0)
    accepted z = both_none (list_fault a) (list_fault b) z

-- of a claim
tree_settled : (sheet text : List ℕ) → Clear sheet text → (t : Tree) (d : ℕ) → Writes text t d → SettledFrom (signal_on sheet t) M
tree_settled sheet text c t d w u l =
    let h : TheList (signal_on sheet t) (words_on sheet text) = clear_list sheet text c t d w in
    let s : SettledFrom (signal_of (words_on sheet text)) M =
    settled_later _ _ M (accepted_settled (words_on sheet text) h.accepted) (last_date_bound M (words_on sheet text) h.within_m) in
    sym (h.listed.denotes u) ∙ s u l ∙ h.listed.denotes _

claims_early : (sheet F G : List ℕ) (work : ℕ) (s : Span) → claim_answer sheet F G work ≡ fails_in s → Early M s
claims_early sheet F G work s e =
    let z : claim_fault sheet F G work ≡ 0 = sym (claim_fault_shown sheet F G work) ∙ ap fault_of_verdict e ∙ no_fault s in
    let c = claim_clear sheet F G work z in
    let w = derived F (text_fine sheet F c.0.text_ok) in
    let v = derived G (text_fine sheet G c.1.text_ok) in
    run_early (signal_on sheet w.0) (signal_on sheet v.0) s (tree_settled sheet F c.0 w.0 w.1 w.2)
    (tree_settled sheet G c.1 v.0 v.1 v.2)
    (((claim_judged sheet F G work z w.0 v.0 w.1 v.1 w.2 v.2).fails s).0 e)

-- so their answers have room
pub implies_span_small : (a b : List ℕ) → Words a → Words b → SmallSpan (implies_of a b)
unfolding implies_of
implies_span_small a b wa wb = answer_early _ _ (lists_early a b wa wb)

pub claim_span_small : (sheet F G : List ℕ) (work : ℕ) → SmallSpan (claim_answer sheet F G work)
unfolding claim_answer
claim_span_small sheet F G work = answer_early _ _ (claims_early sheet F G work)

-- what the halves tell
span_packed : (s : Span) → pack_span (fails_in s) ≡ 4294967296 * pack_end (end_of s.last) + (s.first + 1)
unfolding pack_span
span_packed s = rw (no_fault s, last_packed s, moment_packed s) (omega arith)

-- and the number
last_same : (x y : Option ℕ) → pack_end (end_of x) ≡ pack_end (end_of y) → x ≡ y
last_same none none e = refl
last_same none (some u) e = absurd (omega (arith, none_packed, end_packed u))
last_same (some t) none e = absurd (omega (arith, none_packed, end_packed t))
last_same (some t) (some u) e = ap some (omega (arith, end_packed t, end_packed u))

-- what a verdict is
data Kind (v : Verdict) : Type 0 where
  holding : v ≡ Holds → Kind v
  failing : (s : Span) → v ≡ fails_in s → Kind v
  refusing : (n : ℕ) → 1 ≤ n → v ≡ Refused n → Kind v

kind : (v : Verdict) → GivenVerdict v → Kind v
unfolding verdict_for
kind Holds g = holding refl
kind (FailsAt k end) g = failing (record { first = instant k; last = last_in end }) (sym (answers_say.verdict.every (FailsAt k end) g))
kind (FailsAfter k end) g = failing (record { first = gap k; last = last_in end }) (sym (answers_say.verdict.every (FailsAfter k end) g))
kind (Refused n) g = refusing n g refl

-- the two halves of a failing verdict's number
halves : (v : Verdict) (s : Span) → Fits v → v ≡ fails_in s
    → (pack_span v ≡ 4294967296 * pack_end (end_of s.last) + (s.first + 1)) × (s.first + 1 < 4294967296)
halves v s f e = (ap pack_span e ∙ span_packed s, omega (arith, (f.early s e).0))

holds_packed : pack_span Holds ≡ 0
unfolding pack_span pack_moment pack_last
holds_packed = refl

refused_packed : (n : ℕ) → pack_span (Refused n) ≡ 4294967296 * n
unfolding pack_span pack_moment pack_last
refused_packed n = omega arith

tells : (v w : Verdict) → Fits v → Fits w → pack_span v ≡ pack_span w → v ≡ w
tells v w a b q = go (kind v a.given) (kind w b.given)
  where
    go : Kind v → Kind w → v ≡ w
    go (holding e) (holding f) = e ∙ sym f
    go (holding e) (failing t f) =
        let z : pack_span v ≡ 0 = ap pack_span e ∙ holds_packed in let h = halves w t b f in absurd (omega (arith, h.0))
    go (holding e) (refusing n l f) =
        let z : pack_span v ≡ 0 = ap pack_span e ∙ holds_packed in
        let y : pack_span w ≡ 4294967296 * n = ap pack_span f ∙ refused_packed n in
        absurd (omega arith)
    go (failing s e) (holding f) =
        let z : pack_span w ≡ 0 = ap pack_span f ∙ holds_packed in let h = halves v s a e in absurd (omega (arith, h.0))
    go (failing s e) (failing t f) =
        let h = halves v s a e in
        let k = halves w t b f in
        e
        ∙ ap fails_in (same_span s t (omega (arith, h.0, h.1, k.0, k.1))
        (last_same s.last t.last (omega (arith, h.0, h.1, k.0, k.1))))
        ∙ sym f
    go (failing s e) (refusing n l f) =
        let h = halves v s a e in
        let y : pack_span w ≡ 4294967296 * n = ap pack_span f ∙ refused_packed n in
        absurd (omega (arith, h.0, h.1))
    go (refusing n l e) (holding f) =
        let y : pack_span v ≡ 4294967296 * n = ap pack_span e ∙ refused_packed n in
        let z : pack_span w ≡ 0 = ap pack_span f ∙ holds_packed in
        absurd (omega arith)
    go (refusing n l e) (failing t f) =
        let y : pack_span v ≡ 4294967296 * n = ap pack_span e ∙ refused_packed n in
        let h = halves w t b f in
        absurd (omega (arith, h.0, h.1))
    go (refusing n l e) (refusing m k f) =
        let y : pack_span v ≡ 4294967296 * n = ap pack_span e ∙ refused_packed n in
        let z : pack_span w ≡ 4294967296 * m = ap pack_span f ∙ refused_packed m in
        e ∙ ap Refused (omega arith) ∙ sym f

printed_packed : pack_span (claim_answer printed_sheet printed_f printed_g work_words) ≡ 4294967296 * 13 + 10
unfolding pack_span pack_moment pack_last pack_end
printed_packed = ap pack_span (calls.printed).fails

lists_fit : (a b : List ℕ) → Words a → Words b → Fits (implies_of a b)
unfolding implies_of
lists_fit a b wa wb = record { given = answers_say.verdict.given _ _; early = lists_early a b wa wb }

claims_fit : (sheet F G : List ℕ) (work : ℕ) → Fits (claim_answer sheet F G work)
unfolding claim_answer
claims_fit sheet F G work = record { given = answers_say.verdict.given _ _; early = claims_early sheet F G work }

pub spans_packed : SpansPacked
spans_packed =
    record {
      lists = lists_fit;
      claims = claims_fit;
      tells = tells;
      first = λ s h. rw (span_packed s) (omega (arith, h.0));
      last = λ s t h e. rw (span_packed s, e, end_packed t) (omega (arith, h.0));
      for_good = λ s h e. rw (span_packed s, e, none_packed) (omega (arith, h.0));
      holds = holds_packed;
      refused = refused_packed;
      printed = printed_packed;
    }
