-- Reading an answer and giving it are one definition of its cases.
use Prim.Native.Nat.{ℕ, ◌-◌, ◌≤◌, ◌<◌}
use native.Mathlib.Omega.{arith}
use mathlib.Core.Path.{◌≡◌, refl, sym, ◌∙◌, ap, subst}
use mathlib.Core.Logic.{⊎_elim}
use mathlib.Core.Bool.{Bool, true, false, cond}
use mathlib.Core.List.{List}
use mathlib.Core.Option.{Option, none, some}
use lib.Dec.{eqb, ltb}
use lib.ListN.{length}
use borrow.Author.Tests.{eqb-true, eqb-false, ne_eqb, lt-ltb, le-ltb, ltb-true, ltb-false}
use Rattle.signals.specs.Moment.{M}
use Rattle.signals.specs.Answers.{sum_for, fault_in, count_in, written_of}
use Rattle.signals.specs.AnswersSay.{fault_of_sum, total_in, past_m}
use Rattle.signals.specs.Answers.{fault_of_told, value_in, told_of}
use Rattle.signals.specs.Answers.{Span, fault_of_verdict, last_in, span_in, end_of, fails_in, judged_by, verdict_for}
use Rattle.signals.specs.AnswersSay.{GivenSum, GivenWritten, GivenTold, GivenEnd, GivenVerdict, SumSays, WrittenSays, ToldSays}
use Rattle.signals.specs.AnswersSay.{VerdictSays}
use Rattle.signals.specs.AnswersSay.{AnswersSay}
use Rattle.signals.specs.declared.Sum.{Sum}
use Rattle.signals.specs.declared.Sum.TheVariants as sum
use Rattle.signals.specs.declared.Written.{Written}
use Rattle.signals.specs.declared.Written.TheVariants as written
use Rattle.signals.specs.declared.End.{End}
use Rattle.signals.specs.declared.End.TheVariants as ends
use Rattle.signals.specs.declared.Verdict.{Verdict}
use Rattle.signals.specs.declared.Verdict.TheVariants as verdict
use Rattle.signals.specs.declared.Told.{Told}
use Rattle.signals.specs.declared.Told.TheVariants as told
use Rattle.signals.proofs.Wording.{either}
use Rattle.signals.proofs.Implication.{fails_in_gap, fails_in_instant, gap_told_lem, instant_told_lem, until_instant_lem, until_before_lem}
use Rattle.signals.proofs.Implication.{for_good_lem, span_read}

-- an answer by whether there is a fault
pub by_fault : {A : Type 0} (P : ℕ → A → Type 0) (f : ℕ) (fine : A) (refused : ℕ → A) → P 0 fine → ((g : ℕ) → 1 ≤ g → P g (refused g))
    → P f (cond (eqb f 0) fine (refused f))
by_fault {A} P f fine refused p q = go (eqb f 0) refl
  where
    go : (t : Bool) → eqb f 0 ≡ t → P f (cond t fine (refused f))
    go true e = subst (λ (g : ℕ). P g fine) (sym (eqb-true f 0 e)) p
    go false e = q f (omega (arith, eqb-false f 0 e))

pub is_fault : (f : ℕ) → 1 ≤ f → eqb f 0 ≡ false
is_fault f l = ne_eqb f 0 (λ z. omega arith)

-- a sum's
sum_cases : (P : Sum → Type 0) (total : ℕ) → (M < total → P (sum.PastM total)) → (total ≤ M → P (sum.On (record { 0 = total })))
    → P (cond (ltb M total) (sum.PastM total) (sum.On (record { 0 = total })))
sum_cases P total past on = go (ltb M total) refl
  where
    go : (t : Bool) → ltb M total ≡ t → P (cond t (sum.PastM total) (sum.On (record { 0 = total })))
    go true e = past (ltb-true M total e)
    go false e = on (ltb-false M total e)

sum_fault_lem : (f total : ℕ) → fault_of_sum (sum_for f total) ≡ f
sum_fault_lem f total =
    by_fault (λ g x. fault_of_sum x ≡ g) f _ sum.Refused (sum_cases (λ x. fault_of_sum x ≡ 0) total (λ l. refl) (λ l. refl)) (λ g l. refl)

sum_value : (total : ℕ) → (total_in (sum_for 0 total) ≡ total) × (past_m (sum_for 0 total) ≡ ltb M total)
sum_value total = go (ltb M total)
  where
    go : (t : Bool)
        → (total_in (cond t (sum.PastM total) (sum.On (record { 0 = total }))) ≡ total)
        × (past_m (cond t (sum.PastM total) (sum.On (record { 0 = total }))) ≡ t)
    go true = (refl, refl)
    go false = (refl, refl)

sum_every : (answer : Sum) → GivenSum answer → sum_for (fault_of_sum answer) (total_in answer) ≡ answer
sum_every (sum.On date) h = rw (le-ltb M date.0 h)
sum_every (sum.PastM total) h = rw (lt-ltb M total h)
sum_every (sum.Refused f) h = rw (is_fault f h)

pub sum_says : SumSays
sum_says =
    record {
      fault = sum_fault_lem;
      value = sum_value;
      refused = λ f total l. rw (is_fault f l) (refl, refl);
      given = λ f total. by_fault (λ g x. GivenSum x) f _ sum.Refused (sum_cases GivenSum total (λ l. l) (λ l. l)) (λ g l. l);
      every = sum_every;
    }

-- a writing call's
module _ (words : List ℕ) where
  written_fault : (f : ℕ) → fault_in (written_of f words) ≡ f
  unfolding written_of
  written_fault f = by_fault (λ g x. fault_in x ≡ g) f (written.Count (length words)) written.Refused refl (λ g l. refl)

  written_value : count_in (written_of 0 words) ≡ length words
  unfolding written_of
  written_value = refl

  written_refused : (f : ℕ) → 1 ≤ f → count_in (written_of f words) ≡ 0
  unfolding written_of
  written_refused f l = rw (is_fault f l)

  written_given : (f : ℕ) → GivenWritten (written_of f words)
  unfolding written_of
  written_given f = by_fault (λ g x. GivenWritten x) f (written.Count (length words)) written.Refused tt (λ g l. l)

  written_every : (answer : Written) → GivenWritten answer → length words ≡ count_in answer → written_of (fault_in answer) words ≡ answer
  unfolding written_of
  written_every (written.Count n) h e = ap written.Count e
  written_every (written.Refused f) h e = rw (is_fault f h)

pub written_says : WrittenSays
written_says =
    record {
      fault = λ f words. written_fault words f;
      value = written_value;
      refused = λ f words. written_refused words f;
      given = λ f words. written_given words f;
      every = λ answer words. written_every words answer;
    }

-- a question's
told_fault : (f : ℕ) (v : Bool) → fault_of_told (told_of f v) ≡ f
unfolding told_of
told_fault f true = by_fault (λ g x. fault_of_told x ≡ g) f told.Yes told.Refused refl (λ g l. refl)
told_fault f false = by_fault (λ g x. fault_of_told x ≡ g) f told.No told.Refused refl (λ g l. refl)

told_value_lem : (v : Bool) → value_in (told_of 0 v) ≡ v
unfolding told_of
told_value_lem true = refl
told_value_lem false = refl

told_refused : (f : ℕ) (v : Bool) → 1 ≤ f → value_in (told_of f v) ≡ false
unfolding told_of
told_refused f v l = rw (is_fault f l)

told_given : (f : ℕ) (v : Bool) → GivenTold (told_of f v)
unfolding told_of
told_given f true = by_fault (λ g x. GivenTold x) f told.Yes told.Refused tt (λ g l. l)
told_given f false = by_fault (λ g x. GivenTold x) f told.No told.Refused tt (λ g l. l)

told_every : (answer : Told) → GivenTold answer → told_of (fault_of_told answer) (value_in answer) ≡ answer
unfolding told_of
told_every told.Yes h = refl
told_every told.No h = refl
told_every (told.Refused f) h = rw (is_fault f h)

pub told_says : ToldSays
told_says = record { fault = told_fault; value = told_value_lem; refused = told_refused; given = told_given; every = told_every }

-- a claim's
end_given : (last : Option ℕ) → GivenEnd (end_of last)
end_given none = subst GivenEnd (sym for_good_lem) tt
end_given (some t) =
    ⊎_elim
    (λ g. subst (λ u. GivenEnd (end_of (some u))) (sym g.1) (subst GivenEnd (sym (until_before_lem g.0)) (omega arith)))
    (λ i. subst (λ u. GivenEnd (end_of (some u))) (sym i.2) (subst GivenEnd (sym (until_instant_lem i.0 i.1)) i.1))
    (either t)

end_every : (end : End) → GivenEnd end → end_of (last_in end) ≡ end
end_every (ends.At k) h = until_instant_lem k h
end_every (ends.Before k) h = until_before_lem (k - 1) ∙ ap ends.Before (omega arith)
end_every ends.Never h = for_good_lem

fails_cases : (P : Verdict → Type 0) (s : Span) → ((k : ℕ) → P (verdict.FailsAfter k (end_of s.last)))
    → ((k : ℕ) → 1 ≤ k → P (verdict.FailsAt k (end_of s.last))) → P (fails_in s)
fails_cases P s in-gap at-instant =
    ⊎_elim
    (λ g. subst P (sym (gap_told_lem s g.0 g.1)) (in-gap g.0))
    (λ i. subst P (sym (instant_told_lem s i.0 i.1 i.2)) (at-instant i.0 i.1))
    (either s.first)

verdict_none : (span : Option Span) → fault_of_verdict (judged_by span) ≡ 0
verdict_none none = refl
verdict_none (some s) = fails_cases (λ v. fault_of_verdict v ≡ 0) s (λ k. refl) (λ k l. refl)

verdict_value : (span : Option Span) → span_in (judged_by span) ≡ span
verdict_value none = refl
verdict_value (some s) = span_read s

judged_given : (span : Option Span) → GivenVerdict (judged_by span)
judged_given none = tt
judged_given (some s) = fails_cases GivenVerdict s (λ k. end_given s.last) (λ k l. (l, end_given s.last))

verdict_every : (answer : Verdict) → GivenVerdict answer → verdict_for (fault_of_verdict answer) (span_in answer) ≡ answer
unfolding verdict_for
verdict_every verdict.Holds h = refl
verdict_every (verdict.FailsAt k end) h = fails_in_instant k (last_in end) h.0 ∙ ap (verdict.FailsAt k) (end_every end h.1)
verdict_every (verdict.FailsAfter k end) h = fails_in_gap k (last_in end) ∙ ap (verdict.FailsAfter k) (end_every end h)
verdict_every (verdict.Refused f) h = rw (is_fault f h)

pub verdict_says : VerdictSays
unfolding verdict_for
verdict_says =
    record {
      fault = λ f span. by_fault (λ g x. fault_of_verdict x ≡ g) f (judged_by span) verdict.Refused (verdict_none span) (λ g l. refl);
      value = verdict_value;
      refused = λ f span l. rw (is_fault f l);
      given = λ f span. by_fault (λ g x. GivenVerdict x) f (judged_by span) verdict.Refused (judged_given span) (λ g l. l);
      every = verdict_every;
    }

pub answers_say : AnswersSay
answers_say = record { sum = sum_says; written = written_says; told = told_says; verdict = verdict_says }
