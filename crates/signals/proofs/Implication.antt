-- The verdict of an implication is the first unbroken run of failing moments.
use Prim.Native.Nat.{ℕ, zero, suc, ◌+◌, ◌-◌, ◌≤◌, ◌<◌}
use native.Mathlib.Omega.{arith}
use mathlib.Core.Path.{◌≡◌, refl, sym, ◌∙◌, ap, ap₂, subst}
use mathlib.Core.Logic.{◌⊎◌, inl, inr, ⊎_elim}
use mathlib.Core.Bool.{Bool, true, false, not, cond}
use mathlib.Core.Option.{Option, none, some}
use lib.Dec.{leb}
use borrow.Author.Tests.{leb-true, leb-false}
use Rattle.signals.specs.Moment.{gap, instant}
use Rattle.signals.specs.Signal.{Signal, NOT, refuted}
use Rattle.signals.specs.Quantified.{Up, Down}
use Rattle.signals.specs.Settled.{SettledFrom}
use Rattle.signals.specs.Answers.{Span, last_in, span_in, end_of, judged_by}
use Rattle.signals.specs.Implication.{earliest, earliest_up_to, moment_before, span_from, first_span, verdict_of, fails_in}
use Rattle.signals.specs.Earliest.{Refutes, FirstRefutes, RefutesTo, FirstRun, Early, Judged, Earliest}
use Rattle.signals.specs.declared.End.TheVariants.{At, Before, Never}
use Rattle.signals.specs.declared.Verdict.TheVariants.{Holds, FailsAt, FailsAfter}
use Rattle.signals.proofs.Truth.{at_or_after, not_up, not_of, and_left, and_right, and_of, not_both_lem}
use Rattle.signals.proofs.Settling.{settled_later, NOT_settles}
use Rattle.signals.proofs.Wording.{either, split, is_gap_gap, is_gap_instant, tick_gap, tick_instant}

pub refuted_up : (f g : Signal) (t : ℕ) → Up (refuted f g t) → Refutes f g t
unfolding refuted
refuted_up f g t e = (and_left (f t) (not (g t)) e, not_up (g t) (and_right (f t) (not (g t)) e))

pub refuted_of : (f g : Signal) (t : ℕ) → Refutes f g t → Up (refuted f g t)
unfolding refuted
refuted_of f g t h = and_of (f t) (not (g t)) h.0 (not_of h.1)

-- what `earliest` finds among the n moments from t on
pub record Found (p : Signal) (t n e : ℕ) : Type 0 where
  pub from : t ≤ e
  pub to : e ≤ t + n
  pub none : (u : ℕ) → t ≤ u → u < e → Down (p u)
  pub one : e < t + n → Up (p e)

pub earliest_found : (p : Signal) (t n : ℕ) → Found p t n (earliest p t n)
unfolding earliest
earliest_found p t zero =
    record { from = omega arith; to = omega arith; none = λ u a b. absurd (omega arith); one = λ l. absurd (omega arith) }
earliest_found p t (suc n) = go (p t) refl (earliest_found p (suc t) n)
  where
    go : (b : Bool) → p t ≡ b → Found p (suc t) n (earliest p (suc t) n) → Found p t (suc n) (cond b t (earliest p (suc t) n))
    go true e h = record { from = omega arith; to = omega arith; none = λ u a b. absurd (omega arith); one = λ l. e }
    go false e h =
        record {
          from = omega (arith, h.from);
          to = omega (arith, h.to);
          none = λ u a b. ⊎_elim (λ l. h.none u l b) (λ q. rw q e) (split t u a);
          one = λ l. h.one (omega arith);
        }

-- what `earliest_up_to` finds of a signal that is constant from gap n on: no moment from t on has p, or e is the earliest that has it
pub record UpTo (p : Signal) (t n e : ℕ) : Type 0 where
  pub told : earliest_up_to p t n ≡ some e
  pub from : t ≤ e
  pub to : e ≤ gap n
  pub none : (u : ℕ) → t ≤ u → u < e → Down (p u)
  pub one : Up (p e)

abbrev Sought : Signal → ℕ → ℕ → Type 0
Sought p t n = (((u : ℕ) → t ≤ u → Down (p u)) × (earliest_up_to p t n ≡ none)) ⊎ ((e : ℕ) × UpTo p t n e)

up_to : (p : Signal) (t n : ℕ) → SettledFrom p n → t ≤ gap n → Sought p t n
unfolding earliest_up_to
up_to p t n settled l = go (leb e (gap n)) refl
  where
    e : ℕ
    e = earliest p t (gap n + 1)

    h : Found p t (gap n + 1) e
    h = earliest_found p t (gap n + 1)

    go : (b : Bool) → leb e (gap n) ≡ b → Sought p t n
    go true q =
        let m : e ≤ gap n = leb-true e (gap n) q in
        inr (e, record { told = rw q; from = h.from; to = m; none = h.none; one = h.one (omega arith) })
    go false q =
        let m : gap n < e = leb-false e (gap n) q in
        inl (
          λ u a. ⊎_elim (λ b. settled u b ∙ h.none (gap n) l m) (λ b. h.none u a (omega arith)) (at_or_after (gap n) u),
          rw q,
        )

-- signals that no longer change fail in one way
settled_refuted : (f g : Signal) (n : ℕ) → SettledFrom f n → SettledFrom g n → SettledFrom (refuted f g) n
unfolding refuted
settled_refuted f g n sf sg t l = rw (sf t l, sg t l)

not_down : (p : Signal) (t : ℕ) → Down (NOT p t) → Up (p t)
unfolding NOT
not_down p t h = go (p t) h
  where
    go : (b : Bool) → not b ≡ false → b ≡ true
    go true e = refl
    go false e = sym e

not_up_down : (p : Signal) (t : ℕ) → Up (NOT p t) → Down (p t)
unfolding NOT
not_up_down p t h = not_up (p t) h

-- how a run is told, and read
pub until_instant_lem : (k : ℕ) → 1 ≤ k → end_of (some (instant k)) ≡ At k
unfolding end_of
until_instant_lem k l = rw (is_gap_instant k l, tick_instant k l)

pub until_before_lem : (k : ℕ) → end_of (some (gap k)) ≡ Before (k + 1)
unfolding end_of
until_before_lem k = rw (is_gap_gap k, tick_gap k)

pub for_good_lem : end_of none ≡ Never
unfolding end_of
for_good_lem = refl

pub gap_told_lem : (s : Span) (k : ℕ) → s.first ≡ gap k → fails_in s ≡ FailsAfter k (end_of s.last)
unfolding fails_in
gap_told_lem s k e = rw (e, is_gap_gap k, tick_gap k)

pub instant_told_lem : (s : Span) (k : ℕ) → 1 ≤ k → s.first ≡ instant k → fails_in s ≡ FailsAt k (end_of s.last)
unfolding fails_in
instant_told_lem s k l e = rw (e, is_gap_instant k l, tick_instant k l)

pub fails_in_gap : (k : ℕ) (last : Option ℕ) → fails_in (record { first = gap k; last = last }) ≡ FailsAfter k (end_of last)
fails_in_gap k last = gap_told_lem (record { first = gap k; last = last }) k refl

pub fails_in_instant : (k : ℕ) (last : Option ℕ) → 1 ≤ k → fails_in (record { first = instant k; last = last }) ≡ FailsAt k (end_of last)
fails_in_instant k last l = instant_told_lem (record { first = instant k; last = last }) k l refl

pub last_read : (last : Option ℕ) → last_in (end_of last) ≡ last
last_read none = ap last_in for_good_lem
last_read (some t) =
    ⊎_elim
    (λ g. ap (λ u. last_in (end_of (some u))) g.1 ∙ ap last_in (until_before_lem g.0) ∙ ap some (omega (arith, g.1)))
    (λ i. ap (λ u. last_in (end_of (some u))) i.2 ∙ ap last_in (until_instant_lem i.0 i.1) ∙ ap some (sym i.2))
    (either t)

pub same_span : (s t : Span) → s.first ≡ t.first → s.last ≡ t.last → s ≡ t
same_span s t a b = ap₂ (λ (first : ℕ) (last : Option ℕ). record { first = first; last = last }) a b

pub span_read : (s : Span) → span_in (fails_in s) ≡ some s
span_read s =
    ⊎_elim
    (λ g. ap span_in (gap_told_lem s g.0 g.1) ∙ ap some (same_span _ s (sym g.1) (last_read s.last)))
    (λ i. ap span_in (instant_told_lem s i.0 i.1 i.2) ∙ ap some (same_span _ s (sym i.2) (last_read s.last)))
    (either s.first)

fails_not_holds : (s : Span) → fails_in s ≡ Holds → ⊥
fails_not_holds s e =
    let q : some s ≡ none = sym (span_read s) ∙ ap span_in e in let z : ◌≡◌ {A = ℕ} 0 1 = cc in omega arith

one_told : (s t : Span) → fails_in s ≡ fails_in t → s ≡ t
one_told s t e = let q : some s ≡ some t = sym (span_read s) ∙ ap span_in e ∙ span_read t in cc

-- two signals have one first run
one_first : (f g : Signal) (t u : ℕ) → FirstRefutes f g t → FirstRefutes f g u → t ≡ u
one_first f g t u a b =
    ⊎_elim
    (λ l. ⊎_elim (λ m. absurd (b.1 t m a.0)) (λ e. sym e) (split t u l))
    (λ l. absurd (a.1 u l b.0))
    (at_or_after t u)

one_last : (f g : Signal) (t : ℕ) (x y : Option ℕ) → RefutesTo f g t x → RefutesTo f g t y → x ≡ y
one_last f g t none none a b = refl
one_last f g t none (some v) a b = absurd (b.2 (a (suc v) (omega (arith, b.0))))
one_last f g t (some u) none a b = absurd (a.2 (b (suc u) (omega (arith, a.0))))
one_last f g t (some u) (some v) a b =
    ⊎_elim
    (λ l. ⊎_elim (λ m. absurd (a.2 (b.1 (suc u) (omega (arith, a.0)) (omega arith)))) (λ e. ap some (sym e)) (split u v l))
    (λ l. absurd (b.2 (a.1 (suc v) (omega (arith, b.0)) (omega arith))))
    (at_or_after u v)

pub one_run : (f g : Signal) (s t : Span) → FirstRun f g s → FirstRun f g t → s ≡ t
one_run f g s t a b =
    let e = one_first f g s.first t.first a.0 b.0 in
    same_span s t e (one_last f g t.first s.last t.last (subst (λ u. RefutesTo f g u s.last) e a.1) b.1)

-- the verdict with what it says
abbrev pub Outcome : Signal → Signal → ℕ → Type 0
Outcome f g n =
    (((t : ℕ) → Refutes f g t → ⊥) × (verdict_of f g n ≡ Holds))
    ⊎ ((s : Span) × FirstRun f g s × (verdict_of f g n ≡ fails_in s) × Early n s)

module _ (f g : Signal) (n : ℕ) (sf : SettledFrom f n) (sg : SettledFrom g n) where
  abbrev failing : Signal
  failing = refuted f g

  settled : SettledFrom failing n
  settled = settled_refuted f g n sf sg

  never : (t : ℕ) → Down (failing t) → Refutes f g t → ⊥
  never t d w = not_both_lem (refuted_of f g t w) d

  -- from the first failing moment on
  module _ (t : ℕ) (h : UpTo failing 0 n t) where
    begins : FirstRefutes f g t
    begins = (refuted_up f g t h.one, λ u l w. never u (h.none u (omega arith) l) w)

    goes_on : (last : Option ℕ) → moment_before (earliest_up_to (NOT failing) t n) ≡ last → RefutesTo f g t last
        → ((u : ℕ) → last ≡ some u → u < gap n) → Outcome f g n
    unfolding first_span
    goes_on last e r early =
        inr (
          record { first = t; last = last },
          (begins, r),
          ap (λ x. judged_by (span_from failing n x)) h.told ∙ ap (λ x. fails_in (record { first = t; last = x })) e,
          (h.to, early),
        )

    ends : Sought (NOT failing) t n → Outcome f g n
    ends (inl a) =
        goes_on none (ap moment_before a.1) (λ u l. refuted_up f g u (not_down failing u (a.0 u l)))
        (λ u e. let z : ◌≡◌ {A = ℕ} 0 1 = cc in absurd (omega arith))
    ends (inr (e, k)) =
        let d : Down (failing e) = not_up_down failing e k.one in
        let l : t < e = ⊎_elim (λ m. m) (λ q. absurd (not_both_lem h.one (rw q at d))) (split t e k.from) in
        let back : suc (e - 1) ≡ e = omega arith in
        goes_on (some (e - 1)) (ap moment_before k.told) (
          omega arith,
          λ u a b. refuted_up f g u (not_down failing u (k.none u a (omega arith))),
          λ w. never e d (subst (Refutes f g) back w),
        )
        (λ u q. let z : e - 1 ≡ u = cc in omega (arith, k.to))

  by_first : Sought failing 0 n → Outcome f g n
  unfolding first_span
  by_first (inl a) = inl (λ t w. never t (a.0 t (omega arith)) w, rw a.1)
  by_first (inr (t, h)) = ends t h (up_to (NOT failing) t n (NOT_settles failing n settled) h.to)

  pub outcome : Outcome f g n
  outcome = by_first (up_to failing 0 n settled (omega arith))

-- two outcomes are one
agree : (f g : Signal) (n m : ℕ) → Outcome f g n → Outcome f g m → verdict_of f g m ≡ verdict_of f g n
agree f g n m (inl a) (inl b) = b.1 ∙ sym a.1
agree f g n m (inl a) (inr b) = absurd (a.0 b.0.first b.1.0.0)
agree f g n m (inr a) (inl b) = absurd (b.0 a.0.first a.1.0.0)
agree f g n m (inr a) (inr b) = b.2 ∙ ap fails_in (one_run f g b.0 a.0 b.1 a.1) ∙ sym a.2

judge : (f g : Signal) (n : ℕ) → Outcome f g n → ((m : ℕ) → n ≤ m → Outcome f g m) → Judged f g n
judge f g n (inl a) later =
    record {
      said = record {
        holds = (λ e. a.0, λ h. a.1);
        fails = λ s. (λ e. absurd (fails_not_holds s (sym e ∙ a.1)), λ h. absurd (a.0 s.first h.0.0));
        either = inl a.1;
      };
      steady = λ m l. agree f g n m (inl a) (later m l);
      early = λ s e. absurd (fails_not_holds s (sym e ∙ a.1));
    }
judge f g n (inr a) later =
    record {
      said = record {
        holds = (λ e. absurd (fails_not_holds a.0 (sym a.2 ∙ e)), λ h. absurd (h a.0.first a.1.0.0));
        fails = λ s. (
          λ e. subst (FirstRun f g) (one_told a.0 s (sym a.2 ∙ e)) a.1,
          λ h. a.2 ∙ ap fails_in (one_run f g a.0 s a.1 h),
        );
        either = inr (a.0, a.2);
      };
      steady = λ m l. agree f g n m (inr a) (later m l);
      early = λ s e. subst (Early n) (one_told a.0 s (sym a.2 ∙ e)) a.3;
    }

pub verdict_judged : (f g : Signal) (n : ℕ) → SettledFrom f n → SettledFrom g n → Judged f g n
verdict_judged f g n sf sg =
    judge f g n (outcome f g n sf sg) (λ m l. outcome f g m (settled_later f n m sf l) (settled_later g n m sg l))

pub earliest_fails : Earliest
earliest_fails =
    record {
      judged = verdict_judged;
      at_instant = fails_in_instant;
      in_gap = fails_in_gap;
      until_instant = until_instant_lem;
      until_before = until_before_lem;
      for_good = for_good_lem;
    }
