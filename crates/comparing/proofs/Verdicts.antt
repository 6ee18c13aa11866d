-- From what the scans meet to the answers of implication and equality.
use Prim.Native.Nat.{ℕ, suc, ◌+◌, ◌-◌, ◌≤◌, ◌<◌}
use native.Mathlib.Omega.{arith}
use mathlib.Core.Path.{◌≡◌, refl, sym, ◌∙◌, ap, subst}
use mathlib.Core.Logic.{⊎_elim}
use mathlib.Core.Bool.{Bool, true, false, not, beq, ◌&&◌}
use mathlib.Core.List.{List}
use mathlib.Core.Option.{Option, none, some}
use lib.ListN.{length}
use borrow.Author.Tests.{ne_eqb}
use Rattle.slices.specs.Bytes.{Words}
use Rattle.signals.specs.Moment.{gap, instant}
use Rattle.signals.specs.Signal.{Signal, every, refuted}
use Rattle.signals.specs.Words.{list_fault, pair_fault, signal_of, most_words}
use Rattle.signals.specs.Quantified.{Up, Down}
use Rattle.signals.specs.Implication.{verdict_of}
use Rattle.signals.specs.Earliest.{Refutes, FirstRefutes, RefutesTo, Judged}
use Rattle.signals.specs.declared.End.{End}
use Rattle.signals.specs.declared.End.TheVariants as ends
use Rattle.signals.specs.declared.Verdict.{Verdict}
use Rattle.signals.specs.declared.Verdict.TheVariants as verdict
use Rattle.signals.specs.declared.Told.{Told}
use Rattle.signals.specs.declared.Told.TheVariants as told
use Rattle.signals.specs.Answers.{Span, end_of, verdict_for, told_of, told_value}
use Rattle.signals.proofs.Truth.{not_both_lem, every_of}
use Rattle.signals.proofs.Wording.{split}
use Rattle.signals.proofs.Implication.{refuted_up, refuted_of, verdict_judged, fails_in_gap, fails_in_instant, until_instant_lem}
use Rattle.signals.proofs.Implication.{until_before_lem}
use Rattle.signals.proofs.Implication.{for_good_lem}
use Rattle.signals.proofs.FirstFault.{both_none}
use Rattle.signals.proofs.Normal.{accepted_normal}
use Rattle.questions.specs.Questions.{later_last, agreeing, equal_of, implies_of}
use Rattle.questions.proofs.LaterLast.{settled_a, settled_b, not_every}
use Rattle.comparing.specs.declared.Scan.{Scan}
use Rattle.comparing.specs.declared.Met.{Met}
use Rattle.comparing.specs.declared.Met.TheVariants.{Gap, Instant, Nothing}
use Rattle.comparing.specs.Finding.{sought_by, Meets, end_met, EndsSo, Judges, Found}
use Rattle.comparing.proofs.Watching.{sought, both_start, watch_start}
use Rattle.comparing.proofs.FirstFound.{First, Here, Tells, first_met}

-- both lists are accepted where neither fault is one
pub both_accepted : (a b : List ℕ) (fault : ℕ) → fault ≡ pair_fault a b → fault ≡ 0 → (list_fault a ≡ 0) × (list_fault b ≡ 0)
unfolding pair_fault
both_accepted a b fault e z = both_none (list_fault a) (list_fault b) (sym e ∙ z)

module _ (a b : List ℕ) (z : pair_fault a b ≡ 0) where
  pub short_a : length a ≤ most_words
  short_a = ((accepted_normal a).0 (both_accepted a b 0 (sym z) refl).0).1

  pub short_b : length b ≤ most_words
  short_b = ((accepted_normal b).0 (both_accepted a b 0 (sym z) refl).1).1

down_not : (b : Bool) → not b ≡ true → Down b
down_not true h = sym h
down_not false h = refl

up_not : (b : Bool) → not b ≡ false → Up b
up_not true h = refl
up_not false h = sym h

-- one way: f and not g, and the moments at which that is not so
refuting : (p q : Bool) → sought_by false true p q ≡ p && not q
refuting true true = refl
refuting true false = refl
refuting false true = refl
refuting false false = refl

sparing : (p q : Bool) → sought_by false false p q ≡ not (p && not q)
sparing true true = refl
sparing true false = refl
sparing false true = refl
sparing false false = refl

module _ (a b : List ℕ) where
  abbrev f : Signal
  f = signal_of a

  abbrev g : Signal
  g = signal_of b

  sought_refuted : (t : ℕ) → sought false true a b t ≡ refuted f g t
  unfolding sought refuted
  sought_refuted t = refuting (f t) (g t)

  sought_spared : (t : ℕ) → sought false false a b t ≡ not (refuted f g t)
  unfolding sought refuted
  sought_spared t = sparing (f t) (g t)

  refutes : (t : ℕ) → Up (sought false true a b t) → Refutes f g t
  refutes t h = refuted_up f g t (sym (sought_refuted t) ∙ h)

  refutes_not : (t : ℕ) → Down (sought false true a b t) → Refutes f g t → ⊥
  refutes_not t h w = not_both_lem (refuted_of f g t w) (sym (sought_refuted t) ∙ h)

  -- on from there
  goes_on : (t : ℕ) → Down (sought false false a b t) → Refutes f g t
  goes_on t h = refuted_up f g t (up_not (refuted f g t) (sym (sought_spared t) ∙ h))

  stops : (t : ℕ) → Up (sought false false a b t) → Refutes f g t → ⊥
  stops t h w = not_both_lem (refuted_of f g t w) (down_not (refuted f g t) (sym (sought_spared t) ∙ h))

  first_refutes : (t : ℕ) → First (sought false true a b) 0 t → FirstRefutes f g t
  first_refutes t h = (refutes t h.up, λ u l w. refutes_not u (h.clear u (omega arith) l) w)

  -- the run from t on whose first moment past it is u, both moments in their order
  ends_at : (t m u last : ℕ) → Refutes f g t → m ≤ suc t → t < u → suc last ≡ u → First (sought false false a b) m u
      → RefutesTo f g t (some last)
  ends_at t m u last w l n e h = (
    omega arith,
    λ v x y. ⊎_elim (λ z. goes_on v (h.clear v (omega arith) (omega arith))) (λ q. subst (Refutes f g) (sym q) w) (split t v x),
    λ r. stops u h.up (subst (Refutes f g) e r),
  )

  -- a moment that does not fail is not the failing one
  after : (t u : ℕ) → Refutes f g t → t ≤ u → Up (sought false false a b u) → t < u
  after t u w l h = ⊎_elim (λ z. z) (λ q. absurd (stops t (subst (λ v. Up (sought false false a b v)) q h) w)) (split t u l)

  -- the end by what the second scan meets, which began at the failing moment or in the gap after it
  end_told : (t m : ℕ) → Refutes f g t → t ≤ m → m ≤ suc t → (r : Met) → Tells a b (sought false false a b) m r
      → (last : Option ℕ) × RefutesTo f g t last × (end_met r ≡ end_of last)
  end_told t m w k l (Gap s) (h, here) =
      let n : t < gap s.after = after t (gap s.after) w (omega (arith, h.since)) h.up in
      let p : 1 ≤ s.after = omega arith in
      (some (instant s.after), ends_at t m (gap s.after) (instant s.after) w l n (omega arith) h, sym (until_instant_lem s.after p))
  end_told t m w k l (Instant s) (p, h, here) =
      let n : t < instant s.after = after t (instant s.after) w (omega (arith, h.since)) h.up in
      let e : s.after - 1 + 1 ≡ s.after = omega arith in (
        some (gap (s.after - 1)),
        ends_at t m (instant s.after) (gap (s.after - 1)) w l n (omega arith) h,
        ap ends.Before (sym e) ∙ sym (until_before_lem (s.after - 1)),
      )
  end_told t m w k l Nothing h = (
    none,
    λ v x. ⊎_elim (λ z. goes_on v (h v (omega arith))) (λ q. subst (Refutes f g) (sym q) w) (split t v x),
    sym for_good_lem,
  )

  module _ (wa : Words a) (wb : Words b) (za : list_fault a ≡ 0) (zb : list_fault b ≡ 0) where
    judged : Judged f g (later_last a b)
    judged = verdict_judged f g (later_last a b) (settled_a a b za zb) (settled_b a b za zb)

    -- the second scan
    end_so : (s : Scan) (t : ℕ) → Refutes f g t → t ≤ gap s.after → gap s.after ≤ suc t → Here a b s → (end : End) → EndsSo a b s end
        → (last : Option ℕ) × RefutesTo f g t last × (end ≡ end_of last)
    end_so s t w k l here end (r, h, e) =
        let x = end_told t (gap s.after) w k l r
        (first_met false false a b wa wb (watch_start false false a b s.after s.left.passed s.right.passed here) h) in
        (x.0, x.1, e ∙ x.2)

    pub verdict_told : (r : Met) → Tells a b (sought false true a b) 0 r → (v : Verdict) → Judges a b r v
        → v ≡ verdict_of f g (later_last a b)
    verdict_told (Gap s) (h, here) v (end, so, e) =
        let t = gap s.after in
        let x = end_so s t (refutes t h.up) (omega arith) (omega arith) here end so in
        let run : Span = record { first = t; last = x.0 } in
        e ∙ ap (verdict.FailsAfter s.after) x.2 ∙ sym (fails_in_gap s.after x.0)
        ∙ sym ((judged.said.fails run).1 (first_refutes t h, x.1))
    verdict_told (Instant s) (p, h, here) v (end, so, e) =
        let t = instant s.after in
        let x = end_so s t (refutes t h.up) (omega arith) (omega arith) here end so in
        let run : Span = record { first = t; last = x.0 } in
        e ∙ ap (verdict.FailsAt s.after) x.2 ∙ sym (fails_in_instant s.after x.0 p)
        ∙ sym ((judged.said.fails run).1 (first_refutes t h, x.1))
    verdict_told Nothing h v e = e ∙ sym (judged.said.holds.1 (λ t w. refutes_not t (h t (omega arith)) w))

    pub found_verdict : (v : Verdict) → Found a b v → v ≡ verdict_of f g (later_last a b)
    found_verdict v (r, h, j) =
        verdict_told r (first_met false true a b wa wb (watch_start false true a b 0 1 1 (both_start a b za zb)) h) v j

-- both ways: one of the two and not the other
differing : (p q : Bool) → sought_by true true p q ≡ not (beq p q)
differing true true = refl
differing true false = refl
differing false true = refl
differing false false = refl

-- equality by what the scan both ways meets
abbrev pub equal_by : Met → Told
equal_by (Gap s) = told.No
equal_by (Instant s) = told.No
equal_by Nothing = told.Yes

module _ (a b : List ℕ) where
  sought_differs : (t : ℕ) → sought true true a b t ≡ not (agreeing (signal_of a) (signal_of b) t)
  unfolding sought agreeing
  sought_differs t = differing (signal_of a t) (signal_of b t)

  module _ (za : list_fault a ≡ 0) (zb : list_fault b ≡ 0) where
    no_where : (t : ℕ) → Up (sought true true a b t) → every (agreeing (signal_of a) (signal_of b)) (gap (later_last a b)) ≡ false
    no_where t h =
        not_every (signal_of a) (signal_of b) (later_last a b) t (settled_a a b za zb) (settled_b a b za zb)
        (down_not (agreeing (signal_of a) (signal_of b) t) (sym (sought_differs t) ∙ h))

    every_told : (r : Met) → Tells a b (sought true true a b) 0 r
        → told_value (every (agreeing (signal_of a) (signal_of b)) (gap (later_last a b))) ≡ equal_by r
    every_told (Gap s) h = rw (no_where (gap s.after) h.0.up)
    every_told (Instant s) h = rw (no_where (instant s.after) h.1.up)
    every_told Nothing h =
        rw (every_of (agreeing (signal_of a) (signal_of b)) (gap (later_last a b))
        (λ u l. up_not (agreeing (signal_of a) (signal_of b) u) (sym (sought_differs u) ∙ h u (omega arith))))

-- the answers of the calls
module _ (a b : List ℕ) (fault : ℕ) (e : fault ≡ pair_fault a b) where
  pub implies_refused : (fault ≡ 0 → ⊥) → verdict.Refused fault ≡ implies_of a b
  unfolding implies_of verdict_for
  implies_refused n = rw (← e, ne_eqb fault 0 n)

  pub equal_refused : (fault ≡ 0 → ⊥) → told.Refused fault ≡ equal_of a b
  unfolding equal_of told_of
  equal_refused n = rw (← e, ne_eqb fault 0 n)

  pub equal_told : fault ≡ 0 → Words a → Words b → (r : Met) → Meets true true a b 0 1 1 r → (t : Told) → t ≡ equal_by r → t ≡ equal_of a b
  unfolding equal_of told_of
  equal_told z wa wb r h t q =
      let ok = both_accepted a b fault e z in
      let here = watch_start true true a b 0 1 1 (both_start a b ok.0 ok.1) in
      rw (← e, z) (q ∙ sym (every_told a b ok.0 ok.1 r (first_met true true a b wa wb here h)))
