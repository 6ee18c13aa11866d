-- What a part's operation makes of accepted lists: the faults 5 and 6 of its exact answer, or that answer.
use Prim.Native.Nat.{ℕ, zero, suc, ◌/◌, ◌%◌, ◌≤◌}
use native.Mathlib.Omega.{arith}
use mathlib.Core.Path.{◌≡◌, refl, sym, ◌∙◌, ap}
use mathlib.Core.Bool.{Bool, true, false, cond}
use mathlib.Core.List.{List}
use lib.Dec.{leb, ltb, eqb}
use lib.ListN.{length, take, drop}
use lib.Seq.{take_at}
use borrow.Author.Tests.{leb-true, leb-false, le-ltb, lt-ltb, eqb-true, ltb-false}
use Rattle.signals.specs.Moment.{M}
use Rattle.signals.specs.Words.{most_words, list_fault, pair_fault}
use Rattle.signals.specs.Answers.{first_of, fault_in, count_in, written_of}
use Rattle.signals.specs.declared.Written.{Written}
use Rattle.signals.specs.declared.Written.TheVariants.{Count, Refused}
use Rattle.signals.proofs.FirstFault.{both_none}
use Rattle.slices.specs.Bytes.{Words}
use Rattle.operations.specs.Calls.{length_fault, part_fault, changes_after_m, exact_of_two}
use Rattle.building.proofs.Built.{Built}
use Rattle.building.specs.Slots.{made_answer}
use Rattle.building.specs.declared.Made.{Made}
use Rattle.building.proofs.BuildingLaws.{slot_short}
use Rattle.building.proofs.JudgedSlots.{built_answer_lem}
use Rattle.showing.specs.Showing.{merged}
use Rattle.merging.proofs.OneOperand.{none}
use Rattle.merging.proofs.MergedExact.{merged_exact}
use Rattle.grammar.specs.Kinds as kinds
use Rattle.applying.specs.PartCalls.{part_answer, unary_of, unary_fault, unary_exact, judged_for, exact_for}
use Rattle.applying.specs.Merges.{operation_of, table_for}
use Rattle.applying.specs.Applied.{MergedIn, engine_of, TimedInto, edged, AppliedInBy, Applied}
use Rattle.applying.proofs.Numbering.{numbered}
use Rattle.applying.proofs.Operators.{of_one, of_two, of_timer, timer_judged, timer_builds}
use Rattle.applying.proofs.Operators.{judged_one, exact_one, judged_two, exact_two}

-- the answer's fault, and without one its list
abbrev pub Told : Written → List ℕ → List ℕ → Type 0
Told answer l exact = (fault_in answer ≡ part_fault exact) × (fault_in answer ≡ 0 → l ≡ exact)

told_fault : (f : ℕ) (l : List ℕ) → fault_in (written_of f l) ≡ f
unfolding written_of
told_fault f l = go (eqb f 0) refl
  where
    go : (t : Bool) → eqb f 0 ≡ t → fault_in (cond t (Count (length l)) (Refused f)) ≡ f
    go true e = sym (eqb-true f 0 e)
    go false e = refl

told_count : (f : ℕ) (l : List ℕ) → f ≡ 0 → count_in (written_of f l) ≡ length l
unfolding written_of
told_count f l z = rw z

-- no fault: it fits, and nothing is late
fits : (l : List ℕ) → part_fault l ≡ 0 → (length l ≤ most_words) × (changes_after_m l ≡ false)
unfolding part_fault
fits l z = go (ltb most_words (length l)) (changes_after_m l) refl refl z
  where
    go : (a b : Bool) → ltb most_words (length l) ≡ a → changes_after_m l ≡ b → ◌≡◌ {A = ℕ} (cond a 5 (cond b 6 0)) 0
        → (length l ≤ most_words) × (changes_after_m l ≡ false)
    go true b e f z = absurd (omega arith)
    go false true e f z = absurd (omega arith)
    go false false e f z = (ltb-false most_words (length l) e, f)

built_told : (exact before slot : List ℕ) (made : Made) → Built exact before slot made → length before ≡ most_words → (answer : Written)
    → answer ≡ part_answer (made_answer made) → (l : List ℕ) → l ≡ take (count_in answer) slot → Told answer l exact
built_told exact before slot made b wide answer e l i = (fault, list)
  where
    written : answer ≡ written_of (part_fault exact) exact
    written = e ∙ ap part_answer (built_answer_lem exact before slot made b) ∙ numbered exact

    fault : fault_in answer ≡ part_fault exact
    fault = ap fault_in written ∙ told_fault (part_fault exact) exact

    list : fault_in answer ≡ 0 → l ≡ exact
    list z =
        let none : part_fault exact ≡ 0 = sym fault ∙ z in
        let f = fits exact none in
        let n : count_in answer ≡ length exact = ap count_in written ∙ told_count (part_fault exact) exact none in
        let s = b.slot_is ∙ slot_short exact before f.1 (omega (arith, f.0)) in
        i ∙ rw (n, s) (take_at exact (drop (length exact) before) (length exact) refl)

small : (d : ℕ) → length_fault d ≡ 0 → d ≤ M
unfolding length_fault
small d z = go (ltb M d) refl z
  where
    go : (t : Bool) → ltb M d ≡ t → ◌≡◌ {A = ℕ} (cond t 8 0) 0 → d ≤ M
    go true e z = absurd (omega arith)
    go false e z = ltb-false M d e

-- a merge and a timer in a slot of 256 words, their list at its front
module _ (answer : Written) (l before slot : List ℕ) (wide : length before ≡ most_words) (i : l ≡ take (count_in answer) slot) where
  merge_told : (k : ℕ) (a b : List ℕ) → MergedIn k a b before slot answer → pair_fault a b ≡ 0 → Words a → Words b
      → Told answer l (exact_of_two (merged (operation_of k) (table_for k)) a b)
  unfolding pair_fault
  merge_told k a b m z u v =
      let j = both_none (list_fault a) (list_fault b) z in
      built_told _ before slot m.made
      (merged_exact (operation_of k) (table_for k) a b j.0 j.1 u v before slot m.made m.merges)
      wide answer m.answer_is l i

  timer_told : (k d : ℕ) (a : List ℕ) → edged k ≡ false → TimedInto (engine_of k d) d a before slot answer
      → first_of (list_fault a) (length_fault d) ≡ 0 → Words a → Told answer l (unary_exact (unary_of k d) a)
  timer_told k d a e m z u =
      let j = both_none (list_fault a) (length_fault d) z in
      let s = small d j.1 in
      let r = m.ran s in
      built_told _ before (engine_of k d a before).slot (engine_of k d a before).made (timer_builds d a before j.0 s u k e) wide answer
      r.0 l (i ∙ ap (take (count_in answer)) r.1)

none_words : Words none
none_words zero = omega arith
none_words (suc i) = omega arith

pub applied_exact : (w : ℕ) (a b : List ℕ) (answer : Written) (l : List ℕ) → Applied w a b answer l → judged_for w a b ≡ 0
    → Words a → Words b
    → (fault_in answer ≡ part_fault (exact_for w a b)) × (fault_in answer ≡ 0 → l ≡ exact_for w a b)
applied_exact w a b answer l x z u v = go (leb kinds.AND (w % 16)) (edged (w % 16)) refl refl x.applied
  where
    under : (e : List ℕ) → e ≡ exact_for w a b → Told answer l e → Told answer l (exact_for w a b)
    under e q t = rw q at t

    go : (two edge : Bool) → leb kinds.AND (w % 16) ≡ two → edged (w % 16) ≡ edge → AppliedInBy two edge w a b x.before x.slot answer
        → Told answer l (exact_for w a b)
    go true edge e f y =
        let h = leb-true kinds.AND (w % 16) e in
        let i = le-ltb (w % 16) kinds.AND h in
        under _ (of_two (w % 16) h a b ∙ exact_two w a b i)
        (merge_told answer l x.before x.slot x.wide x.list_is (w % 16) a b y (judged_two w a b i ∙ z) u v)
    go false true e f y =
        let i = lt-ltb (w % 16) kinds.AND (leb-false kinds.AND (w % 16) e) in
        let o = of_one (w % 16) f (w / 16 % 4294967296) a in
        under _ (o.1 ∙ exact_one w a b i)
        (merge_told answer l x.before x.slot x.wide x.list_is (w % 16) a none y (o.0 ∙ judged_one w a b i ∙ z) u none_words)
    go false false e f y =
        let n = w / 16 % 4294967296 in
        let i = lt-ltb (w % 16) kinds.AND (leb-false kinds.AND (w % 16) e) in
        under _ (exact_one w a b i)
        (timer_told answer l x.before x.slot x.wide x.list_is (w % 16) n a f y
        (timer_judged (eqb (w % 16) kinds.TON) (eqb (w % 16) kinds.TOF) n a ∙ ap (λ o. unary_fault o a) (sym (of_timer (w % 16) n f))
        ∙ judged_one w a b i ∙ z) u)
