-- Copying the front of a slot to an output, word by word; and the call's output from what is delivered.
use Prim.Native.Nat.{ℕ, suc, ◌+◌, ◌≤◌, ◌<◌}
use native.Mathlib.Omega.{arith}
use native.Mathlib.Numerals.{add-one}
use mathlib.Core.Path.{◌≡◌, refl, sym, ◌∙◌}
use mathlib.Core.Bool.{Bool, true, false, cond, ◌||◌}
use mathlib.Core.List.{List, [], ◌∷◌, ◌++◌, append_assoc}
use lib.Dec.{ltb, eqb}
use lib.ListN.{length, take, drop, set, get_or}
use lib.Seq.{take-suc, drop-cons, set_at, length-take-le, take_at}
use borrow.Author.Tests.{lt-ltb, le-ltb, ltb-false, eqb-true}
use Rattle.signals.specs.Answers.{first_of, written_of, output_of}
use Rattle.signals.specs.declared.Written.{Written}
use Rattle.signals.specs.declared.Written.TheVariants.{Count, Refused}
use Rattle.signals.proofs.FirstFault.{both_none}
use Rattle.operations.proofs.CallFaults.{part_none}
use Rattle.operations.specs.Calls.{part_fault, room_fault, answer_fault, changes_after_m}
use Rattle.building.specs.Building.{HandsOver, made_fault, Delivers}
use Rattle.building.proofs.Built.{Built}
use Rattle.building.specs.declared.Made.{Made}
use Rattle.building.proofs.BuildingLaws.{slot_short}
use Rattle.signals.specs.Words.{most_words}

copy_step : (s o : List ℕ) (i : ℕ) → i < length s → i < length o
    → set (take i s ++ drop i o) i (get_or s i 0) ≡ take (i + 1) s ++ drop (i + 1) o
copy_step s o i hs ho =
    rw (add-one, take-suc s i 0 hs, drop-cons o i 0 ho)
    (set_at (take i s) (get_or o i 0) (drop (suc i) o) (get_or s i 0) i (length-take-le i s (omega arith))
    ∙ sym (append_assoc (take i s) (get_or s i 0 ∷ []) (drop (suc i) o)))

pub copy_next : (s o out : List ℕ) (i : ℕ) → out ≡ take i s ++ drop i o → i < length s → i < length o
    → set out i (get_or s i 0) ≡ take (i + 1) s ++ drop (i + 1) o
copy_next s o out i e hs ho = rw e (copy_step s o i hs ho)

-- handing a list over
module _ (words out : List ℕ) where
  pub no_room : length out < length words → HandsOver words out (Refused 7) out
  unfolding room_fault written_of output_of
  no_room h = (rw (lt-ltb (length out) (length words) h), rw (lt-ltb (length out) (length words) h))

  pub handed : length words ≤ length out → (after : List ℕ) → after ≡ words ++ drop (length words) out
      → HandsOver words out (Count (length words)) after
  unfolding room_fault written_of output_of
  handed h after q = (rw (le-ltb (length out) (length words) h), rw (le-ltb (length out) (length words) h) q)

-- a call's words matter where it has no fault
written_alike : (fault : ℕ) (words exact : List ℕ) → (fault ≡ 0 → words ≡ exact) → written_of fault words ≡ written_of fault exact
unfolding written_of
written_alike fault words exact h = go (eqb fault 0) refl
  where
    go : (t : Bool) → eqb fault 0 ≡ t → cond t (Count (length words)) (Refused fault) ≡ cond t (Count (length exact)) (Refused fault)
    go true e = rw (h (eqb-true fault 0 e))
    go false e = refl

output_alike : (fault : ℕ) (words exact out : List ℕ) → (fault ≡ 0 → words ≡ exact) → output_of fault words out ≡ output_of fault exact out
unfolding output_of
output_alike fault words exact out h = go (eqb fault 0) refl
  where
    go : (t : Bool) → eqb fault 0 ≡ t → cond t (words ++ drop (length words) out) out ≡ cond t (exact ++ drop (length exact) out) out
    go true e = rw (h (eqb-true fault 0 e))
    go false e = refl

-- what is delivered of the whole answer, built in a slot that holds it where it is not too long, is what the call gives
module _ (exact old slot : List ℕ) (made : Made) (b : Built exact old slot made)
    (room : length exact ≤ most_words → length exact ≤ length old) (kept : length slot ≡ length old) (out : List ℕ)
  where
    same_fault : made_fault made (length slot) (length out) ≡ answer_fault exact (length out)
    unfolding made_fault answer_fault part_fault room_fault first_of
    same_fault = rw (b.count_is, b.late_is)
        (go (ltb most_words (length exact)) (changes_after_m exact) (ltb (length out) (length exact)) refl)
      where
        go : (t u v : Bool) → ltb most_words (length exact) ≡ t
            → ◌≡◌ {A = ℕ}
            (cond (t || ltb (length slot) (length exact)) 5 (cond u 6 (cond v 7 0)))
            (cond (eqb (cond t 5 (cond u 6 0)) 0) (cond v 7 0) (cond t 5 (cond u 6 0)))
        go true u v p = refl
        go false u v p = rw (le-ltb (length slot) (length exact) (omega (arith, room (ltb-false most_words (length exact) p)))) (ways u v)
          where
            ways : (u v : Bool) → ◌≡◌ {A = ℕ} (cond u 6 (cond v 7 0)) (cond (eqb (cond u 6 0) 0) (cond v 7 0) (cond u 6 0))
            ways true v = refl
            ways false v = refl

    same_words : answer_fault exact (length out) ≡ 0 → take made.count slot ≡ exact
    unfolding answer_fault
    same_words z =
        let p = part_none exact (both_none (part_fault exact) (room_fault exact (length out)) z).0 in
        rw (b.count_is, b.slot_is, slot_short exact old p.1 (room p.0))
        (take_at exact (drop (length exact) old) (length exact) refl)

    pub delivered : (r : Written) (after : List ℕ) → Delivers made slot out r after
        → (r ≡ written_of (answer_fault exact (length out)) exact) × (after ≡ output_of (answer_fault exact (length out)) exact out)
    delivered r after d =
        let e = rw same_fault at d in
        (e.0 ∙ written_alike _ _ _ same_words, e.1 ∙ output_alike _ _ _ _ same_words)
