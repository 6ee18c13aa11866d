-- The answer of the call from what its first pass counts.
use Prim.Native.Nat.{ℕ, ◌+◌, ◌≤◌, ◌<◌}
use native.Mathlib.Omega.{arith}
use mathlib.Core.Path.{◌≡◌, refl, sym, ◌∙◌, ap}
use mathlib.Core.Bool.{Bool, true, false, cond}
use mathlib.Core.List.{List, [], ◌∷◌, ◌++◌}
use lib.Dec.{eqb, leb, ltb}
use lib.ListN.{length, get_or, drop}
use borrow.Author.Tests.{eq-eqb, ne_eqb}
use Rattle.signals.specs.Words.{date_of, value_after, head_value, changes_nothing, dates_fault, tidy_fault, tidied, most_words}
use Rattle.signals.specs.Answers.{first_of, written_of, output_of}
use Rattle.signals.specs.declared.Written.{Written}
use Rattle.signals.specs.declared.Written.TheVariants.{Count, Refused}
use Rattle.lists.specs.Head.{head_fault}
use Rattle.lists.proofs.Judging.{head_first, head_past, head_small}
use Rattle.operations.specs.Calls.{room_fault}
use Rattle.building.specs.Building.{HandsOver}
use Rattle.building.proofs.Delivering.{no_room, handed}
use Rattle.tidying.specs.Calls.{tidying_fault, CallOfTidying}
use Rattle.tidying.specs.Kept.{changing, kept}
use Rattle.tidying.specs.Counting.{not_above, all_not_above, Counted}
use Rattle.tidying.proofs.Keeps.{kept_exact}

-- the dates have no fault where no word counts as not above
dates_by_count : (before : ℕ) (ws : List ℕ) → dates_fault (date_of before) ws ≡ cond (eqb (all_not_above before ws) 0) 0 3
unfolding dates_fault all_not_above not_above
dates_by_count before [] = refl
dates_by_count before (w ∷ ws) = go (leb (date_of w) (date_of before)) (dates_by_count w ws)
  where
    go : (t : Bool) → dates_fault (date_of w) ws ≡ cond (eqb (all_not_above w ws) 0) 0 3
        → cond t 3 (dates_fault (date_of w) ws) ≡ cond (eqb (cond t 1 0 + all_not_above w ws) 0) 0 3
    go true e = rw (ne_eqb (1 + all_not_above w ws) 0 (λ z. omega arith))
    go false e = let same : all_not_above w ws ≡ 0 + all_not_above w ws = omega arith in rw same at e

first_date : (h : ℕ) → h ≤ 1 → date_of h ≡ 0
unfolding date_of
first_date h e = omega arith

-- the dates are judged after the head
past_head : (l : List ℕ) → head_fault l ≡ 0 → dates_fault 0 (drop 1 l) ≡ tidy_fault l
unfolding head_fault tidy_fault
past_head [] z = absurd (omega arith)
past_head (h ∷ ws) z = head_past (ltb most_words (length (h ∷ ws))) (ltb 1 h) (dates_fault 0 ws) z

pub tidy_head : (fault : ℕ) (l : List ℕ) → fault ≡ head_fault l → (fault ≡ 0 → ⊥) → fault ≡ tidy_fault l
unfolding head_fault tidy_fault
tidy_head fault [] e n = e
tidy_head fault (h ∷ ws) e n = e ∙ head_first (ltb most_words (length (h ∷ ws))) (ltb 1 h) (dates_fault 0 ws) (λ z. n (e ∙ z))

module _ (l : List ℕ) (head : head_fault l ≡ 0) (words wrong : ℕ) (counted : Counted l words wrong) where
  fault_by_count : tidy_fault l ≡ cond (eqb wrong 0) 0 3
  fault_by_count =
      sym (past_head l head)
      ∙ ap (λ d. dates_fault d (drop 1 l)) (sym (first_date (get_or l 0 0) (head_small l head)))
      ∙ dates_by_count (get_or l 0 0) (drop 1 l)
      ∙ ap (λ (n : ℕ). cond (eqb n 0) 0 3) (sym counted.1)

  pub wrong_3 : (wrong ≡ 0 → ⊥) → 3 ≡ tidy_fault l
  wrong_3 n = sym (rw (ne_eqb wrong 0 n) at fault_by_count)

  pub wrong_0 : wrong ≡ 0 → tidy_fault l ≡ 0
  wrong_0 z = rw (eq-eqb wrong 0 z) at fault_by_count

-- a list of which as many words are kept as it has is kept whole
changing_le : (v : Bool) (ws : List ℕ) → length (changing v ws) ≤ length ws
unfolding changing
changing_le v [] = omega arith
changing_le v (w ∷ ws) = go (changes_nothing v w) (changing_le (value_after w) ws)
  where
    go : (t : Bool) → length (changing (value_after w) ws) ≤ length ws
        → length (cond t (changing (value_after w) ws) (w ∷ changing (value_after w) ws)) ≤ length (w ∷ ws)
    go true h = omega arith
    go false h = omega arith

changing_all : (v : Bool) (ws : List ℕ) → length (changing v ws) ≡ length ws → changing v ws ≡ ws
unfolding changing
changing_all v [] e = refl
changing_all v (w ∷ ws) e = go (changes_nothing v w) (λ q. changing_all (value_after w) ws q) (changing_le (value_after w) ws) e
  where
    rest : List ℕ
    rest = changing (value_after w) ws

    go : (t : Bool) → (length rest ≡ length ws → rest ≡ ws) → length rest ≤ length ws → length (cond t rest (w ∷ rest)) ≡ length (w ∷ ws)
        → cond t rest (w ∷ rest) ≡ w ∷ ws
    go true all h q = absurd (omega arith)
    go false all h q = ap (λ r. w ∷ r) (all (omega arith))

kept_all : (l : List ℕ) → length (kept l) ≡ length l → kept l ≡ l
unfolding kept
kept_all [] e = refl
kept_all (h ∷ ws) e = ap (λ r. h ∷ r) (changing_all (head_value h) ws (omega arith))

-- the call
pub tidy_refused : (l out : List ℕ) (fault : ℕ) → fault ≡ tidy_fault l → (fault ≡ 0 → ⊥) → CallOfTidying l out (Refused fault) out
unfolding tidying_fault first_of written_of output_of
tidy_refused l out fault e n = (rw (← e, ne_eqb fault 0 n, ne_eqb fault 0 n), rw (← e, ne_eqb fault 0 n, ne_eqb fault 0 n))

module _ (l out : List ℕ) (z : tidy_fault l ≡ 0) where
  room_is : tidying_fault l (length out) ≡ room_fault (kept l) (length out)
  unfolding tidying_fault room_fault first_of
  room_is =
      ap (λ f. first_of f (cond (ltb (length out) (length (tidied l))) 7 0)) z
      ∙ ap (λ k. cond (ltb (length out) (length k)) 7 0) (kept_exact l z)

  tidy_handed : (answer : Written) (after : List ℕ) → HandsOver (kept l) out answer after → CallOfTidying l out answer after
  tidy_handed answer after h = rw (room_is, kept_exact l z) h

  pub tidy_whole : length (kept l) ≡ length l → (answer : Written) (after : List ℕ) → HandsOver l out answer after
      → CallOfTidying l out answer after
  tidy_whole e answer after h = tidy_handed answer after (rw (kept_all l e) h)

  pub tidy_short : length out < length (kept l) → CallOfTidying l out (Refused 7) out
  tidy_short h = tidy_handed (Refused 7) out (no_room (kept l) out h)

  pub tidy_done : (count : ℕ) → count ≡ length (kept l) → count ≤ length out → (after : List ℕ) → after ≡ kept l ++ drop count out
      → CallOfTidying l out (Count count) after
  tidy_done count c h after e =
      rw c (tidy_handed (Count (length (kept l))) after (handed (kept l) out (omega arith) after (rw c at e)))
