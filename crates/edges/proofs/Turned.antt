-- NOT of an accepted list is the list with each value turned.
use Prim.Native.Nat.{ℕ, zero, suc, ◌+◌, ◌*◌, ◌-◌, ◌/◌, ◌%◌, ◌≤◌, ◌<◌}
use native.Mathlib.Omega.{arith}
use mathlib.Core.Path.{◌≡◌, refl, ◌∙◌, ap}
use mathlib.Core.Bool.{Bool, true, false, not, cond, beq, ◌&&◌}
use mathlib.Core.List.{List, [], ◌∷◌, ◌++◌}
use lib.ListN.{length, take, drop, set, get_or}
use lib.Seq.{take_all}
use Rattle.slices.specs.Bytes.{Words}
use Rattle.signals.specs.Moment.{gap}
use Rattle.signals.specs.Signal.{Signal, NOT, num}
use Rattle.signals.specs.Words.{word, list_fault, last_date, signal_of, words_of, list_of}
use Rattle.signals.specs.Normal.{Normal}
use Rattle.signals.specs.declared.Written.{Written}
use Rattle.signals.specs.declared.Written.TheVariants.{Count, Refused}
use Rattle.signals.proofs.Normal.{accepted_normal, read_back_lem}
use Rattle.operations.specs.Calls.{exact_of_one, CallOfOne}
use Rattle.operations.proofs.NeverMet.{never_met}
use Rattle.building.specs.Building.{HandsOver}
use Rattle.building.proofs.Delivering.{copy_next, no_room, handed}
use Rattle.edges.specs.Turning.{turned_word, turned_words, turned_list}
use Rattle.edges.proofs.NoFault.{call_handed}

turn_word : (d : ℕ) (a b : Bool) → word d (not a) (not b) ≡ turned_word (word d a b)
unfolding turned_word word
turn_word d true true = omega arith
turn_word d true false = omega arith
turn_word d false true = omega arith
turn_word d false false = omega arith

turn_words : (s : Signal) (k n : ℕ) → words_of (NOT s) k n ≡ turned_words (words_of s k n)
unfolding words_of turned_words NOT
turn_words s k zero = refl
turn_words s k (suc n) = go (s (gap k)) (s (gap k + 1)) (s (gap k + 2)) (turn_words s (suc k) n)
  where
    go : (v a b : Bool) → words_of (NOT s) (suc k) n ≡ turned_words (words_of s (suc k) n)
        → cond (beq (not a) (not v) && beq (not b) (not v)) (words_of (NOT s) (suc k) n)
        (word (suc k) (not a) (not b) ∷ words_of (NOT s) (suc k) n)
        ≡ turned_words (cond (beq a v && beq b v) (words_of s (suc k) n) (word (suc k) a b ∷ words_of s (suc k) n))
    go true true true e = e
    go true true false e = rw (e, turn_word (suc k) true false)
    go true false b e = rw (e, turn_word (suc k) false b)
    go false true b e = rw (e, turn_word (suc k) true b)
    go false false true e = rw (e, turn_word (suc k) false true)
    go false false false e = e

turn_first : (v : Bool) → num (not v) ≡ 1 - num v
turn_first true = refl
turn_first false = refl

module _ (a : List ℕ) (accepted : list_fault a ≡ 0) where
  pub exact_turned : exact_of_one NOT a ≡ turned_list a
  unfolding exact_of_one list_of turned_list NOT
  exact_turned =
      rw (turn_words (signal_of a) 0 (last_date a), turn_first (signal_of a 0))
      (ap turned_list (read_back_lem a ((accepted_normal a).0 accepted).0).same)

turned_long : (ws : List ℕ) → length (turned_words ws) ≡ length ws
unfolding turned_words
turned_long [] = refl
turned_long (w ∷ ws) = ap suc (turned_long ws)

pub list_long : (a : List ℕ) → length (turned_list a) ≡ length a
unfolding turned_list
list_long [] = refl
list_long (h ∷ ws) = ap suc (turned_long ws)

words_get : (ws : List ℕ) (i : ℕ) → i < length ws → turned_word (get_or ws i 0) ≡ get_or (turned_words ws) i 0
unfolding turned_words
words_get [] i h = absurd (omega arith)
words_get (w ∷ ws) zero h = refl
words_get (w ∷ ws) (suc i) h = words_get ws i (omega arith)

pub list_get : (a : List ℕ) (i : ℕ) → 1 ≤ i → i < length a → turned_word (get_or a i 0) ≡ get_or (turned_list a) i 0
unfolding turned_list
list_get [] i p h = absurd (omega arith)
list_get (w ∷ ws) zero p h = absurd (omega arith)
list_get (w ∷ ws) (suc i) p h = words_get ws i (omega arith)

pub list_first_lem : (a : List ℕ) → 1 ≤ length a → 1 - get_or a 0 0 ≡ get_or (turned_list a) 0 0
unfolding turned_list
list_first_lem [] h = absurd (omega arith)
list_first_lem (h ∷ ws) p = refl

-- an accepted list has a first word, of 0 or 1
pub first_is : (a : List ℕ) → list_fault a ≡ 0 → (1 ≤ length a) × (get_or a 0 0 ≤ 1)
first_is a e = go a ((accepted_normal a).0 e).0
  where
    go : (a : List ℕ) → Normal a → (1 ≤ length a) × (get_or a 0 0 ≤ 1)
    go [] n = absurd n
    go (h ∷ ws) n = (omega arith, n.0)

module _ (a : List ℕ) (accepted : list_fault a ≡ 0) (small : Words a) where
  turned_call : (out : List ℕ) (answer : Written) (after : List ℕ) → HandsOver (turned_list a) out answer after
      → CallOfOne NOT a out answer after
  turned_call out answer after h =
      call_handed NOT a small accepted (never_met.not_longer a accepted) out answer after (rw (exact_turned a accepted) h)

  pub turned_short_lem : (out : List ℕ) → length out < length a → CallOfOne NOT a out (Refused 7) out
  turned_short_lem out h = turned_call out (Refused 7) out (no_room (turned_list a) out (rw (list_long a) h))

  pub turned_written : (out after : List ℕ) → length a ≤ length out → after ≡ turned_list a ++ drop (length a) out
      → CallOfOne NOT a out (Count (length a)) after
  turned_written out after h e =
      turned_call out (Count (length a)) after
      (rw (list_long a) at (handed (turned_list a) out (rw (list_long a) h) after (rw (list_long a) e)))

-- the words as they are written: the first, the next, all
pub put_first : (a out : List ℕ) → 1 ≤ length a → 1 ≤ length out → set out 0 (1 - get_or a 0 0) ≡ take 1 (turned_list a) ++ drop 1 out
put_first a out p q =
    ap (λ (v : ℕ). set out 0 v) (list_first_lem a p) ∙ copy_next (turned_list a) out out 0 refl (rw (list_long a) p) q

pub put_next : (a old out : List ℕ) (i : ℕ) → 1 ≤ i → i < length a → i < length old → out ≡ take i (turned_list a) ++ drop i old
    → set out i (4 * (get_or a i 0 / 4) + (3 - get_or a i 0 % 4)) ≡ take (i + 1) (turned_list a) ++ drop (i + 1) old
unfolding turned_word
put_next a old out i p h k e =
    ap (λ (v : ℕ). set out i v) (list_get a i p h) ∙ copy_next (turned_list a) old out i e (rw (list_long a) h) k

pub put_all : (a old out : List ℕ) (i : ℕ) → i ≡ length a → out ≡ take i (turned_list a) ++ drop i old
    → out ≡ turned_list a ++ drop (length a) old
put_all a old out i q e =
    e ∙ rw q (ap (λ (l : List ℕ). l ++ drop (length a) old) (take_all (length a) (turned_list a) (rw (list_long a) (omega arith))))
