-- The answer of a signal F with horizon n, built up to date k: what every loop of the operations keeps.
use Prim.Native.Nat.{ℕ, zero, suc, ◌+◌, ◌-◌, ◌≤◌, ◌<◌}
use native.Mathlib.Omega.{arith}
use mathlib.Core.Path.{◌≡◌, refl, sym, ◌∙◌, ap}
use mathlib.Core.Bool.{Bool, true, false, cond, beq, ◌&&◌}
use mathlib.Core.List.{List, [], ◌∷◌}
use lib.ListN.{length, take, drop, set, length-drop}
use lib.Seq.{take_all}
use Rattle.signals.specs.Moment.{gap}
use Rattle.signals.specs.Signal.{Signal, num}
use Rattle.signals.specs.Words.{words_of, list_of, word}
use Rattle.signals.proofs.Scan.{Held, scan_to, scan_settled}
use Rattle.building.specs.Building.{idle, one_more, late_with, emitted, emitted_in, begun}
use Rattle.building.proofs.Built.{Built}
use Rattle.building.specs.declared.Made.{Made}
use Rattle.building.proofs.BuildingLaws.{Building, building_begin, Advanced, advance}

pub record Scanning (F : Signal) (n k : ℕ) (old slot : List ℕ) (made : Made) : Type 0 where
  pub building : Building (list_of F n) old slot made
  pub left : drop made.count (list_of F n) ≡ words_of F k (n - k)
  pub value_is : F (gap k) ≡ made.value

-- the value after a word that may change nothing
emitted_value : (made : Made) (date : ℕ) (at after : Bool) → after ≡ (emitted made date at after).value
unfolding emitted idle
emitted_value made date at after = go made.value at after refl
  where
    go : (v a b : Bool) → made.value ≡ v
        → b ≡ (cond (beq a v && beq b v) made
        (record { count = one_more made.count; value = b; late = late_with made.late date })).value
    go true true true e = sym e
    go true true false e = refl
    go true false b e = refl
    go false true b e = refl
    go false false true e = refl
    go false false false e = sym e

-- a list has at most a word for each date
words_length : (F : Signal) (k n : ℕ) → length (words_of F k n) ≤ n
unfolding words_of
words_length F k zero = omega arith
words_length F k (suc n) = go (beq (F (gap k + 1)) (F (gap k)) && beq (F (gap k + 2)) (F (gap k))) (words_length F (suc k) n)
  where
    go : (t : Bool) → length (words_of F (suc k) n) ≤ n
        → length (cond t (words_of F (suc k) n) (word (suc k) (F (gap k + 1)) (F (gap k + 2)) ∷ words_of F (suc k) n)) ≤ suc n
    go true h = omega arith
    go false h = omega arith

list_length : (F : Signal) (n : ℕ) → length (list_of F n) ≤ n + 1
unfolding list_of
list_length F n = let h = words_length F 0 n in omega arith

module _ (F : Signal) (n : ℕ) (old : List ℕ) where
  pub scanning_begin : (v : Bool) → v ≡ F 0 → Scanning F n 0 old (set old 0 (num v)) (begun v)
  unfolding list_of begun
  scanning_begin v e =
      rw e (record { building = building_begin (F 0) (words_of F 0 n) old; left = rw zero_left; value_is = refl })
    where
      zero_left : n - 0 ≡ n
      zero_left = omega arith

  -- a date at which, or after which, F may change
  pub scanning_emit : (k d : ℕ) (v a b : Bool) (slot : List ℕ) (made : Made) → Scanning F n k old slot made → Held F k d v a b → d ≤ n
      → n + 1 < 4294967296
      → Scanning F n d old (emitted_in slot made d a b) (emitted made d a b)
  scanning_emit k d v a b slot made s h le small =
      record { building = next.building; left = next.left; value_is = h.after ∙ emitted_value made d a b }
    where
      same : v ≡ made.value
      same = sym (h.still (gap k) (omega arith) (omega (arith, h.later))) ∙ s.value_is

      next : Advanced (list_of F n) old (words_of F d (n - d)) (emitted_in slot made d a b) (emitted made d a b)
      next = advance (list_of F n) old slot (words_of F d (n - d)) made d a b s.building (omega (arith, list_length F n))
          (rw same at (s.left ∙ scan_to F n k d v a b h le))

  -- F changes no more: the answer is whole
  pub scanning_done : (k : ℕ) (slot : List ℕ) (made : Made) → Scanning F n k old slot made → ((t : ℕ) → gap k ≤ t → F t ≡ F (gap k))
      → Built (list_of F n) old slot made
  scanning_done k slot made s still =
      record {
        count_is = whole;
        late_is = rw all at s.building.late;
        slot_is = rw all at s.building.slot_is;
      }
    where
      none : drop made.count (list_of F n) ≡ []
      none = s.left ∙ scan_settled F (n - k) k (F (gap k)) still

      whole : made.count ≡ length (list_of F n)
      whole = let e : length (list_of F n) - made.count ≡ 0 =
          sym (length-drop made.count (list_of F n)) ∙ ap length none in omega (arith, s.building.counted)

      all : take made.count (list_of F n) ≡ list_of F n
      all = take_all made.count (list_of F n) (omega (arith, whole))
