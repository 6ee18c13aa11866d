-- The moments judged one by one: 20 as far as they rise, 9 as far as none is outside.
use Prim.Native.Nat.{ℕ, suc, ◌+◌, ◌/◌, ◌≤◌, ◌<◌}
use native.Mathlib.Omega.{arith}
use native.Mathlib.Decide.{dec_le}
use native.Mathlib.Numerals.{add-one}
use mathlib.Core.Path.{◌≡◌, refl, sym, ◌∙◌}
use mathlib.Core.Bool.{Bool, true, false, cond, ◌||◌}
use mathlib.Core.List.{List}
use mathlib.Core.Logic.{inl, inr}
use lib.Dec.{eqb, ltb}
use lib.ListN.{length, get_or}
use borrow.Author.Tests.{eqb-true, eqb-false, ltb-true, ltb-false}
use Rattle.std.specs.List.{IsAllAdjacentAnswer}
use Rattle.signals.specs.Moment.{M}
use Rattle.signals.specs.Checks.{Check, NoFault}
use Rattle.columns.specs.Columns.{not_rising, moment_fault, moments_fault}
use Rattle.columns.specs.Sentences.{Breaks9, Outside}
use Rattle.columns.proofs.RisingMoments.{falls_is, falls_not, rising_down}
use Rattle.columns.proofs.OutsideMoments.{moment_judged, moments_judged}

-- a single check gives its number where its sentence holds, else none
module _ {number fault : ℕ} {Broken : Type 0} where
  broken : Check number Broken NoFault fault → Broken → number ≡ fault
  broken (inl (b, e)) h = sym e
  broken (inr (n, e)) h = absurd (n h)

  free : Check number Broken NoFault fault → ¬ Broken → 0 ≡ fault
  free (inl (b, e)) h = absurd (h b)
  free (inr (n, e)) h = sym e

  sound : Check number Broken NoFault fault → 1 ≤ number → fault ≡ 0 → ¬ Broken
  sound (inl (b, e)) h z = absurd (omega (arith, h, e, z))
  sound (inr (n, e)) h z = n

  some : Check number Broken NoFault fault → ¬ (fault ≡ 0) → Broken × (fault ≡ number)
  some (inl (b, e)) h = (b, e)
  some (inr (n, e)) h = absurd (h e)

-- the moments rise where each is below the next, and else one is not after the one before it
pub rises_lem : (ms : List ℕ) → ((j : ℕ) (d : ℕ) → j + 1 < length ms → get_or ms j d < get_or ms (j + 1) d) → not_rising ms ≡ false
rises_lem ms r = falls_not ms (λ (j, h, f). let lt = rw add-one at (r j 0 (omega (arith, h))) in omega (arith, f, lt))

pub falls_lem : (ms : List ℕ) (j : ℕ) → j + 1 < length ms → get_or ms (j + 1) 0 ≤ get_or ms j 0 → not_rising ms ≡ true
falls_lem ms j h le = let after = rw add-one at le in falls_is ms (j, omega (arith, h), after)

-- without 20 they rise, so that none is before the one before it
pub none_falls : (ms : List ℕ) (fault : ℕ) → fault ≡ cond (not_rising ms) 20 0 → fault ≡ 0 → not_rising ms ≡ false
none_falls ms fault e z = go (not_rising ms) e
  where
    go : (b : Bool) → fault ≡ cond b 20 0 → b ≡ false
    go true e = absurd (omega (arith, e, z))
    go false e = refl

pub risen : (ms : List ℕ) → not_rising ms ≡ false → (i : ℕ) → suc i < length ms → get_or ms i 0 ≤ get_or ms (suc i) 0
risen ms z i h = go (dec_le (get_or ms i 0) (get_or ms (suc i) 0))
  where
    go : Dec (get_or ms i 0 ≤ get_or ms (suc i) 0) → get_or ms i 0 ≤ get_or ms (suc i) 0
    go (yes le) = le
    go (no n) = absurd (rising_down ms z (i, h, omega (arith, n)))

-- 9 of one moment, by the tests of the code
pub moment_is : (m : ℕ) → moment_fault m ≡ cond (eqb m 0 || ltb M (m / 2)) 9 0
moment_is m = go (eqb m 0) (ltb M (m / 2)) refl refl
  where
    none : ¬ (m ≡ 0) → m / 2 ≤ M → ¬ Outside m
    none n le (inl e) = n (omega (arith, e))
    none n le (inr h) = omega (arith, h, le)

    go : (z late : Bool) → eqb m 0 ≡ z → ltb M (m / 2) ≡ late → moment_fault m ≡ cond (z || late) 9 0
    go true late e f = sym (broken (moment_judged m) (inl (omega (arith, eqb-true m 0 e))))
    go false true e f = sym (broken (moment_judged m) (inr (omega (arith, ltb-true M (m / 2) f))))
    go false false e f = sym (free (moment_judged m) (none (eqb-false m 0 e) (ltb-false M (m / 2) f)))

-- none of the first i moments is outside
abbrev pub InsideTo : List ℕ → ℕ → Type 0
InsideTo ms i = (j : ℕ) → j < i → moment_fault (get_or ms j 0) ≡ 0

pub inside_next : (ms : List ℕ) (i : ℕ) → InsideTo ms i → moment_fault (get_or ms i 0) ≡ 0 → InsideTo ms (i + 1)
inside_next ms i r z j h = go (dec_le (suc j) i)
  where
    go : Dec (suc j ≤ i) → moment_fault (get_or ms j 0) ≡ 0
    go (yes le) = r j (omega (arith, le))
    go (no n) = let here : i ≡ j = omega (arith, n, h) in rw (← here) z

pub found_outside : (ms : List ℕ) (i fault : ℕ) → fault ≡ moment_fault (get_or ms i 0) → i < length ms → ¬ (fault ≡ 0)
    → fault ≡ moments_fault ms
found_outside ms i fault e h n =
    let (o, nine) = some (moment_judged (get_or ms i 0)) (λ z. n (e ∙ z)) in
    e ∙ nine ∙ broken (moments_judged ms) (i, h, o)

pub all_inside : (ms : List ℕ) (i : ℕ) → InsideTo ms i → length ms ≤ i → 0 ≡ moments_fault ms
all_inside ms i r le = free (moments_judged ms) none
  where
    none : ¬ Breaks9 ms
    none (j, h, o) = sound (moment_judged (get_or ms j 0)) (omega arith) (r j (omega (arith, h, le))) o

-- 20 by whether each moment is below the next
pub sorted_lem : (ms : List ℕ) (r : Bool) → IsAllAdjacentAnswer (λ x y b. b ≡ ltb x y) ms r
    → ◌≡◌ {A = ℕ} (cond r 0 20) (cond (not_rising ms) 20 0)
sorted_lem ms true h = rw (rises_lem ms (λ j d l. ltb-true _ _ (sym (h j d l))))
sorted_lem ms false (k, l, h) = rw (falls_lem ms k l (ltb-false _ _ (sym (h 0))))
