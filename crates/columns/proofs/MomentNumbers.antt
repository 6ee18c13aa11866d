-- The number of a moment is one above the moment's own, so both have one order.
use Prim.Native.Nat.{ℕ, ◌+◌, ◌-◌, ◌*◌, ◌%◌}
use native.Mathlib.Omega.{arith}
use mathlib.Core.Path.{◌≡◌, refl}
use mathlib.Core.Logic.{◌⊎◌, inl, inr, ◌≢◌}
use mathlib.Core.Bool.{Bool, true, false, cond}
use borrow.Author.Tests.{eqb-true, eqb-false, eq-eqb, ne_eqb}
use Rattle.signals.specs.Moment.{gap, instant}
use Rattle.columns.specs.Numbers.{instant_number, gap_number, is_gap_number, date_in, moment_of}
use Rattle.columns.specs.MomentNumbers.{MomentNumbers}

-- a gap's number by its test, and an instant's
pub gap_number_lem : (m : ℕ) → is_gap_number m ≡ true → m ≡ gap_number (date_in m)
unfolding is_gap_number date_in
gap_number_lem m e = let h : m % 2 ≡ 1 = eqb-true (m % 2) 1 e in omega arith

pub instant_number_lem : (m : ℕ) → is_gap_number m ≡ false → m ≡ instant_number (date_in m)
unfolding is_gap_number date_in
instant_number_lem m e = let h : m % 2 ≢ 1 = eqb-false (m % 2) 1 e in omega arith

-- an instant's number and a gap's by their tests
pub instant_read : (k : ℕ) → (is_gap_number (instant_number k) ≡ false) × (date_in (instant_number k) ≡ k)
unfolding is_gap_number date_in
instant_read k = (ne_eqb (2 * k % 2) 1 (λ e. omega (arith, e)), omega arith)

pub gap_read : (k : ℕ) → (is_gap_number (gap_number k) ≡ true) × (date_in (gap_number k) ≡ k)
unfolding is_gap_number date_in
gap_read k = (eq-eqb ((2 * k + 1) % 2) 1 (omega arith), omega arith)

moment_is : (m : ℕ) → moment_of m ≡ m - 1
unfolding moment_of
moment_is m = go (is_gap_number m) refl
  where
    go : (b : Bool) → is_gap_number m ≡ b → cond b (gap (date_in m)) (instant (date_in m)) ≡ m - 1
    go true e = omega (arith, gap_number_lem m e)
    go false e = omega (arith, instant_number_lem m e)

every : (m : ℕ) → (m ≡ instant_number (date_in m)) ⊎ (m ≡ gap_number (date_in m))
every m = go (is_gap_number m) refl
  where
    go : (b : Bool) → is_gap_number m ≡ b → (m ≡ instant_number (date_in m)) ⊎ (m ≡ gap_number (date_in m))
    go true e = inr (gap_number_lem m e)
    go false e = inl (instant_number_lem m e)

pub moment_numbers : MomentNumbers
moment_numbers =
    record {
      instants = λ k l. moment_is (instant_number k);
      gaps = λ k. omega (arith, moment_is (gap_number k));
      every = every;
      order = λ m n a. (λ l. omega (arith, moment_is m, moment_is n), λ l. omega (arith, moment_is m, moment_is n));
      between = λ k. (omega arith, omega arith);
    }
