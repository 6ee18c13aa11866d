-- Between turns of the scan: no moment since it began is sought, and what the values held and the next date tell of those from here on.
use Prim.Native.Nat.{ℕ, ◌+◌, ◌≤◌, ◌<◌}
use native.Mathlib.Omega.{arith}
use native.Mathlib.Decide.{dec_le}
use mathlib.Core.Path.{◌≡◌, refl}
use mathlib.Core.Logic.{◌⊎◌, inl, inr, ⊎_elim}
use mathlib.Core.Bool.{Bool, true, false}
use mathlib.Core.List.{List}
use lib.Dec.{ltb}
use lib.ListN.{length, get_or}
use borrow.Author.Tests.{ltb-true, ltb-false}
use Rattle.slices.specs.Bytes.{Words}
use Rattle.signals.specs.Moment.{gap, instant}
use Rattle.signals.specs.Signal.{Signal}
use Rattle.signals.specs.Words.{date_of, list_fault, signal_of}
use Rattle.signals.specs.Passing.{held_value, at_date, passed_date}
use Rattle.signals.specs.Quantified.{Down}
use Rattle.signals.proofs.WordFacts.{date_le}
use Rattle.signals.proofs.Operand.{At, Passed, at_pass, at_end_lem, next_later}
use Rattle.signals.proofs.Normal.{accepted_start}
use Rattle.reading.specs.Reading.{NEVER, next_date}
use Rattle.reading.proofs.Counting.{next_in, next_left}
use Rattle.comparing.specs.Finding.{sought_by, next_of, Quiet}

-- the moments of two lists that a scan seeks
unfoldable pub sought : Bool → Bool → List ℕ → List ℕ → Signal
sought both failing a b t = sought_by both failing (signal_of a t) (signal_of b t)

-- no moment from m on before n has p
abbrev pub Clear : Signal → ℕ → ℕ → Type 0
Clear p m n = (u : ℕ) → m ≤ u → u < n → Down (p u)

-- a next date that is no word's: none is left
none_left : (l : List ℕ) (i : ℕ) → Words l → NEVER ≤ next_date l i → length l ≤ i
none_left l i w h = go (ltb i (length l)) refl
  where
    go : (t : Bool) → ltb i (length l) ≡ t → length l ≤ i
    go true q = absurd (omega (arith, next_in l i (ltb-true i (length l) q), date_le (get_or l i 0) (w i)))
    go false q = ltb-false i (length l) q

-- the earlier of two next dates is one of them
pub one_of : (a b : List ℕ) (i j d : ℕ) → d ≡ next_of a b i j → (d ≡ next_date a i) ⊎ (d ≡ next_date b j)
unfolding next_of
one_of a b i j d e = go (dec_le (next_date a i) (next_date b j))
  where
    go : Dec (next_date a i ≤ next_date b j) → (d ≡ next_date a i) ⊎ (d ≡ next_date b j)
    go (yes l) = inl (omega arith)
    go (no n) = inr (omega arith)

not_after_lem : (a b : List ℕ) (i j : ℕ) → (next_of a b i j ≤ next_date a i) × (next_of a b i j ≤ next_date b j)
unfolding next_of
not_after_lem a b i j = (omega arith, omega arith)

-- the lists' values from the gap after date k on, i and j words being passed
pub record Both (a b : List ℕ) (k i j : ℕ) : Type 0 where
  pub left : At (signal_of a) a i k
  pub right : At (signal_of b) b j k

pub both_start : (a b : List ℕ) → list_fault a ≡ 0 → list_fault b ≡ 0 → Both a b 0 1 1
both_start a b za zb = record { left = accepted_start a za; right = accepted_start b zb }

module _ (both failing : Bool) (a b : List ℕ) where
  -- a scan that began at moment m
  pub record Watching (m k i j : ℕ) : Type 0 where
    pub at : Both a b k i j
    pub begun : m ≤ gap k
    pub clear : Clear (sought both failing a b) m (gap k)

  pub watch_start : (k i j : ℕ) → Both a b k i j → Watching (gap k) k i j
  watch_start k i j h = record { at = h; begun = omega arith; clear = λ u f g. absurd (omega arith) }

  fails_of : (t : ℕ) (p q : Bool) → signal_of a t ≡ p → signal_of b t ≡ q → sought both failing a b t ≡ sought_by both failing p q
  unfolding sought
  fails_of t p q e f = rw (e, f)

  module _ {m k i j : ℕ} (w : Watching m k i j) where
    -- no word is left: the values held stand for good
    pub at_last : Words a → Words b → NEVER ≤ next_of a b i j → (u : ℕ) → gap k ≤ u
        → sought both failing a b u ≡ sought_by both failing (held_value a i) (held_value b j)
    at_last wa wb h u g =
        let na : length a ≤ i = none_left a i wa (omega (arith, (not_after_lem a b i j).0)) in
        let nb : length b ≤ j = none_left b j wb (omega (arith, (not_after_lem a b i j).1)) in
        fails_of u (held_value a i) (held_value b j) (at_end_lem (signal_of a) a i k w.at.left na u g)
        (at_end_lem (signal_of b) b j k w.at.right nb u g)

    -- passing a date that is not after the next
    module _ (d : ℕ) (later : k < d) (la : i < length a → d ≤ date_of (get_or a i 0)) (lb : j < length b → d ≤ date_of (get_or b j 0)) where
      pass_a : Passed (signal_of a) a i k d
      pass_a = at_pass (signal_of a) a i k d w.at.left later la

      pass_b : Passed (signal_of b) b j k d
      pass_b = at_pass (signal_of b) b j k d w.at.right later lb

      still : (u : ℕ) → gap k ≤ u → u < instant d → sought both failing a b u ≡ sought_by both failing (held_value a i) (held_value b j)
      still u g h = fails_of u (held_value a i) (held_value b j) (pass_a.held.still u g h) (pass_b.held.still u g h)

    -- the gap after the words passed
    pub in_gap_lem : sought both failing a b (gap k) ≡ sought_by both failing (held_value a i) (held_value b j)
    in_gap_lem =
        still
        (k + 1)
        (omega arith)
        (λ h. omega (arith, next_later (signal_of a) a i k w.at.left h))
        (λ h. omega (arith, next_later (signal_of b) b j k w.at.right h))
        (gap k)
        (omega arith)
        (omega arith)

    -- the next date
    module _ {d : ℕ} (n : Quiet both failing a b i j d) where
      pub later : k < d
      later =
          ⊎_elim
          (λ e. let h : i < length a = next_left a i (omega (arith, n.left)) in
          omega (arith, next_later (signal_of a) a i k w.at.left h, next_in a i h))
          (λ e. let h : j < length b = next_left b j (omega (arith, n.left)) in
          omega (arith, next_later (signal_of b) b j k w.at.right h, next_in b j h))
          (one_of a b i j d n.next)

      la : i < length a → d ≤ date_of (get_or a i 0)
      la h = omega (arith, n.next, (not_after_lem a b i j).0, next_in a i h)

      lb : j < length b → d ≤ date_of (get_or b j 0)
      lb h = omega (arith, n.next, (not_after_lem a b i j).1, next_in b j h)

      pub clear_before : Clear (sought both failing a b) m (instant d)
      clear_before u f h = go (ltb u (gap k)) refl
        where
          go : (t : Bool) → ltb u (gap k) ≡ t → Down (sought both failing a b u)
          go true q = w.clear u f (ltb-true u (gap k) q)
          go false q = rw (still d later la lb u (ltb-false u (gap k) q) h) n.held

      pub at_date_lem : sought both failing a b (instant d) ≡ sought_by both failing (at_date a i d) (at_date b j d)
      at_date_lem = fails_of (instant d) (at_date a i d) (at_date b j d) (pass_a d later la lb).held.at (pass_b d later la lb).held.at

      pub passed_both : Both a b d (passed_date a i d) (passed_date b j d)
      passed_both = record { left = (pass_a d later la lb).on; right = (pass_b d later la lb).on }

      pub watch_on : sought_by both failing (at_date a i d) (at_date b j d) ≡ false → Watching m d (passed_date a i d) (passed_date b j d)
      watch_on e = record { at = passed_both; begun = omega (arith, w.begun, later); clear = on }
        where
          on : Clear (sought both failing a b) m (gap d)
          on u f h = go (ltb u (instant d)) refl
            where
              go : (t : Bool) → ltb u (instant d) ≡ t → Down (sought both failing a b u)
              go true q = clear_before u f (ltb-true u (instant d) q)
              go false q =
                  let is : u ≡ instant d = omega (arith, ltb-false u (instant d) q) in
                  rw (is, at_date_lem) e
