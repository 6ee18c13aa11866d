-- A signal's list has a word for exactly the dates at which, or after which, it changes: so 6 says that it changes after M.
use Prim.Native.Nat.{ℕ, zero, suc, ◌+◌, ◌-◌, ◌≤◌, ◌<◌}
use native.Mathlib.Omega.{arith}
use native.Mathlib.Decide.{ℕ_discrete, dec_le}
use mathlib.Core.Path.{◌≡◌, refl, sym, ◌∙◌}
use mathlib.Core.Logic.{◌⊎◌, inl, inr, ◌↔◌}
use mathlib.Core.Bool.{Bool, true, false, cond, beq, ◌&&◌, false≢true}
use mathlib.Core.List.{List, ◌∷◌}
use lib.ListN.{length, get_or}
use Rattle.signals.specs.Moment.{M, gap, instant}
use Rattle.signals.specs.Signal.{Signal, num, TON, TOF, TP}
use Rattle.signals.specs.Words.{word, date_of, signal_of, last_date, words_of, list_of}
use Rattle.signals.specs.Settled.{SettledFrom}
use Rattle.signals.proofs.Truth.{down_of}
use Rattle.signals.proofs.WordFacts.{date_of_word}
use Rattle.signals.proofs.Normal.{same_values, accepted_settled}
use Rattle.signals.proofs.Settling.{settling}
use Rattle.operations.specs.Calls.{exact_of_delay}
use Rattle.operations.specs.CallFaults.{Breaks6, ChangesAfterM, ChangeIsWord}

-- at instant k or in gap k the signal is not as in the gap before
abbrev Changes : Signal → ℕ → Type 0
Changes s k = (¬ (s (instant k) ≡ s (gap (k - 1)))) ⊎ (¬ (s (gap k) ≡ s (gap (k - 1))))

other_values : (a b v : Bool) → beq a v && beq b v ≡ false → (¬ (a ≡ v)) ⊎ (¬ (b ≡ v))
other_values true true true h = absurd (false≢true (sym h))
other_values true true false h = inl (λ e. false≢true (sym e))
other_values true false true h = inr false≢true
other_values true false false h = inl (λ e. false≢true (sym e))
other_values false true true h = inl false≢true
other_values false true false h = inr (λ e. false≢true (sym e))
other_values false false true h = inl false≢true
other_values false false false h = absurd (false≢true (sym h))

-- what the scan tests at the date after k
change_of : (s : Signal) (k : ℕ) → beq (s (gap k + 1)) (s (gap k)) && beq (s (gap k + 2)) (s (gap k)) ≡ false → Changes s (suc k)
change_of s k h =
    let at : instant (suc k) ≡ gap k + 1 = omega arith in
    let after : gap (suc k) ≡ gap k + 2 = omega arith in
    let before : suc k - 1 ≡ k = omega arith in
    rw (at, after, before) (other_values (s (gap k + 1)) (s (gap k + 2)) (s (gap k)) h)

of_change : (s : Signal) (k : ℕ) → Changes s (suc k) → beq (s (gap k + 1)) (s (gap k)) && beq (s (gap k + 2)) (s (gap k)) ≡ false
of_change s k c =
    let at : instant (suc k) ≡ gap k + 1 = omega arith in
    let after : gap (suc k) ≡ gap k + 2 = omega arith in
    let before : suc k - 1 ≡ k = omega arith in
    let d : (¬ (s (gap k + 1) ≡ s (gap k))) ⊎ (¬ (s (gap k + 2) ≡ s (gap k))) = rw (at, after, before) at c in
    down_of
    (beq (s (gap k + 1)) (s (gap k)) && beq (s (gap k + 2)) (s (gap k)))
    (λ u. not_same d (same_values (s (gap k + 1)) (s (gap k + 2)) (s (gap k)) u))
  where
    not_same : (¬ (s (gap k + 1) ≡ s (gap k))) ⊎ (¬ (s (gap k + 2) ≡ s (gap k))) → (s (gap k + 1) ≡ s (gap k)) × (s (gap k + 2) ≡ s (gap k))
        → ⊥
    not_same (inl n) p = n p.0
    not_same (inr n) p = n p.1

-- a word tells a change at its date
pub word_changes : (s : Signal) (n k i : ℕ) → i < length (words_of s k n) → Changes s (date_of (get_or (words_of s k n) i 0))
unfolding words_of
word_changes s zero k i l = absurd (omega arith)
word_changes s (suc n) k i l =
    go
    (beq (s (gap k + 1)) (s (gap k)) && beq (s (gap k + 2)) (s (gap k)))
    refl
    i
    l
    (λ j h. word_changes s n (suc k) j h)
  where
    w : ℕ
    w = word (suc k) (s (gap k + 1)) (s (gap k + 2))

    go : (t : Bool) → beq (s (gap k + 1)) (s (gap k)) && beq (s (gap k + 2)) (s (gap k)) ≡ t → (i : ℕ)
        → i < length (cond t (words_of s (suc k) n) (w ∷ words_of s (suc k) n))
        → ((j : ℕ) → j < length (words_of s (suc k) n) → Changes s (date_of (get_or (words_of s (suc k) n) j 0)))
        → Changes s (date_of (get_or (cond t (words_of s (suc k) n) (w ∷ words_of s (suc k) n)) i 0))
    go true e i l rec = rec i l
    go false e zero l rec = rw (date_of_word (suc k) (s (gap k + 1)) (s (gap k + 2))) (change_of s k e)
    go false e (suc i) l rec = rec i (omega arith)

-- a change up to the horizon has its word
abbrev HasDate : List ℕ → ℕ → Type 0
HasDate ws d = (i : ℕ) × (i < length ws) × (date_of (get_or ws i 0) ≡ d)

pub change_word : (s : Signal) (n k d : ℕ) → k < d → d ≤ k + n → Changes s d → HasDate (words_of s k n) d
unfolding words_of
change_word s zero k d l h c = absurd (omega arith)
change_word s (suc n) k d l h c =
    go
    (beq (s (gap k + 1)) (s (gap k)) && beq (s (gap k + 2)) (s (gap k)))
    refl
    (ℕ_discrete (suc k) d)
    (λ o. change_word s n (suc k) d o (omega arith) c)
  where
    w : ℕ
    w = word (suc k) (s (gap k + 1)) (s (gap k + 2))

    later : HasDate (words_of s (suc k) n) d → (t : Bool) → HasDate (cond t (words_of s (suc k) n) (w ∷ words_of s (suc k) n)) d
    later r true = r
    later r false = (suc r.0, omega (arith, r.1), r.2)

    go : (t : Bool) → beq (s (gap k + 1)) (s (gap k)) && beq (s (gap k + 2)) (s (gap k)) ≡ t → Dec (suc k ≡ d)
        → (suc k < d → HasDate (words_of s (suc k) n) d)
        → HasDate (cond t (words_of s (suc k) n) (w ∷ words_of s (suc k) n)) d
    go t e (no o) rec = later (rec (omega arith)) t
    go true e (yes q) rec = absurd (false≢true (sym (of_change s k (rw q c)) ∙ e))
    go false e (yes q) rec = (0, omega arith, date_of_word (suc k) (s (gap k + 1)) (s (gap k + 2)) ∙ q)

-- nothing changes after the horizon
settled_still : (s : Signal) (n d : ℕ) → SettledFrom s n → n < d → Changes s d → ⊥
settled_still s n d h l (inl c) = c (h (instant d) (omega arith) ∙ sym (h (gap (d - 1)) (omega arith)))
settled_still s n d h l (inr c) = c (h (gap d) (omega arith) ∙ sym (h (gap (d - 1)) (omega arith)))

head_date : (v : Bool) → date_of (num v) ≡ 0
unfolding date_of
head_date true = refl
head_date false = refl

pub late_change : (s : Signal) (n : ℕ) → SettledFrom s n → Breaks6 (list_of s n) ↔ ChangesAfterM s
unfolding list_of
late_change s n h = (forth, back)
  where
    forth : Breaks6 (num (s 0) ∷ words_of s 0 n) → ChangesAfterM s
    forth (zero, l, m) = absurd (omega (arith, head_date (s 0)))
    forth (suc i, l, m) = (date_of (get_or (words_of s 0 n) i 0), m, word_changes s n 0 i (omega arith))

    placed : (k : ℕ) → M < k → HasDate (words_of s 0 n) k → Breaks6 (num (s 0) ∷ words_of s 0 n)
    placed k m r = (suc r.0, omega (arith, r.1), omega (arith, r.2))

    back : ChangesAfterM s → Breaks6 (num (s 0) ∷ words_of s 0 n)
    back (k, m, c) = go (dec_le k n)
      where
        go : Dec (k ≤ n) → Breaks6 (num (s 0) ∷ words_of s 0 n)
        go (yes l) = placed k m (change_word s n 0 k (omega arith) (omega arith) c)
        go (no o) = absurd (settled_still s n k h (omega arith) c)

pub change_is_word : ChangeIsWord
unfolding exact_of_delay
change_is_word =
    record {
      signal = late_change;
      ton = λ d a h. late_change (TON d (signal_of a)) (last_date a + d)
          (settling.ton d (signal_of a) (last_date a) (accepted_settled a h));
      tof = λ d a h. late_change (TOF d (signal_of a)) (last_date a + d)
          (settling.tof d (signal_of a) (last_date a) (accepted_settled a h));
      tp = λ d a h. late_change (TP d (signal_of a)) (last_date a + d) (settling.tp d (signal_of a) (last_date a) (accepted_settled a h));
    }
