-- The words passed by the last moment: the first so many of an accepted list, which are those dated at or before it.
use Prim.Native.Nat.{ℕ, zero, suc, ◌-◌, ◌/◌, ◌≤◌, ◌<◌}
use native.Mathlib.Omega.{arith}
use mathlib.Core.Path.{◌≡◌, refl, subst}
use mathlib.Core.Bool.{Bool, true, false, cond}
use mathlib.Core.List.{List, [], ◌∷◌}
use mathlib.Core.Logic.{◌⊎◌, inl, inr, ◌↔◌}
use lib.Dec.{leb, eqb}
use lib.ListN.{length, get_or}
use borrow.Author.Tests.{eq-eqb}
use Rattle.signals.specs.Words.{date_of}
use Rattle.signals.specs.Normal.{Accepted, Rising}
use Rattle.signals.proofs.Truth.{at_or_after}
use Rattle.signals.proofs.AnswersSay.{is_fault}
use Rattle.signals.proofs.Normal.{accepted_normal, dates_rise}
use Rattle.reading.specs.Dated.{count_by, dated_by}
use Rattle.reading.proofs.Counting.{count_none, count_one}
use Rattle.columns.specs.Numbers.{instant_number, date_in}
use Rattle.columns.specs.Columns.{last_moment, words_passed}
use Rattle.columns.specs.Sentences.{word_date, PassedBy}

-- no more words are counted than there are
count_most : (e : ℕ) (ws : List ℕ) → count_by e ws ≤ length ws
unfolding count_by
count_most e [] = omega arith
count_most e (w ∷ ws) = go (leb (date_of w) e) (count_most e ws)
  where
    go : (b : Bool) → count_by e ws ≤ length ws → cond b (suc (count_by e ws)) (count_by e ws) ≤ suc (length ws)
    go true h = omega (arith, h)
    go false h = omega (arith, h)

-- of rising words every one is dated later
later : (k : ℕ) (ws : List ℕ) → Rising k ws → (i : ℕ) → i < length ws → k < date_of (get_or ws i 0)
later k [] r i l = absurd (omega (arith, l))
later k (w ∷ ws) r zero l = r.0
later k (w ∷ ws) r (suc i) l = omega (arith, r.0, later (date_of w) ws r.1 i (omega (arith, l)))

-- the words counted are the first ones
count_those : (e k : ℕ) (ws : List ℕ) → Rising k ws → (i : ℕ) → i < length ws → (i < count_by e ws) ↔ (date_of (get_or ws i 0) ≤ e)
count_those e k [] r i l = absurd (omega (arith, l))
count_those e k (w ∷ ws) r i l = go (at_or_after (date_of w) e) i l (count_those e (date_of w) ws r.1)
  where
    go : (date_of w ≤ e) ⊎ (e < date_of w) → (i : ℕ) → i < suc (length ws)
        → ((i : ℕ) → i < length ws → (i < count_by e ws) ↔ (date_of (get_or ws i 0) ≤ e))
        → (i < count_by e (w ∷ ws)) ↔ (date_of (get_or (w ∷ ws) i 0) ≤ e)
    go (inl a) zero l rest = (λ x. a, λ x. omega (arith, count_one e w ws a))
    go (inl a) (suc i) l rest =
        let s = rest i (omega (arith, l)) in
        (λ x. s.0 (omega (arith, x, count_one e w ws a)), λ x. omega (arith, s.1 x, count_one e w ws a))
    go (inr b) i l rest =
        let rise : Rising (date_of w - 1) (w ∷ ws) = (omega (arith, b), r.1) in (
          λ x. absurd (omega (arith, x, count_none e (date_of w - 1) (w ∷ ws) (omega (arith, b)) rise)),
          λ x. absurd (omega (arith, b, x, later (date_of w - 1) (w ∷ ws) rise i l)),
        )

dated_most : (e : ℕ) (l : List ℕ) → dated_by e l ≤ length l
unfolding dated_by
dated_most e [] = omega arith
dated_most e (h ∷ ws) = omega (arith, count_most e ws)

dated_those : (m : ℕ) (l : List ℕ) → Accepted l → (i : ℕ) → i < length l
    → (i < dated_by (date_in m) l) ↔ (instant_number (word_date l i) ≤ m)
unfolding dated_by date_in
dated_those m [] z i l = absurd (omega (arith, l))
dated_those m (h ∷ ws) z zero l = (λ x. omega arith, λ x. omega arith)
dated_those m (h ∷ ws) z (suc i) l =
    let s = count_those (m / 2) 0 ws (dates_rise h ws ((accepted_normal (h ∷ ws)).0 z).0) i (omega (arith, l)) in
    (λ x. omega (arith, s.0 (omega (arith, x))), λ x. omega (arith, s.1 (omega (arith, x))))

pub passed_by : (l ms : List ℕ) → Accepted l → PassedBy l ms (words_passed l ms)
unfolding words_passed
passed_by l ms z =
    record {
      within = go (eqb (length ms) 0);
      those = those;
      none = λ n. rw (eq-eqb (length ms) 0 n);
    }
  where
    go : (b : Bool) → cond b 0 (dated_by (date_in (last_moment ms)) l) ≤ length l
    go true = omega arith
    go false = dated_most (date_in (last_moment ms)) l

    those : (last : ℕ) → suc last ≡ length ms → (i : ℕ) → i < length l
        → (i < cond (eqb (length ms) 0) 0 (dated_by (date_in (last_moment ms)) l)) ↔ (instant_number (word_date l i) ≤ get_or ms last 0)
    those last e i h =
        rw (is_fault (length ms) (omega (arith, e)))
        (subst
        (λ (k : ℕ). (i < dated_by (date_in (last_moment ms)) l) ↔ (instant_number (word_date l i) ≤ get_or ms k 0))
        (omega (arith, e))
        (dated_those (last_moment ms) l z i h))

-- one number only is that of the words passed: were it less than another, the word at its place would be passed and not passed
not_less : (l ms : List ℕ) (m n : ℕ) → PassedBy l ms m → PassedBy l ms n → ¬ (m < n)
not_less l [] m n p q h = omega (arith, h, q.none refl)
not_less l (k ∷ ms) m n p q h =
    let i : m < length l = omega (arith, h, q.within) in
    omega (arith, (p.those (length ms) refl m i).1 ((q.those (length ms) refl m i).0 h))

pub passed_only : (l ms : List ℕ) (m n : ℕ) → PassedBy l ms m → PassedBy l ms n → m ≡ n
passed_only l ms m n p q = omega (arith, not_less l ms m n p q, not_less l ms n m q p)
