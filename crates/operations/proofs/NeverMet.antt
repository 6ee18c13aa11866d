-- NOT and edges never meet 5, and no operation without a length meets 6.
use Prim.Native.Nat.{ℕ, ◌-◌, ◌%◌, ◌≤◌, max}
use native.Mathlib.Omega.{arith}
use mathlib.Core.Path.{◌≡◌, refl, sym, ◌∙◌, ap}
use mathlib.Core.Bool.{Bool, true, false, not, cond, beq, ◌&&◌}
use mathlib.Core.List.{List, [], ◌∷◌}
use lib.ListN.{length, get_or, length-append}
use borrow.Author.Tests.{eq-eqb}
use Rattle.signals.specs.Moment.{M, gap, instant, is_gap, just_before}
use Rattle.signals.specs.Signal.{Signal, NOT, rising, falling}
use Rattle.signals.specs.Quantified.{Down}
use Rattle.signals.specs.Words.{word, date_of, value_after, head_value, signal_of, last_from, last_date, words_of, list_of}
use Rattle.signals.specs.Settled.{entry}
use Rattle.signals.proofs.Truth.{down_of, not_both_lem}
use Rattle.signals.proofs.Agreement.{rising_up, falling_up}
use Rattle.signals.proofs.WordFacts.{date_le}
use Rattle.signals.proofs.Scan.{Held, scan_to, scan_settled}
use Rattle.signals.proofs.Operand.{Ahead, pass_word, words_rise, value_none}
use Rattle.signals.proofs.Normal.{last_le, start, accepted_normal, last_date_bound}
use Rattle.signals.proofs.Giving.{within}
use Rattle.operations.specs.Calls.{exact_of_one, exact_of_two, fault_of_one, fault_of_two}
use Rattle.operations.specs.CallFaults.{Breaks6, Words32, NeverLonger, NeverMet}
use Rattle.operations.proofs.CallFaults.{one_5, one_6, two_6}

-- g keeps the value that it has in gap k for as long as f does
abbrev Follows : Signal → Signal → Type 0
Follows f g = (k t : ℕ) → gap k ≤ t → ((u : ℕ) → gap k ≤ u → u ≤ t → f u ≡ f (gap k)) → g t ≡ g (gap k)

-- one date gives at most one word
entry_length : (v : Bool) (d : ℕ) (a b : Bool) → length (entry v d a b) ≤ 1
unfolding entry
entry_length v d a b = go (beq a v && beq b v)
  where
    go : (t : Bool) → length (cond t [] (word d a b ∷ [])) ≤ 1
    go true = omega arith
    go false = omega arith

-- so a signal that follows an operand has no more words than it
follows_length : (f g : Signal) → Follows f g → (m k : ℕ) (v : Bool) (ws : List ℕ) → Ahead f k v ws → last_from k ws ≤ m
    → length (words_of g k (m - k)) ≤ length ws
unfolding last_from
follows_length f g fol m k v [] a le =
    let still : (t : ℕ) → gap k ≤ t → f t ≡ v = λ t l. a.says t l ∙ value_none v t in
    let none : words_of g k (m - k) ≡ [] =
    scan_settled g (m - k) k (g (gap k)) (λ t l. fol k t l (λ u p q. still u p ∙ sym (still (gap k) (omega arith)))) in
    rw none (omega arith)
follows_length f g fol m k v (w ∷ ws) a le =
    let step = pass_word f k v w ws a in
    let d : date_of w ≤ m = omega (arith, last_le (date_of w) ws a.rises.1) in
    let here : f (gap k) ≡ v = step.0.still (gap k) (omega arith) (omega (arith, step.0.later)) in
    let held : Held g k (date_of w) (g (gap k)) (g (instant (date_of w))) (g (gap (date_of w))) =
    record {
      later = step.0.later;
      still = λ t l o. fol k t l (λ u p q. step.0.still u p (omega arith) ∙ sym here);
      at = refl;
      after = refl;
    } in
    rw
    (scan_to g m k (date_of w) (g (gap k)) (g (instant (date_of w))) (g (gap (date_of w))) held d)
    (omega (
      arith,
      length-append (entry (g (gap k)) (date_of w) (g (instant (date_of w))) (g (gap (date_of w))))
          (words_of g (date_of w) (m - date_of w)),
      entry_length (g (gap k)) (date_of w) (g (instant (date_of w))) (g (gap (date_of w))),
      follows_length f g fol m (date_of w) (value_after w) ws step.1 le,
    ))

never_longer : (operation : Signal → Signal) → ((f : Signal) → Follows f (operation f)) → NeverLonger operation
unfolding exact_of_one list_of last_date
never_longer operation fol [] h = absurd ((accepted_normal []).0 h).0
never_longer operation fol (w ∷ ws) h =
    let n = ((accepted_normal (w ∷ ws)).0 h).0 in
    let e : last_from 0 ws - 0 ≡ last_from 0 ws = omega arith in
    let f : Signal = signal_of (w ∷ ws) in
    let s = rw e at
    (follows_length f (operation f) (fol f) (last_from 0 ws) 0 (head_value w) ws (start w ws (words_rise 0 (head_value w) ws n.1))
    (omega arith)) in
    omega arith

NOT_follows : (f : Signal) → Follows f (NOT f)
unfolding NOT
NOT_follows f k t l h = ap not (h t l (omega arith))

-- an instant after gap k has the value of the gap before it
same_before : (f : Signal) (k t : ℕ) → gap k ≤ t → ((u : ℕ) → gap k ≤ u → u ≤ t → f u ≡ f (gap k)) → Down (is_gap t) → f (just_before t)
    ≡ f t
unfolding is_gap just_before
same_before f k t l h i =
    let odd : ¬ (t ≡ gap k) = λ e. not_both_lem (eq-eqb (t % 2) 0 (omega arith)) i in
    let p : gap k ≤ t - 1 = omega (arith, odd) in
    h (t - 1) p (omega arith) ∙ sym (h t l (omega arith))

gap_not_instant : (k : ℕ) → Down (is_gap (gap k)) → ⊥
unfolding is_gap
gap_not_instant k i = not_both_lem (eq-eqb (gap k % 2) 0 (omega arith)) i

rising_follows : (f : Signal) → Follows f (rising f)
rising_follows f k t l h =
    down_of (rising f t) (λ u. let p = rising_up f t u in not_both_lem p.1 (sym (same_before f k t l h p.0) ∙ p.2)) ∙
    sym (down_of (rising f (gap k)) (λ u. gap_not_instant k (rising_up f (gap k) u).0))

falling_follows : (f : Signal) → Follows f (falling f)
falling_follows f k t l h =
    down_of (falling f t) (λ u. let p = falling_up f t u in not_both_lem p.2 (same_before f k t l h p.0 ∙ p.1)) ∙
    sym (down_of (falling f (gap k)) (λ u. gap_not_instant k (falling_up f (gap k) u).0))

-- a list up to a date up to M has no late word
on_time : (s : Signal) (n : ℕ) → n ≤ M → ¬ Breaks6 (list_of s n)
on_time s n h (i, l, m) = omega (arith, within s n h i l)

-- a list of 32-bit words has no date after M
pub last_32 : (a : List ℕ) → Words32 a → last_date a ≤ M
last_32 a h = last_date_bound M a (λ i l. date_le (get_or a i 0) (h i l))

never_5 : (operation : Signal → Signal) → NeverLonger operation → (a : List ℕ) (n : ℕ) → ¬ (fault_of_one operation a n ≡ 5)
never_5 operation short a n e =
    let g = one_5 operation a n e in
    omega (arith, g.1, short a g.0, ((accepted_normal a).0 g.0).1)

never_6_one : (operation : Signal → Signal) (a : List ℕ) (n : ℕ) → Words32 a → ¬ (fault_of_one operation a n ≡ 6)
unfolding exact_of_one
never_6_one operation a n h e =
    on_time (operation (signal_of a)) (last_date a) (last_32 a h) (one_6 operation a n e)

never_6_two : (operation : Signal → Signal → Signal) (a b : List ℕ) (n : ℕ) → Words32 a → Words32 b → ¬ (fault_of_two operation a b n ≡ 6)
unfolding exact_of_two
never_6_two operation a b n h k e =
    on_time
    (operation (signal_of a) (signal_of b))
    (max (last_date a) (last_date b))
    (omega (arith, last_32 a h, last_32 b k))
    (two_6 operation a b n e)

pub never_met : NeverMet
never_met =
    record {
      not_longer = never_longer NOT NOT_follows;
      rising_longer = never_longer rising rising_follows;
      falling_longer = never_longer falling falling_follows;
      five = never_5;
      six_one = never_6_one;
      six_two = never_6_two;
    }
