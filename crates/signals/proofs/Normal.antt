-- A signal that settles has one normal list, which denotes it; a normal list is read back from the signal it denotes.
use Prim.Native.Nat.{ℕ, zero, suc, ◌+◌, ◌-◌, ◌≤◌, ◌<◌, max}
use mathlib.Core.Bool.{Bool, true, false, cond, beq, ◌&&◌, false≢true}
use mathlib.Core.List.{List, [], ◌∷◌}
use mathlib.Core.Logic.{◌↔◌}
use mathlib.Core.Path.{◌≡◌, refl, sym, ◌∙◌, ap, subst}
use native.Mathlib.Omega.{arith}
use native.Mathlib.Decide.{ℕ_discrete}
use lib.Dec.{leb, ltb}
use borrow.Author.Tests.{lt-leb, leb-false, ltb-true, ltb-false}
use lib.ListN.{length, get_or, drop}
use Rattle.signals.specs.Moment.{gap, instant}
use Rattle.signals.specs.Signal.{Signal}
use Rattle.signals.specs.Words.{word, date_of, value_at, value_after, head_value, changes_nothing, words_fault, list_fault, value_from}
use Rattle.signals.specs.Words.{most_words}
use Rattle.signals.specs.Words.{signal_of, last_from, last_date, words_of, list_of}
use Rattle.signals.specs.Settled.{SettledFrom, entry}
use Rattle.signals.specs.Normal.{Normal, Accepted, Rising, DatesRise, AcceptedNormal, Unique, UniqueAccepted, ListOfSignal, ReadBack}
use Rattle.signals.proofs.WordFacts.{date_of_word, value_at_word, value_after_word, word_of, num_le, head_value_num, num_head_value}
use Rattle.signals.proofs.Scan.{scan_to, scan_settled, list_of_more, list_of_ext}
use Rattle.signals.proofs.Operand.{Ahead, At, at_start, words_left, pass_word, words_rise, value_none, value_before_lem, value_at_lem}
use Rattle.signals.proofs.Operand.{value_after_lem, value_held}

-- the last date lies at or above the date before
pub last_le : (k : ℕ) (ws : List ℕ) → Rising k ws → k ≤ last_from k ws
unfolding last_from
last_le k [] r = omega arith
last_le k (w ∷ ws) r = omega (arith, last_le (date_of w) ws r.1)

-- from its last date on an operand is constant
pub ahead_settled : (f : Signal) (k : ℕ) (v : Bool) (ws : List ℕ) → Ahead f k v ws → SettledFrom f (last_from k ws)
unfolding last_from
ahead_settled f k v [] a =
    λ t g. a.says t g ∙ value_none v t ∙ sym (a.says (gap k) (omega arith) ∙ value_none v (gap k))
ahead_settled f k v (w ∷ ws) a = ahead_settled f (date_of w) (value_after w) ws (pass_word f k v w ws a).1

-- a word that changes something is its date's entry
pub entry_word : (v : Bool) (w : ℕ) → changes_nothing v w ≡ false → entry v (date_of w) (value_at w) (value_after w) ≡ w ∷ []
unfolding entry changes_nothing
entry_word v w h = rw (h, word_of w)

-- what holds of the rest of an accepted word
pub record Sound (k : ℕ) (v : Bool) (w : ℕ) (ws : List ℕ) : Type 0 where
  pub above : k < date_of w
  pub changes : changes_nothing v w ≡ false
  pub rest : words_fault (date_of w) (value_after w) ws ≡ 0

pub sound : (k : ℕ) (v : Bool) (w : ℕ) (ws : List ℕ) → words_fault k v (w ∷ ws) ≡ 0 → Sound k v w ws
unfolding words_fault
sound k v w ws h = go (leb (date_of w) k) (changes_nothing v w) refl refl h
  where
    go : (t u : Bool) → leb (date_of w) k ≡ t → changes_nothing v w ≡ u → cond t 3
        (cond u 4 (words_fault (date_of w) (value_after w) ws)) ≡ 0
        → Sound k v w ws
    go true u p q z = absurd (omega arith)
    go false true p q z = absurd (omega arith)
    go false false p q z = record { above = leb-false (date_of w) k p; changes = q; rest = z }

-- the scan of an operand gives its words back
pub read_words : (f : Signal) (m k : ℕ) (v : Bool) (ws : List ℕ) → Ahead f k v ws → words_fault k v ws ≡ 0 → last_from k ws ≤ m
    → words_of f k (m - k) ≡ ws
unfolding last_from
read_words f m k v [] a h le = scan_settled f (m - k) k v (λ t g. a.says t g ∙ value_none v t)
read_words f m k v (w ∷ ws) a h le =
    let s : Sound k v w ws = sound k v w ws h in
    let step = pass_word f k v w ws a in
    let d : date_of w ≤ m = omega (arith, last_le (date_of w) ws a.rises.1) in
    scan_to f m k (date_of w) v (value_at w) (value_after w) step.0 d ∙
    rw (entry_word v w s.changes, read_words f m (date_of w) (value_after w) ws step.1 s.rest le)

pub dates_rise : DatesRise
dates_rise h ws n = words_rise 0 (head_value h) ws n.1

pub start : (h : ℕ) (ws : List ℕ) → Rising 0 ws → Ahead (signal_of (h ∷ ws)) 0 (head_value h) ws
unfolding signal_of
start h ws r = record { says = λ t g. refl; rises = r }

pub read_list : (h : ℕ) (ws : List ℕ) (m : ℕ) → Normal (h ∷ ws) → last_from 0 ws ≤ m → list_of (signal_of (h ∷ ws)) m ≡ h ∷ ws
unfolding list_of
read_list h ws m n le =
    let a = start h ws (dates_rise h ws n) in
    let first : signal_of (h ∷ ws) 0 ≡ head_value h = a.says 0 (omega arith) ∙ value_held (head_value h) 0 ws 0 a.rises (omega arith) in
    let e : m ≡ m - 0 = omega arith in
    rw (first, num_head_value h n.0) (ap (λ l. h ∷ l) (rw e (read_words (signal_of (h ∷ ws)) m 0 (head_value h) ws a n.1 le)))

pub read_back_lem : ReadBack
unfolding last_date
read_back_lem [] n = absurd n
read_back_lem (h ∷ ws) n =
    record {
      settled = ahead_settled (signal_of (h ∷ ws)) 0 (head_value h) ws (start h ws (dates_rise h ws n));
      same = read_list h ws (last_from 0 ws) n (omega arith);
    }

pub unique : Unique
unfolding last_date
unique l m nl nm same =
    let a = read_back_lem l nl in
    let b = read_back_lem m nm in
    let n : ℕ = max (last_date l) (last_date m) in
    sym a.same ∙ sym (list_of_more (signal_of l) (last_date l) n a.settled (omega arith)) ∙
    list_of_ext (signal_of l) (signal_of m) n same ∙
    list_of_more (signal_of m) (last_date m) n b.settled (omega arith) ∙ b.same

pub accepted_normal : AcceptedNormal
unfolding list_fault
accepted_normal [] = (λ e. absurd (omega arith), λ p. absurd p.0)
accepted_normal (h ∷ ws) = go (ltb most_words (length (h ∷ ws))) (ltb 1 h) refl refl
  where
    go : (t u : Bool) → ltb most_words (length (h ∷ ws)) ≡ t → ltb 1 h ≡ u
        → (cond (ltb most_words (length (h ∷ ws))) 1 (cond (ltb 1 h) 2 (words_fault 0 (head_value h) ws)) ≡ 0) ↔
        (Normal (h ∷ ws) × (length (h ∷ ws) ≤ most_words))
    go true u p q = (
      λ e. let z : ◌≡◌ {A = ℕ} 1 0 = rw p at e in absurd (omega arith),
      λ n. absurd
          (omega (arith, ltb-true most_words (length (h ∷ ws)) p, n.1)),
    )
    go false true p q =
        (λ e. let z : ◌≡◌ {A = ℕ} 2 0 = rw (p, q) at e in absurd (omega arith), λ n. absurd (omega (arith, ltb-true 1 h q, n.0.0)))
    go false false p q =
        (λ e. ((ltb-false 1 h q, rw (p, q) at e), ltb-false most_words (length (h ∷ ws)) p), λ n. rw (p, q) n.0.1)

pub unique_accepted : UniqueAccepted
unique_accepted l m a b = unique l m ((accepted_normal l).0 a).0 ((accepted_normal m).0 b).0

-- the scan writes no faulty word
pub changes_word : (v a b : Bool) (d : ℕ) → changes_nothing v (word d a b) ≡ beq a v && beq b v
unfolding changes_nothing
changes_word v a b d = rw (value_at_word d a b, value_after_word d a b)

pub same_values : (a b v : Bool) → beq a v && beq b v ≡ true → (a ≡ v) × (b ≡ v)
same_values true true true h = (refl, refl)
same_values true true false h = absurd (false≢true h)
same_values true false true h = absurd (false≢true h)
same_values true false false h = absurd (false≢true h)
same_values false true true h = absurd (false≢true h)
same_values false true false h = absurd (false≢true h)
same_values false false true h = absurd (false≢true h)
same_values false false false h = (refl, refl)

sound_date : (v a b : Bool) (j k : ℕ) (ws : List ℕ) → j ≤ k → ((i : ℕ) → i ≤ suc k → words_fault i b ws ≡ 0)
    → words_fault j v (cond (beq a v && beq b v) ws (word (suc k) a b ∷ ws)) ≡ 0
unfolding words_fault
sound_date v a b j k ws le rec = go (beq a v && beq b v) refl
  where
    go : (t : Bool) → beq a v && beq b v ≡ t → words_fault j v (cond (beq a v && beq b v) ws (word (suc k) a b ∷ ws)) ≡ 0
    go true p = rw (p, ← (same_values a b v p).1) (rec j (omega arith))
    go false p =
        rw
        (p, date_of_word (suc k) a b, lt-leb (suc k) j (omega arith), changes_word v a b (suc k), p, value_after_word (suc k) a b)
        (rec (suc k) (omega arith))

pub scan_sound : (s : Signal) (n j k : ℕ) → j ≤ k → words_fault j (s (gap k)) (words_of s k n) ≡ 0
unfolding words_of words_fault
scan_sound s zero j k le = refl
scan_sound s (suc n) j k le =
    let next : gap (suc k) ≡ gap k + 2 = omega arith in
    sound_date (s (gap k)) (s (gap k + 1)) (s (gap k + 2)) j k (words_of s (suc k) n) le (λ i l. rw next at (scan_sound s n i (suc k) l))

-- the scan denotes the signal
denote_date : (v a b x : Bool) (k t : ℕ) (ws : List ℕ) → Rising (suc k) ws → gap k ≤ t → (t ≡ gap k → x ≡ v) → (t ≡ gap k + 1 → x ≡ a)
    → (gap k + 2 ≤ t → value_from b ws t ≡ x) → value_from v (cond (beq a v && beq b v) ws (word (suc k) a b ∷ ws)) t ≡ x
denote_date v a b x k t ws r le here at after = go (beq a v && beq b v) (ℕ_discrete t (gap k)) (ℕ_discrete t (gap k + 1)) refl
  where
    w : ℕ
    w = word (suc k) a b

    date : date_of (word (suc k) a b) ≡ suc k
    date = date_of_word (suc k) a b

    go : (c : Bool) → Dec (t ≡ gap k) → Dec (t ≡ gap k + 1) → beq a v && beq b v ≡ c
        → value_from v (cond (beq a v && beq b v) ws (word (suc k) a b ∷ ws)) t ≡ x
    go true (yes e) q p = rw p (value_held v (suc k) ws t r (omega arith) ∙ sym (here e))
    go true (no n) (yes e) p = rw p (value_held v (suc k) ws t r (omega arith) ∙ sym (same_values a b v p).0 ∙ sym (at e))
    go true (no n) (no m) p = rw (p, ← (same_values a b v p).1) (after (omega arith))
    go false (yes e) q p = rw p (value_before_lem v w ws t (omega (arith, date)) ∙ sym (here e))
    go false (no n) (yes e) p =
        let i : t ≡ instant (date_of w) = omega (arith, date) in
        rw (p, i) (value_at_lem v w ws) ∙ value_at_word (suc k) a b ∙ sym (at e)
    go false (no n) (no m) p =
        rw p (value_after_lem v w ws t (omega (arith, date)) (omega (arith, date)) ∙ rw (value_after_word (suc k) a b)
        (after (omega arith)))

pub scan_denotes : (s : Signal) (n k t : ℕ) → SettledFrom s (k + n) → gap k ≤ t → value_from (s (gap k)) (words_of s k n) t ≡ s t
unfolding words_of
scan_denotes s zero k t h le =
    let e : k + zero ≡ k = omega arith in
    value_none (s (gap k)) t ∙ sym (rw e at (h t (omega arith)))
scan_denotes s (suc n) k t h le =
    let next : gap (suc k) ≡ gap k + 2 = omega arith in
    let e : suc k + n ≡ k + suc n = omega arith in
    denote_date
    (s (gap k))
    (s (gap k + 1))
    (s (gap k + 2))
    (s t)
    k
    t
    (words_of s (suc k) n)
    (words_rise (suc k) (s (gap (suc k))) (words_of s (suc k) n) (scan_sound s n (suc k) (suc k) (omega arith)))
    le
    (λ q. ap s q)
    (λ q. ap s q)
    (λ l. rw next at (scan_denotes s n (suc k) t (rw e h) (omega arith)))

pub list_of_signal : ListOfSignal
unfolding list_of signal_of
list_of_signal s n h =
    let e : 0 + n ≡ n = omega arith in
    record {
      normal = (num_le (s 0), rw (head_value_num (s 0)) (scan_sound s n 0 0 (omega arith)));
      denotes = λ t. rw (head_value_num (s 0)) (scan_denotes s n 0 t (rw e h) (omega arith));
      steady = λ m le. list_of_more s n m h le;
    }

-- an accepted list as an operand: its start, its settling and the bound on its last date
pub accepted_start : (l : List ℕ) → Accepted l → At (signal_of l) l 1 0
accepted_start [] a = absurd ((accepted_normal []).0 a).0
accepted_start (h ∷ ws) a =
    let n = ((accepted_normal (h ∷ ws)).0 a).0 in
    at_start h ws n.0 (dates_rise h ws n)

pub accepted_settled : (l : List ℕ) → Accepted l → SettledFrom (signal_of l) (last_date l)
accepted_settled l a = (read_back_lem l ((accepted_normal l).0 a).0).settled

pub last_bound : (k b : ℕ) (ws : List ℕ) → k ≤ b → ((i : ℕ) → i < length ws → date_of (get_or ws i 0) ≤ b) → last_from k ws ≤ b
unfolding last_from
last_bound k b [] le h = le
last_bound k b (w ∷ ws) le h = last_bound (date_of w) b ws (h 0 (omega arith)) (λ i l. h (suc i) (omega arith))

pub last_date_bound : (b : ℕ) (l : List ℕ) → ((i : ℕ) → i < length l → date_of (get_or l i 0) ≤ b) → last_date l ≤ b
unfolding last_date
last_date_bound b [] h = omega arith
last_date_bound b (w ∷ ws) h = last_bound 0 b ws (omega arith) (λ i l. h (suc i) (omega arith))

-- the next word's date is at most the last
last_drop : (x y j : ℕ) (ws : List ℕ) → j < length ws → last_from x ws ≡ last_from y (drop j ws)
unfolding last_from
last_drop x y j [] h = absurd (omega arith)
last_drop x y zero (w ∷ ws) h = refl
last_drop x y (suc j) (w ∷ ws) h = last_drop (date_of w) y j ws (omega arith)

pub next_within : (f : Signal) (l : List ℕ) (p k : ℕ) → At f l p k → p < length l → date_of (get_or l p 0) ≤ last_date l
unfolding last_date last_from
next_within f [] p k a h = absurd (omega arith)
next_within f (x ∷ ws) zero k a h = absurd (omega (arith, a.one))
next_within f (x ∷ ws) (suc j) k a h =
    let left : drop j ws ≡ get_or (x ∷ ws) (suc j) 0 ∷ drop (suc j + 1) (x ∷ ws) = words_left (x ∷ ws) (suc j) h in
    let rises : Rising k (get_or (x ∷ ws) (suc j) 0 ∷ drop (suc j + 1) (x ∷ ws)) =
    subst (λ (r : List ℕ). Rising k r) left a.ahead.rises in
    let e : last_from 0 ws ≡ last_from k (get_or (x ∷ ws) (suc j) 0 ∷ drop (suc j + 1) (x ∷ ws)) =
    last_drop 0 k j ws (omega arith) ∙ ap (last_from k) left in
    omega (arith, e, last_le (date_of (get_or (x ∷ ws) (suc j) 0)) (drop (suc j + 1) (x ∷ ws)) rises.1)
