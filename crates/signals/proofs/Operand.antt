-- An operand ahead of a date: the value held, the words left, and what passing the next date tells.
use Prim.Native.Nat.{ℕ, ◌+◌, ◌-◌, ◌≤◌, ◌<◌}
use mathlib.Core.Bool.{Bool, true, false, cond}
use mathlib.Core.List.{List, [], ◌∷◌}
use mathlib.Core.Path.{◌≡◌, refl, ◌∙◌}
use native.Mathlib.Omega.{arith}
use native.Mathlib.Numerals.{add-one}
use lib.Dec.{leb, ltb, eqb}
use borrow.Author.Tests.{lt-ltb, le-ltb, eq-eqb, ne_eqb, ltb-true, ltb-false, eqb-true, eqb-false, leb-false}
use lib.ListN.{length, get_or, drop, drop_of_length-le}
use lib.Seq.{drop-cons}
use Rattle.signals.specs.Moment.{gap, instant}
use Rattle.signals.specs.Signal.{Signal}
use Rattle.signals.specs.Words.{date_of, value_at, value_after, words_fault, dates_fault, value_from, signal_of, changes_nothing}
use Rattle.signals.specs.Passing.{held_value, is_next, at_date, after_date, passed_date}
use Rattle.signals.specs.Normal.{Rising}
use Rattle.signals.proofs.Truth.{and_left, and_right}
use Rattle.signals.proofs.Scan.{Held}
use Rattle.signals.proofs.WordFacts.{head_value_lem}

-- f from gap k on is what the value v and the words left say, and their dates rise above k
pub record Ahead (f : Signal) (k : ℕ) (v : Bool) (ws : List ℕ) : Type 0 where
  pub says : (t : ℕ) → gap k ≤ t → f t ≡ value_from v ws t
  pub rises : Rising k ws

-- what the words say, by the place of the moment
pub value_none : (v : Bool) (t : ℕ) → value_from v [] t ≡ v
unfolding value_from
value_none v t = refl

pub value_before_lem : (v : Bool) (w : ℕ) (ws : List ℕ) (t : ℕ) → t < instant (date_of w) → value_from v (w ∷ ws) t ≡ v
unfolding value_from
value_before_lem v w ws t h = rw (lt-ltb t (instant (date_of w)) h)

pub value_at_lem : (v : Bool) (w : ℕ) (ws : List ℕ) → value_from v (w ∷ ws) (instant (date_of w)) ≡ value_at w
unfolding value_from
value_at_lem v w ws =
    rw (le-ltb (instant (date_of w)) (instant (date_of w)) (omega arith), eq-eqb (instant (date_of w)) (instant (date_of w)) refl)

pub value_after_lem : (v : Bool) (w : ℕ) (ws : List ℕ) (t : ℕ) → 1 ≤ date_of w → gap (date_of w) ≤ t
    → value_from v (w ∷ ws) t ≡ value_from (value_after w) ws t
unfolding value_from
value_after_lem v w ws t h l =
    rw (le-ltb t (instant (date_of w)) (omega arith), ne_eqb t (instant (date_of w)) (omega arith))

-- up to the first date left the value held stands
pub value_held : (v : Bool) (k : ℕ) (ws : List ℕ) (t : ℕ) → Rising k ws → t ≤ gap k → value_from v ws t ≡ v
value_held v k [] t r l = value_none v t
value_held v k (w ∷ ws) t r l = value_before_lem v w ws t (omega arith)

-- passing a date e before the first word left: nothing changes
pub pass_none : (f : Signal) (k e : ℕ) (v : Bool) → Ahead f k v [] → k < e → Held f k e v v v × Ahead f e v []
pass_none f k e v a l =
    let still : (t : ℕ) → gap k ≤ t → f t ≡ v = λ t g. a.says t g ∙ value_none v t in (
      record { later = l; still = λ t g u. still t g; at = still (instant e) (omega arith); after = still (gap e) (omega arith) },
      record { says = λ t g. a.says t (omega arith); rises = tt },
    )

pub pass_before : (f : Signal) (k e : ℕ) (v : Bool) (w : ℕ) (ws : List ℕ) → Ahead f k v (w ∷ ws) → k < e → e < date_of w → Held f k e v v v
    × Ahead f e v (w ∷ ws)
pass_before f k e v w ws a l u =
    let still : (t : ℕ) → gap k ≤ t → t < instant (date_of w) → f t ≡ v = λ t g o. a.says t g ∙ value_before_lem v w ws t o in (
      record {
        later = l;
        still = λ t g o. still t g (omega arith);
        at = still (instant e) (omega arith) (omega arith);
        after = still
            (gap e) (omega arith) (omega arith);
      },
      record { says = λ t g. a.says t (omega arith); rises = (u, a.rises.1) },
    )

-- passing the date of the first word left
pub pass_word : (f : Signal) (k : ℕ) (v : Bool) (w : ℕ) (ws : List ℕ) → Ahead f k v (w ∷ ws)
    → Held f k (date_of w) v (value_at w) (value_after w) × Ahead f (date_of w) (value_after w) ws
pass_word f k v w ws a =
    let later : k < date_of w = a.rises.0 in
    let on : (t : ℕ) → gap (date_of w) ≤ t → f t ≡ value_from (value_after w) ws t =
    λ t g. a.says t (omega arith) ∙ value_after_lem v w ws t (omega arith) g in (
      record {
        later = later;
        still = λ t g o. a.says t g ∙ value_before_lem v w ws t o;
        at = a.says (instant (date_of w)) (omega arith) ∙ value_at_lem v w ws;
        after = on (gap (date_of w)) (omega arith) ∙ value_held (value_after w) (date_of w) ws (gap (date_of w)) a.rises.1 (omega arith);
      },
      record { says = on; rises = a.rises.1 },
    )

-- lists without fault 3 have rising dates
rising_next : (t : Bool) (k v : ℕ) (r : Type 0) → leb v k ≡ t → (a : ℕ) → cond t 3 a ≡ 0 → (a ≡ 0 → r) → (k < v) × r
rising_next true k v r e a h go = absurd (omega arith)
rising_next false k v r e a h go = (omega (arith, leb-false), go h)

pub no_fault_rise : (k : ℕ) (ws : List ℕ) → dates_fault k ws ≡ 0 → Rising k ws
unfolding dates_fault
no_fault_rise k [] h = tt
no_fault_rise k (w ∷ ws) h =
    rising_next (leb (date_of w) k) k (date_of w) (Rising (date_of w) ws) refl (dates_fault (date_of w) ws) h (no_fault_rise (date_of w) ws)

skip_4 : (c : Bool) (x : ℕ) → cond c 4 x ≡ 0 → x ≡ 0
skip_4 true x h = absurd (omega arith)
skip_4 false x h = h

pub words_rise : (k : ℕ) (v : Bool) (ws : List ℕ) → words_fault k v ws ≡ 0 → Rising k ws
unfolding words_fault
words_rise k v [] h = tt
words_rise k v (w ∷ ws) h =
    rising_next
    (leb (date_of w) k)
    k
    (date_of w)
    (Rising (date_of w) ws)
    refl
    (cond (changes_nothing v w) 4 (words_fault (date_of w) (value_after w) ws))
    h
    (λ g. words_rise (date_of w) (value_after w) ws (skip_4 (changes_nothing v w) (words_fault (date_of w) (value_after w) ws) g))

-- the operand as a list and the number of words passed
pub record At (f : Signal) (l : List ℕ) (p k : ℕ) : Type 0 where
  pub one : 1 ≤ p
  pub within : p ≤ length l
  pub ahead : Ahead f k (held_value l p) (drop p l)

-- at the start the first word is passed
pub at_start : (h : ℕ) (ws : List ℕ) → h ≤ 1 → Rising 0 ws → At (signal_of (h ∷ ws)) (h ∷ ws) 1 0
unfolding signal_of held_value
at_start h ws b r =
    record { one = omega arith; within = omega arith; ahead = record { says = λ t g. rw (head_value_lem h b); rises = r } }

pub held_next : (l : List ℕ) (p : ℕ) → held_value l (p + 1) ≡ value_after (get_or l p 0)
unfolding held_value
held_next l p =
    let e : p + 1 - 1 ≡ p = omega arith in
    rw e

-- a word is left: it is the next
pub words_left : (l : List ℕ) (p : ℕ) → p < length l → drop p l ≡ get_or l p 0 ∷ drop (p + 1) l
words_left l p h = rw (add-one, drop-cons l p 0)

-- no word left: the value held stands for good
pub at_end_lem : (f : Signal) (l : List ℕ) (p k : ℕ) → At f l p k → length l ≤ p → (t : ℕ) → gap k ≤ t → f t ≡ held_value l p
at_end_lem f l p k a h t g =
    let none : drop p l ≡ [] = drop_of_length-le l h in
    let ahead : Ahead f k (held_value l p) [] = rw none at a.ahead in
    ahead.says t g ∙ value_none (held_value l p) t

-- the next word's date lies above the date passed
pub next_later : (f : Signal) (l : List ℕ) (p k : ℕ) → At f l p k → p < length l → k < date_of (get_or l p 0)
next_later f l p k a h =
    let ahead : Ahead f k (held_value l p) (get_or l p 0 ∷ drop (p + 1) l) = rw (words_left l p h) at a.ahead in
    ahead.rises.0

-- passing a date e below that of the next word
pub at_stay : (f : Signal) (l : List ℕ) (p k e : ℕ) → At f l p k → k < e → (p < length l → e < date_of (get_or l p 0))
    → Held f k e (held_value l p) (held_value l p) (held_value l p) × At f l p e
at_stay f l p k e a later before = go (ltb p (length l)) refl
  where
    go : (t : Bool) → ltb p (length l) ≡ t → Held f k e (held_value l p) (held_value l p) (held_value l p) × At f l p e
    go true q =
        let h : p < length l = ltb-true p (length l) q in
        let left : drop p l ≡ get_or l p 0 ∷ drop (p + 1) l = words_left l p h in
        let ahead : Ahead f k (held_value l p) (get_or l p 0 ∷ drop (p + 1) l) = rw left at a.ahead in
        let step = pass_before f k e (held_value l p) (get_or l p 0) (drop (p + 1) l) ahead later (before h) in
        (step.0, record { one = a.one; within = a.within; ahead = rw left step.1 })
    go false q =
        let none : drop p l ≡ [] = drop_of_length-le l (ltb-false p (length l) q) in
        let ahead : Ahead f k (held_value l p) [] = rw none at a.ahead in
        let step = pass_none f k e (held_value l p) ahead later in
        (step.0, record { one = a.one; within = a.within; ahead = rw none step.1 })

-- passing the date of the next word
pub at_take : (f : Signal) (l : List ℕ) (p k : ℕ) → At f l p k → p < length l
    → Held f k (date_of (get_or l p 0)) (held_value l p) (value_at (get_or l p 0)) (value_after (get_or l p 0)) × At f l (p + 1)
    (date_of (get_or l p 0))
at_take f l p k a h =
    let ahead : Ahead f k (held_value l p) (get_or l p 0 ∷ drop (p + 1) l) = rw (words_left l p h) at a.ahead in
    let step = pass_word f k (held_value l p) (get_or l p 0) (drop (p + 1) l) ahead in
    (step.0, record { one = omega arith; within = omega arith; ahead = rw (held_next l p) step.1 })

-- the step: passing date e, not above the next word's date
pub record Passed (f : Signal) (l : List ℕ) (p k e : ℕ) : Type 0 where
  pub held : Held f k e (held_value l p) (at_date l p e) (after_date l p e)
  pub on : At f l (passed_date l p e) e

pub at_pass : (f : Signal) (l : List ℕ) (p k e : ℕ) → At f l p k → k < e → (p < length l → e ≤ date_of (get_or l p 0)) → Passed f l p k e
unfolding at_date after_date passed_date is_next
at_pass f l p k e a later le = go (is_next l p e) refl
  where
    go : (t : Bool) → is_next l p e ≡ t → Passed f l p k e
    go true q =
        let left = and_left (ltb p (length l)) (eqb (date_of (get_or l p 0)) e) q in
        let date = and_right (ltb p (length l)) (eqb (date_of (get_or l p 0)) e) q in
        let step = rw (eqb-true (date_of (get_or l p 0)) e date) at (at_take f l p k a (ltb-true p (length l) left)) in
        record { held = rw q step.0; on = rw q step.1 }
    go false q =
        let before : p < length l → e < date_of (get_or l p 0) =
        λ h.
        let other : date_of (get_or l p 0) ≡ e → ⊥ = eqb-false (date_of (get_or l p 0)) e (rw (lt-ltb p (length l) h) at q) in
        omega (arith, le h) in
        let step = at_stay f l p k e a later before in
        record { held = rw q step.0; on = rw q step.1 }
