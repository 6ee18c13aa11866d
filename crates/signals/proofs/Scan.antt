-- The words of a signal, date by date: what a stretch without change, a settled end and an equal signal do to them.
use Prim.Native.Nat.{ℕ, zero, suc, ◌+◌, ◌-◌, ◌≤◌, ◌<◌}
use mathlib.Core.Bool.{Bool, true, false, cond, beq, ◌&&◌}
use mathlib.Core.List.{List, [], ◌∷◌, ◌++◌}
use mathlib.Core.Path.{◌≡◌, refl, sym, ◌∙◌, ap}
use native.Mathlib.Omega.{arith}
use native.Mathlib.Decide.{ℕ_discrete}
use lib.ListN.{length, get_or}
use Rattle.signals.specs.Moment.{gap, instant}
use Rattle.signals.specs.Signal.{Signal, num}
use Rattle.signals.specs.Words.{word, date_of, words_of, list_of}
use Rattle.signals.specs.Settled.{SettledFrom, Same, entry}
use Rattle.signals.proofs.WordFacts.{date_of_word}

cond_append : (c : Bool) (w : ℕ) (ws : List ℕ) → cond c ws (w ∷ ws) ≡ cond c [] (w ∷ []) ++ ws
cond_append true w ws = refl
cond_append false w ws = refl

-- both values equal the one before: no word
pub entry_none : (v : Bool) (d : ℕ) → entry v d v v ≡ []
unfolding entry
entry_none true d = refl
entry_none false d = refl

-- one date of the scan
pub words_of_suc : (s : Signal) (k n : ℕ)
    → words_of s k (suc n) ≡ entry (s (gap k)) (suc k) (s (instant (suc k))) (s (gap (suc k))) ++ words_of s (suc k) n
unfolding words_of entry
words_of_suc s k n =
    let at : instant (suc k) ≡ gap k + 1 = omega arith in
    let after : gap (suc k) ≡ gap k + 2 = omega arith in
    rw
    (at, after)
    (cond_append
    (beq (s (gap k + 1)) (s (gap k)) && beq (s (gap k + 2)) (s (gap k)))
    (word (suc k) (s (gap k + 1)) (s (gap k + 2)))
    (words_of s (suc k) n))

-- v held from gap k up to the moment before instant d, a at it and b after it
pub record Held (s : Signal) (k d : ℕ) (v a b : Bool) : Type 0 where
  pub later : k < d
  pub still : (t : ℕ) → gap k ≤ t → t < instant d → s t ≡ v
  pub at : s (instant d) ≡ a
  pub after : s (gap d) ≡ b

-- (a) a stretch without change gives no words: the scan from k is the entry of date d before the scan from d
pub scan_step : (s : Signal) (n k d : ℕ) (v a b : Bool) → Held s k d v a b → d ≤ k + n
    → words_of s k n ≡ entry v d a b ++ words_of s d (k + n - d)
scan_step s zero k d v a b h le = absurd (omega (arith, h.later))
scan_step s (suc n) k d v a b h le = go (ℕ_discrete (suc k) d) (λ on. scan_step s n (suc k) d v a b on (omega arith))
  where
    here : s (gap k) ≡ v
    here = h.still (gap k) (omega arith) (omega (arith, h.later))

    go : Dec (suc k ≡ d) → (Held s (suc k) d v a b → words_of s (suc k) n ≡ entry v d a b ++ words_of s d (suc k + n - d))
        → words_of s k (suc n) ≡ entry v d a b ++ words_of s d (k + suc n - d)
    go (yes e) rec =
        let left : n ≡ k + suc n - d = omega arith in
        let at : s (instant (suc k)) ≡ a = rw e h.at in
        let after : s (gap (suc k)) ≡ b = rw e h.after in
        words_of_suc s k n ∙ rw (here, at, after, ← left, e)
    go (no ne) rec =
        let left : suc k + n - d ≡ k + suc n - d = omega arith in
        let at : s (instant (suc k)) ≡ v = h.still (instant (suc k)) (omega arith) (omega (arith, h.later)) in
        let after : s (gap (suc k)) ≡ v = h.still (gap (suc k)) (omega arith) (omega (arith, h.later)) in
        let on : Held s (suc k) d v a b =
        record { later = omega (arith, h.later); still = λ t l g. h.still t (omega arith) g; at = h.at; after = h.after } in
        words_of_suc s k n ∙ rw (here, at, after, entry_none, ← left) (rec on)

-- the same over a fixed horizon m, as loops use it
pub scan_to : (s : Signal) (m k d : ℕ) (v a b : Bool) → Held s k d v a b → d ≤ m
    → words_of s k (m - k) ≡ entry v d a b ++ words_of s d (m - d)
scan_to s m k d v a b h le =
    let left : k + (m - k) - d ≡ m - d = omega (arith, h.later) in
    rw (← left) (scan_step s (m - k) k d v a b h (omega (arith, h.later)))

-- the list is the first word and the scan from date 0
pub list_of_scan : (s : Signal) (m : ℕ) → list_of s m ≡ num (s 0) ∷ words_of s 0 (m - 0)
unfolding list_of
list_of_scan s m =
    let e : m - 0 ≡ m = omega arith in
    rw e

-- (b) a settled signal gives no more words
pub scan_settled : (s : Signal) (n k : ℕ) (v : Bool) → ((t : ℕ) → gap k ≤ t → s t ≡ v) → words_of s k n ≡ []
unfolding words_of
scan_settled s zero k v h = refl
scan_settled s (suc n) k v h =
    let here : s (gap k) ≡ v = h (gap k) (omega arith) in
    let at : s (instant (suc k)) ≡ v = h (instant (suc k)) (omega arith) in
    let after : s (gap (suc k)) ≡ v = h (gap (suc k)) (omega arith) in
    words_of_suc s k n ∙ rw (here, at, after, entry_none) (scan_settled s n (suc k) v (λ t l. h t (omega arith)))

-- (c) the horizon does not matter past the date at which the signal settles
pub scan_more : (s : Signal) (n m k : ℕ) → SettledFrom s (k + n) → n ≤ m → words_of s k m ≡ words_of s k n
unfolding words_of
scan_more s zero m k h le =
    let e : gap k ≡ gap (k + zero) = omega arith in
    scan_settled s m k (s (gap (k + zero))) (λ t l. h t (omega arith))
scan_more s (suc n) zero k h le = absurd (omega arith)
scan_more s (suc n) (suc m) k h le =
    let e : suc k + n ≡ k + suc n = omega arith in
    words_of_suc s k m ∙ ap (λ l. entry (s (gap k)) (suc k) (s (instant (suc k))) (s (gap (suc k))) ++ l)
    (scan_more s n m (suc k) (rw e h) (omega arith)) ∙ sym (words_of_suc s k n)

pub list_of_more : (s : Signal) (n m : ℕ) → SettledFrom s n → n ≤ m → list_of s m ≡ list_of s n
unfolding list_of
list_of_more s n m h le =
    let e : 0 + n ≡ n = omega arith in
    ap (λ l. num (s 0) ∷ l) (scan_more s n m 0 (rw e h) le)

-- (d) equal signals have equal lists
pub scan_ext : (f g : Signal) (n k : ℕ) → ((t : ℕ) → gap k ≤ t → t ≤ gap (k + n) → f t ≡ g t) → words_of f k n ≡ words_of g k n
unfolding words_of
scan_ext f g zero k h = refl
scan_ext f g (suc n) k h =
    let here : f (gap k) ≡ g (gap k) = h (gap k) (omega arith) (omega arith) in
    let at : f (instant (suc k)) ≡ g (instant (suc k)) = h (instant (suc k)) (omega arith) (omega arith) in
    let after : f (gap (suc k)) ≡ g (gap (suc k)) = h (gap (suc k)) (omega arith) (omega arith) in
    words_of_suc f k n ∙ rw (here, at, after, scan_ext f g n (suc k) (λ t l u. h t (omega arith) (omega arith))) (sym (words_of_suc g k n))

pub list_of_ext : (f g : Signal) (n : ℕ) → Same f g → list_of f n ≡ list_of g n
unfolding list_of
list_of_ext f g n h = rw (h 0, scan_ext f g n 0 (λ t l u. h t))

-- the date of the word at i lies in k+1..m
abbrev pub DateIn : ℕ → ℕ → List ℕ → ℕ → Type 0
DateIn k m ws i = (k < date_of (get_or ws i 0)) × (date_of (get_or ws i 0) ≤ m)

date_in_cond : (c : Bool) (d k m : ℕ) (a b : Bool) (ws : List ℕ) → k < d → d ≤ m → ((i : ℕ) → i < length ws → DateIn k m ws i)
    → (i : ℕ) → i < length (cond c ws (word d a b ∷ ws)) → DateIn k m (cond c ws (word d a b ∷ ws)) i
date_in_cond true d k m a b ws lo hi h i l = h i l
date_in_cond false d k m a b ws lo hi h zero l = rw date_of_word (lo, hi)
date_in_cond false d k m a b ws lo hi h (suc i) l = h i (omega arith)

pub scan_dates : (s : Signal) (n k : ℕ) (i : ℕ) → i < length (words_of s k n) → DateIn k (k + n) (words_of s k n) i
unfolding words_of
scan_dates s zero k i l = absurd (omega arith)
scan_dates s (suc n) k i l =
    let below : (i : ℕ) → i < length (words_of s (suc k) n) → DateIn k (k + suc n) (words_of s (suc k) n) i =
    λ j u. let h = scan_dates s n (suc k) j u in omega arith in
    date_in_cond
    (beq (s (gap k + 1)) (s (gap k)) && beq (s (gap k + 2)) (s (gap k)))
    (suc k)
    k
    (k + suc n)
    (s (gap k + 1))
    (s (gap k + 2))
    (words_of s (suc k) n)
    (omega arith)
    (omega arith)
    below
    i
    l
