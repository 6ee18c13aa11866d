-- Rules 3 and 4 over the words after the first, and how they say the same of the whole list.
use Prim.Native.Nat.{ℕ, zero, suc, ◌≤◌, ◌<◌}
use native.Mathlib.Omega.{arith}
use mathlib.Core.Path.{◌≡◌, refl, sym, ◌∙◌}
use mathlib.Core.List.{List, [], ◌∷◌}
use mathlib.Core.Bool.{Bool, true, false, beq, ◌&&◌, true≢false}
use lib.Dec.{leb}
use lib.ListN.{length, get_or}
use borrow.Author.Tests.{leb-true, leb-false}
use Rattle.signals.specs.Words.{date_of, value_at, value_after, head_value, changes_nothing, words_fault}
use Rattle.signals.specs.ListFaults.{Breaks3, Breaks4, date_before, value_before, SoundBefore}
use Rattle.signals.proofs.Normal.{same_values}

-- the date and the value before word i of the words ws, with k and v before them
abbrev pub prior_date : ℕ → List ℕ → ℕ → ℕ
prior_date k [] i = k
prior_date k (w ∷ ws) zero = k
prior_date k (w ∷ ws) (suc i) = prior_date (date_of w) ws i

abbrev pub prior_value : Bool → List ℕ → ℕ → Bool
prior_value v [] i = v
prior_value v (w ∷ ws) zero = v
prior_value v (w ∷ ws) (suc i) = prior_value (value_after w) ws i

abbrev pub Low : ℕ → List ℕ → ℕ → Type 0
Low k ws i = (i < length ws) × (date_of (get_or ws i 0) ≤ prior_date k ws i)

abbrev pub Idle : Bool → List ℕ → ℕ → Type 0
Idle v ws i = (i < length ws) × (value_at (get_or ws i 0) ≡ prior_value v ws i) × (value_after (get_or ws i 0) ≡ prior_value v ws i)

abbrev pub Fine : ℕ → Bool → List ℕ → ℕ → Type 0
Fine k v ws i = (¬ Low k ws i) × (¬ Idle v ws i)

-- what the fault of the words says of them
abbrev pub Says : ℕ → ℕ → Bool → List ℕ → Type 0
Says zero k v ws = (i : ℕ) → Fine k v ws i
Says (suc zero) k v ws = ⊥
Says (suc (suc zero)) k v ws = ⊥
Says (suc (suc (suc zero))) k v ws = (i : ℕ) × Low k ws i × ((j : ℕ) → j < i → Fine k v ws j)
Says (suc (suc (suc (suc zero)))) k v ws = (i : ℕ) × Idle v ws i × (¬ Low k ws i) × ((j : ℕ) → j < i → Fine k v ws j)
Says (suc (suc (suc (suc (suc n))))) k v ws = ⊥

pub fine_cons : (k : ℕ) (v : Bool) (w : ℕ) (ws : List ℕ) (i : ℕ) → Fine (date_of w) (value_after w) ws i → Fine k v (w ∷ ws) (suc i)
fine_cons k v w ws i f = (λ h. f.0 (omega (arith, h.0), h.1), λ h. f.1 (omega (arith, h.0), h.1, h.2))

-- all words up to i are fine when the first is and the following up to i are
pub fine_all : (k : ℕ) (v : Bool) (w : ℕ) (ws : List ℕ) → Fine k v (w ∷ ws) 0 → (i : ℕ)
    → ((j : ℕ) → j < i → Fine (date_of w) (value_after w) ws j)
    → (j : ℕ) → j < suc i → Fine k v (w ∷ ws) j
fine_all k v w ws f i h zero l = f
fine_all k v w ws f i h (suc j) l = fine_cons k v w ws j (h j (omega arith))

pub says_cons : (n k : ℕ) (v : Bool) (w : ℕ) (ws : List ℕ) → Fine k v (w ∷ ws) 0 → Says n (date_of w) (value_after w) ws → Says n k v
    (w ∷ ws)
says_cons zero k v w ws f h = λ i. fine_all k v w ws f i (λ j l. h j) i (omega arith)
says_cons (suc zero) k v w ws f h = absurd h
says_cons (suc (suc zero)) k v w ws f h = absurd h
says_cons (suc (suc (suc zero))) k v w ws f h =
    (suc h.0, (omega (arith, h.1.0), h.1.1), fine_all k v w ws f h.0 h.2)
says_cons (suc (suc (suc (suc zero)))) k v w ws f h = (
  suc h.0,
  (omega (arith, h.1.0), h.1.1, h.1.2),
  λ b. h.2 (omega (arith, b.0), b.1),
  fine_all k v w ws f h.0 h.3,
)
says_cons (suc (suc (suc (suc (suc n))))) k v w ws f h = absurd h

-- the first word: what its two tests say
pub idle : (v : Bool) → beq v v && beq v v ≡ true
idle true = refl
idle false = refl

pub idle_test : (v : Bool) (w : ℕ) → value_at w ≡ v → value_after w ≡ v → changes_nothing v w ≡ true
unfolding changes_nothing
idle_test v w a b = rw (a, b) (idle v)

pub first_fine : (k : ℕ) (v : Bool) (w : ℕ) (ws : List ℕ) → leb (date_of w) k ≡ false → changes_nothing v w ≡ false → Fine k v (w ∷ ws) 0
first_fine k v w ws p q =
    (λ h. omega (arith, leb-false (date_of w) k p, h.1), λ h. true≢false (sym (idle_test v w h.1 h.2) ∙ q))

pub says_words : (k : ℕ) (v : Bool) (ws : List ℕ) → Says (words_fault k v ws) k v ws
unfolding words_fault changes_nothing
says_words k v [] = λ i. (λ h. omega (arith, h.0), λ h. omega (arith, h.0))
says_words k v (w ∷ ws) = go (leb (date_of w) k) (changes_nothing v w) refl refl (says_words (date_of w) (value_after w) ws)
  where
    go : (t u : Bool) → leb (date_of w) k ≡ t → changes_nothing v w ≡ u
        → Says (words_fault (date_of w) (value_after w) ws) (date_of w) (value_after w) ws
        → Says (words_fault k v (w ∷ ws)) k v (w ∷ ws)
    go true u p q rec = rw p (0, (omega arith, leb-true (date_of w) k p), λ j l. absurd (omega arith))
    go false true p q rec =
        let e = same_values (value_at w) (value_after w) v q in
        rw (p, q) (
          0,
          (omega arith, e.0, e.1),
          (λ b. omega (arith, leb-false (date_of w) k p, b.1)),
          λ j l. absurd (omega arith),
        )
    go false false p q rec = rw (p, q) (says_cons (words_fault (date_of w) (value_after w) ws) k v w ws (first_fine k v w ws p q) rec)

-- from the words after the first to the list
pub prior_date_lem : (w : ℕ) (ws : List ℕ) (i : ℕ) → i < suc (length ws) → prior_date (date_of w) ws i ≡ date_of (get_or (w ∷ ws) i 0)
prior_date_lem w [] zero l = refl
prior_date_lem w (x ∷ ws) zero l = refl
prior_date_lem w [] (suc i) l = absurd (omega arith)
prior_date_lem w (x ∷ ws) (suc i) l = prior_date_lem x ws i (omega arith)

pub prior_value_lem : (w : ℕ) (ws : List ℕ) (i : ℕ) → i < suc (length ws) → prior_value (value_after w) ws i ≡ value_after
    (get_or (w ∷ ws) i 0)
prior_value_lem w [] zero l = refl
prior_value_lem w (x ∷ ws) zero l = refl
prior_value_lem w [] (suc i) l = absurd (omega arith)
prior_value_lem w (x ∷ ws) (suc i) l = prior_value_lem x ws i (omega arith)

pub date_before_lem : (h : ℕ) (ws : List ℕ) (i : ℕ) → i < length ws → date_before (h ∷ ws) (suc i) ≡ prior_date 0 ws i
date_before_lem h [] i l = absurd (omega arith)
date_before_lem h (w ∷ ws) zero l = refl
date_before_lem h (w ∷ ws) (suc i) l = sym (prior_date_lem w ws i (omega arith))

pub value_before_lem : (h : ℕ) (ws : List ℕ) (i : ℕ) → i < length ws → value_before (h ∷ ws) (suc i) ≡ prior_value (head_value h) ws i
value_before_lem h [] i l = absurd (omega arith)
value_before_lem h (w ∷ ws) zero l = refl
value_before_lem h (w ∷ ws) (suc i) l = sym (prior_value_lem w ws i (omega arith))

pub low_of : (h : ℕ) (ws : List ℕ) (i : ℕ) → Breaks3 (h ∷ ws) (suc i) → Low 0 ws i
low_of h ws i b =
    let l : i < length ws = omega (arith, b.1) in
    (l, rw (date_before_lem h ws i l) at b.2)

pub of_low : (h : ℕ) (ws : List ℕ) (i : ℕ) → Low 0 ws i → Breaks3 (h ∷ ws) (suc i)
of_low h ws i b = (omega arith, omega (arith, b.0), rw (date_before_lem h ws i b.0) b.1)

pub idle_of : (h : ℕ) (ws : List ℕ) (i : ℕ) → Breaks4 (h ∷ ws) (suc i) → Idle (head_value h) ws i
idle_of h ws i b =
    let l : i < length ws = omega (arith, b.1) in
    (l, b.2 ∙ value_before_lem h ws i l, b.3 ∙ value_before_lem h ws i l)

pub of_idle : (h : ℕ) (ws : List ℕ) (i : ℕ) → Idle (head_value h) ws i → Breaks4 (h ∷ ws) (suc i)
of_idle h ws i b =
    (omega arith, omega (arith, b.0), b.1 ∙ sym (value_before_lem h ws i b.0), b.2 ∙ sym (value_before_lem h ws i b.0))

pub of_fine : (h : ℕ) (ws : List ℕ) (i : ℕ) → ((j : ℕ) → j < i → Fine 0 (head_value h) ws j) → SoundBefore (h ∷ ws) (suc i)
of_fine h ws i f zero l = (λ b. omega (arith, b.0), λ b. omega (arith, b.0))
of_fine h ws i f (suc j) l =
    let g = f j (omega arith) in
    (λ b. g.0 (low_of h ws j b), λ b. g.1 (idle_of h ws j b))
