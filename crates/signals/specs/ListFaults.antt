-- Statement: Faults 1 to 4 are given exactly when their sentence of document 01's table holds and no earlier one does.
use Rattle.std.specs.Prelude.{ℕ, zero, suc, ◌≤◌, ◌<◌, Bool, false, List, ◌⊎◌, ◌≡◌, length, get_or}
use Rattle.signals.specs.Words.{date_of, value_at, value_after, head_value, most_words, list_fault, tidy_fault}
use Rattle.signals.specs.Checks.{Check, NoFault, Exactly}

-- 1: list empty or over 256 words
abbrev pub Breaks1 : List ℕ → Type 0
Breaks1 l = (length l ≡ 0) ⊎ (most_words < length l)

-- 2: first word above 1
abbrev pub Breaks2 : List ℕ → Type 0
Breaks2 l = 1 < get_or l 0 0

-- the date and the value before word i; the first word is number 0, and before the word after it 0 counts as the date
abbrev pub date_before : List ℕ → ℕ → ℕ
date_before l zero = 0
date_before l (suc zero) = 0
date_before l (suc (suc i)) = date_of (get_or l (suc i) 0)

abbrev pub value_before : List ℕ → ℕ → Bool
value_before l zero = false
value_before l (suc zero) = head_value (get_or l 0 0)
value_before l (suc (suc i)) = value_after (get_or l (suc i) 0)

-- 3: date of word i not above the last, 0 counting before the first
abbrev pub Breaks3 : List ℕ → ℕ → Type 0
Breaks3 l i = (1 ≤ i) × (i < length l) × (date_of (get_or l i 0) ≤ date_before l i)

-- 4: word i changes nothing
abbrev pub Breaks4 : List ℕ → ℕ → Type 0
Breaks4 l i =
    (1 ≤ i) × (i < length l) × (value_at (get_or l i 0) ≡ value_before l i) × (value_after (get_or l i 0) ≡ value_before l i)

-- no word before word i breaks 3 or 4
abbrev pub SoundBefore : List ℕ → ℕ → Type 0
SoundBefore l i = (j : ℕ) → j < i → (¬ Breaks3 l j) × (¬ Breaks4 l j)

-- the first word that breaks 3 or 4 breaks 3; it breaks 4
abbrev pub First3 : List ℕ → Type 0
First3 l = (i : ℕ) × Breaks3 l i × SoundBefore l i

abbrev pub First4 : List ℕ → Type 0
First4 l = (i : ℕ) × Breaks4 l i × SoundBefore l i

-- 1, 2, then word by word 3, 4; tidying skips 4
abbrev pub ListFaultIs : List ℕ → ℕ → Type 0
ListFaultIs l = Check 1 (Breaks1 l) (Check 2 (Breaks2 l) (Check 3 (First3 l) (Check 4 (First4 l) NoFault)))

abbrev pub TidyFaultIs : List ℕ → ℕ → Type 0
TidyFaultIs l = Check 1 (Breaks1 l) (Check 2 (Breaks2 l) (Check 3 ((i : ℕ) × Breaks3 l i) NoFault))

abbrev pub ListFaultsExact : Type 0
ListFaultsExact = (l : List ℕ) → Exactly (ListFaultIs l) (list_fault l)

abbrev pub TidyFaultsExact : Type 0
TidyFaultsExact = (l : List ℕ) → Exactly (TidyFaultIs l) (tidy_fault l)
