-- Statement: The statements on normal lists: a signal has one, it denotes the signal, and it is read back from the signal it denotes.
use Rattle.std.specs.Prelude.{ℕ, ◌≤◌, ◌<◌, List, [], ◌∷◌, ◌↔◌, ◌≡◌, length}
use Rattle.signals.specs.Signal.{Signal}
use Rattle.signals.specs.Words.{date_of, head_value, words_fault, most_words, list_fault, signal_of, last_date, list_of}
use Rattle.signals.specs.Settled.{SettledFrom, Same}

-- A normal list breaks none of rules 2 to 4 and is not empty; it may be longer than 256 words.
abbrev pub Normal : List ℕ → Type 0
Normal [] = ⊥
Normal (h ∷ ws) = (h ≤ 1) × (words_fault 0 (head_value h) ws ≡ 0)

abbrev pub Accepted : List ℕ → Type 0
Accepted l = list_fault l ≡ 0

-- the dates of the words rise strictly, all above k
abbrev pub Rising : ℕ → List ℕ → Type 0
Rising k [] = Unit {0}
Rising k (w ∷ ws) = (k < date_of w) × Rising (date_of w) ws

-- The dates of a normal list rise.
abbrev pub DatesRise : Type 0
DatesRise = (h : ℕ) (ws : List ℕ) → Normal (h ∷ ws) → Rising 0 ws

-- An accepted list is a normal one of at most 256 words.
abbrev pub AcceptedNormal : Type 0
AcceptedNormal = (l : List ℕ) → Accepted l ↔ (Normal l × (length l ≤ most_words))

-- A signal has one list.
abbrev pub Unique : Type 0
Unique = (l m : List ℕ) → Normal l → Normal m → Same (signal_of l) (signal_of m) → l ≡ m

abbrev pub UniqueAccepted : Type 0
UniqueAccepted = (l m : List ℕ) → Accepted l → Accepted m → Same (signal_of l) (signal_of m) → l ≡ m

-- The list of a signal that settles is normal, denotes the signal at every moment, and does not depend on the date up to which
-- it is computed.
pub record ListOf (s : Signal) (n : ℕ) : Type 0 where
  pub normal : Normal (list_of s n)
  pub denotes : Same (signal_of (list_of s n)) s
  pub steady : (m : ℕ) → n ≤ m → list_of s m ≡ list_of s n

abbrev pub ListOfSignal : Type 0
ListOfSignal = (s : Signal) (n : ℕ) → SettledFrom s n → ListOf s n

-- A normal list's signal settles at its last date, and its list is that list.
pub record Reread (l : List ℕ) : Type 0 where
  pub settled : SettledFrom (signal_of l) (last_date l)
  pub same : list_of (signal_of l) (last_date l) ≡ l

abbrev pub ReadBack : Type 0
ReadBack = (l : List ℕ) → Normal l → Reread l
