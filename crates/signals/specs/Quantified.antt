-- Statement: Document 01, "Operations", and document 02's TP, with real quantifiers as the documents write them, and the statement that
-- the definitions that compute agree.
use Rattle.std.specs.Prelude.{ℕ, ◌+◌, ◌*◌, ◌≤◌, ◌<◌, ◌≡◌, ◌⊎◌, ◌↔◌, Bool, true, false, List, [], ◌∷◌}
use Rattle.signals.specs.Moment.{instant, is_gap, just_before, opens}
use Rattle.signals.specs.Signal.{Signal, Table, cell, NOT, connective, AND, OR, rising, falling, SR, RS, TON, TOF, starts, TP}

abbrev pub Up : Bool → Type 0
Up b = b ≡ true

abbrev pub Down : Bool → Type 0
Down b = b ≡ false

-- n lies in (t1,t]; n lies in [t1,t]
abbrev pub InOpen : ℕ → ℕ → ℕ → Type 0
InOpen t1 t n = (opens t1 ≤ n) × (n ≤ t)

abbrev pub InClosed : ℕ → ℕ → ℕ → Type 0
InClosed t1 t n = (t1 ≤ n) × (n ≤ t)

-- t1 < t: some time of t1's moment lies before some time of t's
abbrev pub Before : ℕ → ℕ → Type 0
Before t1 t = opens t1 ≤ t

-- t ≥ d
abbrev pub Started : ℕ → ℕ → Type 0
Started d t = 2 * d ≤ t + 1

-- t-d ≤ t1 ≤ t
abbrev pub FromTo : ℕ → ℕ → ℕ → Type 0
FromTo d t t1 = (t1 ≤ t) × (t ≤ t1 + 2 * d)

abbrev pub UpNOT : Signal → ℕ → Type 0
UpNOT f t = Down (f t)

-- the table's cell in the row of the first operand and the column of the second
abbrev pub UpConnective : Table → Signal → Signal → ℕ → Type 0
UpConnective table f g t = (p q : Bool) → f t ≡ p → g t ≡ q → Up (cell table p q)

abbrev pub UpAND : Signal → Signal → ℕ → Type 0
UpAND f g t = Up (f t) × Up (g t)

abbrev pub UpOR : Signal → Signal → ℕ → Type 0
UpOR f g t = Up (f t) ⊎ Up (g t)

-- Rising ^f: f is up at t and down just before t. Falling ~f: f is down at t and up just before. Both are down in gaps.
abbrev pub UpRising : Signal → ℕ → Type 0
UpRising f t = Down (is_gap t) × Up (f t) × Down (f (just_before t))

abbrev pub UpFalling : Signal → ℕ → Type 0
UpFalling f t = Down (is_gap t) × Down (f t) × Up (f (just_before t))

-- SR(s,r): s(t), or some t1 < t has s(t1) and r is down on all of (t1,t].
abbrev pub UpSR : Signal → Signal → ℕ → Type 0
UpSR s r t = Up (s t) ⊎ ((t1 : ℕ) × Before t1 t × Up (s t1) × ((n : ℕ) → InOpen t1 t n → Down (r n)))

-- RS(s,r): s(t) and not r(t), or some t1 < t has s(t1) and r is down on all of [t1,t].
abbrev pub UpRS : Signal → Signal → ℕ → Type 0
UpRS s r t =
    (Up (s t) × Down (r t)) ⊎ ((t1 : ℕ) × Before t1 t × Up (s t1) × ((n : ℕ) → InClosed t1 t n → Down (r n)))

-- TON(d,f): t ≥ d, and f is up at every t1 > 0 with t-d ≤ t1 ≤ t.
abbrev pub UpTON : ℕ → Signal → ℕ → Type 0
UpTON d f t = Started d t × ((t1 : ℕ) → FromTo d t t1 → Up (f t1))

-- TOF(d,f): f is up at some t1 > 0 with t-d ≤ t1 ≤ t.
abbrev pub UpTOF : ℕ → Signal → ℕ → Type 0
UpTOF d f t = (t1 : ℕ) × FromTo d t t1 × Up (f t1)

-- a date is one of these
abbrev pub Among : ℕ → List ℕ → Type 0
Among a [] = ⊥
Among a (b ∷ bs) = (a ≡ b) ⊎ Among a bs

-- instant a starts a pulse; `Pulses` says that its sentence is true of this predicate and of no other, and where TP is up by any such
abbrev pub Starts : ℕ → Signal → ℕ → Type 0
Starts d f a = Among a (starts d f a)

-- TP(d,f): some a starts a pulse, up from a inclusive to a+d exclusive, and t lies there.
abbrev pub UpTP : ℕ → Signal → ℕ → Type 0
UpTP d f t = (a : ℕ) × Starts d f a × (instant a ≤ t) × (t < instant (a + d))

-- The definitions that compute say the same, for all signals, tables, lengths and moments.
pub record Agreement : Type 0 where
  pub not : (f : Signal) (t : ℕ) → Up (NOT f t) ↔ UpNOT f t
  pub tables : (table : Table) (f g : Signal) (t : ℕ) → Up (connective table f g t) ↔ UpConnective table f g t
  pub and : (f g : Signal) (t : ℕ) → Up (AND f g t) ↔ UpAND f g t
  pub or : (f g : Signal) (t : ℕ) → Up (OR f g t) ↔ UpOR f g t
  pub rises : (f : Signal) (t : ℕ) → Up (rising f t) ↔ UpRising f t
  pub falls : (f : Signal) (t : ℕ) → Up (falling f t) ↔ UpFalling f t
  pub sr : (s r : Signal) (t : ℕ) → Up (SR s r t) ↔ UpSR s r t
  pub rs : (s r : Signal) (t : ℕ) → Up (RS s r t) ↔ UpRS s r t
  pub ton : (d : ℕ) (f : Signal) (t : ℕ) → Up (TON d f t) ↔ UpTON d f t
  pub tof : (d : ℕ) (f : Signal) (t : ℕ) → Up (TOF d f t) ↔ UpTOF d f t
  pub tp : (d : ℕ) (f : Signal) (t : ℕ) → Up (TP d f t) ↔ UpTP d f t
