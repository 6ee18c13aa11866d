-- Believed: Document 01, "Operations", over moments, as definitions that compute; and TP, document 02's request 1.
use Rattle.std.specs.Prelude.{ℕ, zero, suc, ◌+◌, Bool, true, false, not, cond, ◌&&◌, ◌||◌, List, [], ◌∷◌, leb, ltb, get_or}
use Rattle.signals.specs.Moment.{instant, is_gap, tick, just_before, opens, in_open, in_closed, started, from_to}

-- A signal is up (true) or down (false) at each moment.
abbrev pub Signal : Type 0
Signal = ℕ → Bool

abbrev pub num : Bool → ℕ
num true = 1
num false = 0

-- some moment up to m has p; every moment up to m has p
unfoldable pub some : (ℕ → Bool) → ℕ → Bool
some p zero = p zero
some p (suc m) = some p m || p (suc m)

unfoldable pub every : (ℕ → Bool) → ℕ → Bool
every p zero = p zero
every p (suc m) = every p m && p (suc m)

-- where p holds, q does
abbrev pub implied : Bool → Bool → Bool
implied p q = not p || q

-- 1 is up and 0 is down at every moment
unfoldable pub constant : Bool → Signal
constant v t = v

-- NOT
unfoldable pub NOT : Signal → Signal
NOT f t = not (f t)

-- A connective is a 2 by 2 table, row by the first operand, column by the second.
abbrev pub Table : Type 0
Table = List (List Bool)

unfoldable pub cell : Table → Bool → Bool → Bool
cell table p q = get_or (get_or table (num p) []) (num q) false

unfoldable pub connective : Table → Signal → Signal → Signal
connective table f g t = cell table (f t) (g t)

-- the table of a function of two truth values; AND and OR
abbrev pub table_of : (Bool → Bool → Bool) → Table
table_of h = (h false false ∷ h false true ∷ []) ∷ (h true false ∷ h true true ∷ []) ∷ []

unfoldable pub AND : Signal → Signal → Signal
AND f g t = f t && g t

unfoldable pub OR : Signal → Signal → Signal
OR f g t = f t || g t

-- Rising ^f: f is up at t and down just before t. Falling ~f: f is down at t and up just before. Both are down in gaps.
unfoldable pub rising : Signal → Signal
rising f t = not (is_gap t) && (f t && not (f (just_before t)))

unfoldable pub falling : Signal → Signal
falling f t = not (is_gap t) && (not (f t) && f (just_before t))

-- SR(s,r): s(t), or some t1 < t has s(t1) and r is down on all of (t1,t].
unfoldable pub SR : Signal → Signal → Signal
SR s r t = s t || some (λ t1. leb (opens t1) t && (s t1 && every (λ n. implied (in_open t1 t n) (not (r n))) t)) t

-- RS(s,r): s(t) and not r(t), or some t1 < t has s(t1) and r is down on all of [t1,t].
unfoldable pub RS : Signal → Signal → Signal
RS s r t = s t && not (r t) || some (λ t1. leb (opens t1) t && (s t1 && every (λ n. implied (in_closed t1 t n) (not (r n))) t)) t

-- TON(d,f): t ≥ d, and f is up at every t1 > 0 with t-d ≤ t1 ≤ t.
unfoldable pub TON : ℕ → Signal → Signal
TON d f t = started d t && every (λ t1. implied (from_to d t t1) (f t1)) t

-- TOF(d,f): f is up at some t1 > 0 with t-d ≤ t1 ≤ t.
unfoldable pub TOF : ℕ → Signal → Signal
TOF d f t = some (λ t1. from_to d t t1 && f t1) t

-- TP: a pulse that started at one of these dates, b, none of which is after k, is still running at date k: k < b+d
unfoldable pub running : ℕ → List ℕ → ℕ → Bool
running d [] k = false
running d (b ∷ bs) k = ltb k (b + d) || running d bs k

-- The dates up to k at which a pulse starts, the last first: a rising instant of f starts one, unless it comes before the end of a pulse
-- that started earlier.
unfoldable pub starts : ℕ → Signal → ℕ → List ℕ
starts d f zero = []
starts d f (suc k) =
    cond (rising f (instant (suc k)) && not (running d (starts d f k) (suc k))) (suc k ∷ starts d f k) (starts d f k)

-- TP(d,f): up from each start a inclusive to a+d exclusive.
unfoldable pub TP : ℕ → Signal → Signal
TP d f t = running d (starts d f (tick t)) (tick t)

-- f to g is refuted at t: f is up and g is down
unfoldable pub refuted : Signal → Signal → Signal
refuted f g t = f t && not (g t)
