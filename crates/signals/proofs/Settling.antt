-- The operations of signals that settle settle.
use Prim.Native.Nat.{ℕ, ◌+◌, ◌-◌, ◌%◌, ◌≤◌, ◌<◌, max}
use native.Mathlib.Omega.{arith}
use native.Mathlib.Decide.{ℕ_discrete, dec_le, dec_lt}
use mathlib.Core.Path.{◌≡◌, refl, sym, ◌∙◌, ap}
use mathlib.Core.Logic.{inl, inr}
use mathlib.Core.Bool.{not}
use borrow.Author.Tests.{eq-eqb}
use Rattle.signals.specs.Moment.{gap, instant, is_gap, just_before, opens}
use Rattle.signals.specs.Signal.{Signal, Table, constant, NOT, connective, AND, OR, rising, falling, SR, RS, TON, TOF, TP}
use Rattle.signals.specs.Quantified.{Down, UpSR, Starts}
use Rattle.signals.specs.Settled.{SettledFrom}
use Rattle.signals.specs.Settling.{Settling}
use Rattle.signals.proofs.Truth.{bool_ext, not_both_lem, down_of}
use Rattle.signals.proofs.Agreement.{rising_up, falling_up, SR_up, SR_of, OneRS, RS_up1, RS_of1, TON_up, TON_of, TOF_up, TOF_of}
use Rattle.signals.proofs.Pulses.{starts_say, TP_up}

pub settled_later : (f : Signal) (n m : ℕ) → SettledFrom f n → n ≤ m → SettledFrom f m
settled_later f n m h le t g = h t (omega arith) ∙ sym (h (gap m) (omega arith))

pub NOT_settles : (f : Signal) (n : ℕ) → SettledFrom f n → SettledFrom (NOT f) n
unfolding NOT
NOT_settles f n h t g = ap not (h t g)

connective_settles : (table : Table) (f g : Signal) (n : ℕ) → SettledFrom f n → SettledFrom g n → SettledFrom (connective table f g) n
unfolding connective
connective_settles table f g n p q t l = rw (p t l, q t l)

AND_settles : (f g : Signal) (n : ℕ) → SettledFrom f n → SettledFrom g n → SettledFrom (AND f g) n
unfolding AND
AND_settles f g n p q t l = rw (p t l, q t l)

OR_settles : (f g : Signal) (n : ℕ) → SettledFrom f n → SettledFrom g n → SettledFrom (OR f g) n
unfolding OR
OR_settles f g n p q t l = rw (p t l, q t l)

-- an instant after gap n has the value of the gap before it
pub still_before : (f : Signal) (n t : ℕ) → SettledFrom f n → gap n ≤ t → Down (is_gap t) → f (just_before t) ≡ f t
unfolding is_gap just_before
still_before f n t h l i = go (ℕ_discrete t (gap n))
  where
    go : Dec (t ≡ gap n) → f (t - 1) ≡ f t
    go (yes e) = not_both_lem (eq-eqb (t % 2) 0 (omega arith)) i
    go (no o) = h (t - 1) (omega arith) ∙ sym (h t l)

rising_down : (f : Signal) (n t : ℕ) → SettledFrom f n → gap n ≤ t → Down (rising f t)
rising_down f n t h l =
    down_of (rising f t) (λ u. let p = rising_up f t u in not_both_lem p.1 (sym (still_before f n t h l p.0) ∙ p.2))

falling_down : (f : Signal) (n t : ℕ) → SettledFrom f n → gap n ≤ t → Down (falling f t)
falling_down f n t h l =
    down_of (falling f t) (λ u. let p = falling_up f t u in not_both_lem p.2 (still_before f n t h l p.0 ∙ p.1))

-- from the date that the length adds on, a delay gives the settled value
pub TON_late : (d : ℕ) (f : Signal) (n t : ℕ) → SettledFrom f n → gap (n + d) ≤ t → TON d f t ≡ f (gap n)
TON_late d f n t h l =
    bool_ext
    (TON d f t)
    (f (gap n))
    (λ u. sym (h t (omega arith)) ∙ (TON_up d f t u).1 t (omega arith))
    (λ u. TON_of d f t (omega arith, λ t1 i. h t1 (omega arith) ∙ u))

pub TOF_late : (d : ℕ) (f : Signal) (n t : ℕ) → SettledFrom f n → gap (n + d) ≤ t → TOF d f t ≡ f (gap n)
TOF_late d f n t h l =
    bool_ext
    (TOF d f t)
    (f (gap n))
    (λ u. let p = TOF_up d f t u in sym (h p.0 (omega arith)) ∙ p.2)
    (λ u. TOF_of d f t (t, omega arith, h t (omega arith) ∙ u))

-- a settled signal has no later rise, so its last pulse ends by the date that the length adds
TP_late : (d : ℕ) (f : Signal) (n t : ℕ) → SettledFrom f n → gap (n + d) ≤ t → Down (TP d f t)
TP_late d f n t h l = down_of (TP d f t) (λ u. let p = TP_up d f t u in omega (arith, p.3, early p.0 p.1 (dec_le p.0 n)))
  where
    early : (a : ℕ) → Starts d f a → Dec (a ≤ n) → a ≤ n
    early a s (yes b) = b
    early a s (no o) =
        let r = ((starts_say d f a).0 s).0 in
        not_both_lem r.2 (h (instant a) (omega arith) ∙ sym (h (gap (a - 1)) (omega arith)) ∙ r.1)

-- r is down as long as it was down in gap n
down_on : (r : Signal) (n m : ℕ) → SettledFrom r n → Down (r (gap n)) → (m ≤ gap n → Down (r m)) → Down (r m)
down_on r n m h d low = go (dec_le m (gap n))
  where
    go : Dec (m ≤ gap n) → Down (r m)
    go (yes l) = low l
    go (no g) = h m (omega arith) ∙ d

opens_gap : (t1 n : ℕ) → t1 < gap n → opens t1 ≤ gap n
unfolding opens
opens_gap t1 n l = omega arith

SR_forth : (s r : Signal) (n t : ℕ) → SettledFrom s n → SettledFrom r n → gap n ≤ t → UpSR s r t → UpSR s r (gap n)
SR_forth s r n t p q l (inl u) = inl (sym (p t l) ∙ u)
SR_forth s r n t p q l (inr h) = go (dec_lt h.0 (gap n))
  where
    go : Dec (h.0 < gap n) → UpSR s r (gap n)
    go (yes b) = inr (h.0, opens_gap h.0 n b, h.2, λ m i. h.3 m (omega arith))
    go (no b) = inl (sym (p h.0 (omega arith)) ∙ h.2)

SR_back : (s r : Signal) (n t : ℕ) → SettledFrom s n → SettledFrom r n → gap n ≤ t → UpSR s r (gap n) → UpSR s r t
SR_back s r n t p q l (inl u) = inl (p t l ∙ u)
SR_back s r n t p q l (inr h) =
    inr (
      h.0,
      omega (arith, h.1),
      h.2,
      λ m i. down_on r n m q (h.3 (gap n) (h.1, omega arith)) (λ le. h.3 m (i.0, le)),
    )

SR_settles : (s r : Signal) (n : ℕ) → SettledFrom s n → SettledFrom r n → SettledFrom (SR s r) n
SR_settles s r n p q t l =
    bool_ext
    (SR s r t)
    (SR s r (gap n))
    (λ u. SR_of s r (gap n) (SR_forth s r n t p q l (SR_up s r t u)))
    (λ u. SR_of s r t (SR_back s r n t p q l (SR_up s r (gap n) u)))

RS_forth : (s r : Signal) (n t : ℕ) → SettledFrom s n → SettledFrom r n → gap n ≤ t → OneRS s r t → OneRS s r (gap n)
RS_forth s r n t p q l h = go (dec_le h.0 (gap n))
  where
    go : Dec (h.0 ≤ gap n) → OneRS s r (gap n)
    go (yes b) = (h.0, b, h.2, λ m i j. h.3 m i (omega arith))
    go (no b) = (
      gap n,
      omega arith,
      sym (p h.0 (omega arith)) ∙ h.2,
      λ m i j.
          let e : m ≡ gap n = omega arith in
          rw e (sym (q t l) ∙ h.3 t h.1 (omega arith)),
    )

RS_back : (s r : Signal) (n t : ℕ) → SettledFrom s n → SettledFrom r n → gap n ≤ t → OneRS s r (gap n) → OneRS s r t
RS_back s r n t p q l h = (
  h.0,
  omega (arith, h.1),
  h.2,
  λ m i j. down_on r n m q (h.3 (gap n) h.1 (omega arith)) (λ le. h.3 m i le),
)

RS_settles : (s r : Signal) (n : ℕ) → SettledFrom s n → SettledFrom r n → SettledFrom (RS s r) n
RS_settles s r n p q t l =
    bool_ext
    (RS s r t)
    (RS s r (gap n))
    (λ u. RS_of1 s r (gap n) (RS_forth s r n t p q l (RS_up1 s r t u)))
    (λ u. RS_of1 s r t (RS_back s r n t p q l (RS_up1 s r (gap n) u)))

-- an operation of two signals that settles where both do settles at the later date
both : (o : Signal → Signal → Signal) → ((f g : Signal) (n : ℕ) → SettledFrom f n → SettledFrom g n → SettledFrom (o f g) n)
    → (f g : Signal) (n m : ℕ) → SettledFrom f n → SettledFrom g m → SettledFrom (o f g) (max n m)
both o settles f g n m p q =
    settles f g (max n m) (settled_later f n (max n m) p (omega arith)) (settled_later g m (max n m) q (omega arith))

pub settling : Settling
unfolding constant
settling =
    record {
      constants = λ v t l. refl;
      not = NOT_settles;
      tables = λ table. both (connective table) (connective_settles table);
      and = both AND AND_settles;
      or = both OR OR_settles;
      rises = λ f n h t l. rising_down f n t h l ∙ sym (rising_down f n (gap n) h (omega arith));
      falls = λ f n h t l. falling_down f n t h l ∙ sym (falling_down f n (gap n) h (omega arith));
      sr = both SR SR_settles;
      rs = both RS RS_settles;
      ton = λ d f n h t l. TON_late d f n t h l ∙ sym (TON_late d f n (gap (n + d)) h (omega arith));
      tof = λ d f n h t l. TOF_late d f n t h l ∙ sym (TOF_late d f n (gap (n + d)) h (omega arith));
      tp = λ d f n h t l. TP_late d f n t h l ∙ sym (TP_late d f n (gap (n + d)) h (omega arith));
    }
