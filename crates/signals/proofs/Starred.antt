-- The starred cases: each operation settles at a small date, up to which its list computes.
use Prim.Native.Nat.{ℕ, ◌≤◌, ◌<◌}
use native.Mathlib.Omega.{arith}
use mathlib.Core.Path.{◌≡◌, refl, sym, ◌∙◌, ap}
use mathlib.Core.Logic.{◌↔◌, ◌≢◌}
use mathlib.Core.Bool.{Bool, true, false, cond, false≢true}
use lib.Dec.{ltb, eqb}
use borrow.Author.Tests.{ltb-true, ltb-false, eqb-true, eqb-false}
use mathlib.Core.List.{List, [], ◌∷◌}
use Rattle.signals.specs.Moment.{is_gap, just_before, opens, in_open, in_closed, started, from_to}
use Rattle.signals.specs.Signal.{Signal, constant, some, every, rising, falling, SR, RS, TON, TOF}
use Rattle.signals.specs.Words.{word, date_of, value_at, value_after, head_value, changes_nothing, words_fault, list_fault, value_from}
use Rattle.signals.specs.Words.{signal_of, last_from, last_date, words_of, list_of}
use Rattle.signals.specs.Quantified.{Up}
use Rattle.signals.specs.Settled.{SettledFrom, Same}
use Rattle.signals.specs.Starred.{Gives, Starred, f_list, e_list, l_list, f, e, l, one}
use Rattle.signals.proofs.Scan.{list_of_ext}
use Rattle.signals.proofs.Normal.{read_list, accepted_normal, accepted_settled, list_of_signal}
use Rattle.signals.proofs.Settling.{settling}

-- a signal that settles at n, whose list up to n is an accepted one
pub gives : (s : Signal) (n h : ℕ) (ws : List ℕ) → SettledFrom s n → list_of s n ≡ h ∷ ws → list_fault (h ∷ ws) ≡ 0 → Gives s (h ∷ ws)
unfolding last_date
gives s n h ws settled listed accepted = record { accepted = accepted; denotes = denotes; listed = at_every }
  where
    denotes : Same (signal_of (h ∷ ws)) s
    denotes t = ap (λ (m : List ℕ). signal_of m t) (sym listed) ∙ (list_of_signal s n settled).denotes t

    at_every : (m : ℕ) → last_from 0 ws ≤ m → list_of s m ≡ h ∷ ws
    at_every m late =
        list_of_ext s (signal_of (h ∷ ws)) m (λ t. sym (denotes t))
        ∙ read_list h ws m ((accepted_normal (h ∷ ws)).0 accepted).0 late

-- the three signals, read as the document does
f_reads : (t : ℕ) → Up (f t) ↔ (9 ≤ t) × (t < 17)
unfolding signal_of value_from head_value date_of value_at value_after
f_reads t = go (ltb t 9) (eqb t 9) (ltb t 17) (eqb t 17) refl refl refl refl
  where
    go : (a b c d : Bool) → ltb t 9 ≡ a → eqb t 9 ≡ b → ltb t 17 ≡ c → eqb t 17 ≡ d →
        Up (cond a false (cond b true (cond c true (cond d false false)))) ↔ (9 ≤ t) × (t < 17)
    go true b c d p q x y = (λ u. absurd (false≢true u), λ h. absurd (omega (arith, ltb-true t 9 p)))
    go false true c d p q x y = (λ u. omega (arith, eqb-true t 9 q), λ h. refl)
    go false false true d p q x y = (λ u. omega (arith, ltb-false t 9 p, ltb-true t 17 x), λ h. refl)
    go false false false true p q x y = (λ u. absurd (false≢true u), λ h. absurd (omega (arith, ltb-false t 17 x)))
    go false false false false p q x y = (λ u. absurd (false≢true u), λ h. absurd (omega (arith, ltb-false t 17 x)))

e_reads : (t : ℕ) → Up (e t) ↔ t ≡ 9
unfolding signal_of value_from head_value date_of value_at value_after
e_reads t = go (ltb t 9) (eqb t 9) refl refl
  where
    go : (a b : Bool) → ltb t 9 ≡ a → eqb t 9 ≡ b → Up (cond a false (cond b true false)) ↔ t ≡ 9
    go true b p q = (λ u. absurd (false≢true u), λ h. absurd (omega (arith, ltb-true t 9 p)))
    go false true p q = (λ u. eqb-true t 9 q, λ h. refl)
    go false false p q = (λ u. absurd (false≢true u), λ h. absurd (eqb-false t 9 q h))

l_reads : (t : ℕ) → Up (l t) ↔ 10 ≤ t
unfolding signal_of value_from head_value date_of value_at value_after
l_reads t = go (ltb t 9) (eqb t 9) refl refl
  where
    go : (a b : Bool) → ltb t 9 ≡ a → eqb t 9 ≡ b → Up (cond a false (cond b false true)) ↔ 10 ≤ t
    go true b p q = (λ u. absurd (false≢true u), λ h. absurd (omega (arith, ltb-true t 9 p)))
    go false true p q = (λ u. absurd (false≢true u), λ h. absurd (omega (arith, eqb-true t 9 q)))
    go false false p q = (λ u. let n : t ≢ 9 = eqb-false t 9 q in omega (arith, ltb-false t 9 p), λ h. refl)

f_settled : SettledFrom f 9
unfolding list_fault words_fault changes_nothing value_at value_after head_value date_of last_date last_from
f_settled = accepted_settled f_list refl

e_settled : SettledFrom e 5
unfolding list_fault words_fault changes_nothing value_at value_after head_value date_of last_date last_from
e_settled = accepted_settled e_list refl

l_settled : SettledFrom l 5
unfolding list_fault words_fault changes_nothing value_at value_after head_value date_of last_date last_from
l_settled = accepted_settled l_list refl

ton3f : Gives (TON 3 f) (0 ∷ 35 ∷ 36 ∷ [])
unfolding list_of words_of word signal_of value_from list_fault words_fault changes_nothing value_at value_after head_value date_of TON
    every started
    from_to
ton3f = gives (TON 3 f) 12 0 (35 ∷ 36 ∷ []) (settling.ton 3 f 9 f_settled) refl refl

ton4f : Gives (TON 4 f) (0 ∷ [])
unfolding list_of words_of word signal_of value_from list_fault words_fault changes_nothing value_at value_after head_value date_of TON
    every started
    from_to
ton4f = gives (TON 4 f) 13 0 [] (settling.ton 4 f 9 f_settled) refl refl

tof2f : Gives (TOF 2 f) (0 ∷ 23 ∷ 44 ∷ [])
unfolding list_of words_of word signal_of value_from list_fault words_fault changes_nothing value_at value_after head_value date_of TOF
    some from_to
tof2f = gives (TOF 2 f) 11 0 (23 ∷ 44 ∷ []) (settling.tof 2 f 9 f_settled) refl refl

tof2e : Gives (TOF 2 e) (0 ∷ 23 ∷ 30 ∷ [])
unfolding list_of words_of word signal_of value_from list_fault words_fault changes_nothing value_at value_after head_value date_of TOF
    some from_to
tof2e = gives (TOF 2 e) 7 0 (23 ∷ 30 ∷ []) (settling.tof 2 e 5 e_settled) refl refl

ton0e : Gives (TON 0 e) (0 ∷ 22 ∷ [])
unfolding list_of words_of word signal_of value_from list_fault words_fault changes_nothing value_at value_after head_value date_of TON
    every started
    from_to
ton0e = gives (TON 0 e) 5 0 (22 ∷ []) (settling.ton 0 e 5 e_settled) refl refl

ton3one : Gives (TON 3 one) (0 ∷ 15 ∷ [])
unfolding list_of words_of word signal_of value_from list_fault words_fault changes_nothing value_at value_after head_value date_of TON
    every started
    from_to constant
ton3one = gives (TON 3 one) 3 0 (15 ∷ []) (settling.ton 3 one 0 (settling.constants true)) refl refl

rising_f : Gives (rising f) (0 ∷ 22 ∷ [])
unfolding list_of words_of word signal_of value_from list_fault words_fault changes_nothing value_at value_after head_value date_of
    rising is_gap
    just_before
rising_f = gives (rising f) 9 0 (22 ∷ []) (settling.rises f 9 f_settled) refl refl

rising_l : Gives (rising l) (0 ∷ [])
unfolding list_of words_of word signal_of value_from list_fault words_fault changes_nothing value_at value_after head_value date_of
    rising is_gap
    just_before
rising_l = gives (rising l) 5 0 [] (settling.rises l 5 l_settled) refl refl

falling_e : Gives (falling e) (0 ∷ [])
unfolding list_of words_of word signal_of value_from list_fault words_fault changes_nothing value_at value_after head_value date_of
    falling is_gap
    just_before
falling_e = gives (falling e) 5 0 [] (settling.falls e 5 e_settled) refl refl

sr_ee : Gives (SR e e) (0 ∷ 23 ∷ [])
unfolding list_of words_of word signal_of value_from list_fault words_fault changes_nothing value_at value_after head_value date_of SR
    some every opens
    in_open
sr_ee = gives (SR e e) 5 0 (23 ∷ []) (settling.sr e e 5 5 e_settled e_settled) refl refl

rs_ee : Gives (RS e e) (0 ∷ [])
unfolding list_of words_of word signal_of value_from list_fault words_fault changes_nothing value_at value_after head_value date_of RS
    some every opens
    in_closed
rs_ee = gives (RS e e) 5 0 [] (settling.rs e e 5 5 e_settled e_settled) refl refl

sr_ff : Gives (SR f f) (0 ∷ 23 ∷ 36 ∷ [])
unfolding list_of words_of word signal_of value_from list_fault words_fault changes_nothing value_at value_after head_value date_of SR
    some every opens
    in_open
sr_ff = gives (SR f f) 9 0 (23 ∷ 36 ∷ []) (settling.sr f f 9 9 f_settled f_settled) refl refl

pub starred : Starred
starred =
    record {
      f_reads = f_reads;
      e_reads = e_reads;
      l_reads = l_reads;
      ton3f = ton3f;
      ton4f = ton4f;
      tof2f = tof2f;
      tof2e = tof2e;
      ton0e = ton0e;
      ton3one = ton3one;
      rising_f = rising_f;
      rising_l = rising_l;
      falling_e = falling_e;
      sr_ee = sr_ee;
      rs_ee = rs_ee;
      sr_ff = sr_ff;
    }
