-- Statement: Document 01, "Checked by hand": the starred cases, in one joint statement.
use Rattle.std.specs.Prelude.{ℕ, ◌≤◌, ◌<◌, ◌≡◌, ◌↔◌, true, List, [], ◌∷◌}
use Rattle.signals.specs.Signal.{Signal, constant, rising, falling, SR, RS, TON, TOF}
use Rattle.signals.specs.Words.{list_fault, signal_of, last_date, list_of}
use Rattle.signals.specs.Moment.{gap, instant}
use Rattle.signals.specs.Quantified.{Up}
use Rattle.signals.specs.Settled.{Same}

-- s has the accepted list l, which denotes it at every moment, and which is its normal list up to every date from l's last on
pub record Gives (s : Signal) (l : List ℕ) : Type 0 where
  pub accepted : list_fault l ≡ 0
  pub denotes : Same (signal_of l) s
  pub listed : (n : ℕ) → last_date l ≤ n → list_of s n ≡ l

-- f = [0,23,36] (up from 5, down from 9); e = [0,22] (up at 5 only); l = [0,21] (up after 5); 1 is up at every moment
abbrev pub f_list : List ℕ
f_list = 0 ∷ 23 ∷ 36 ∷ []

abbrev pub e_list : List ℕ
e_list = 0 ∷ 22 ∷ []

abbrev pub l_list : List ℕ
l_list = 0 ∷ 21 ∷ []

abbrev pub f : Signal
f = signal_of f_list

abbrev pub e : Signal
e = signal_of e_list

abbrev pub l : Signal
l = signal_of l_list

abbrev pub one : Signal
one = constant true

pub record Starred : Type 0 where
  pub f_reads : (t : ℕ) → Up (f t) ↔ (instant 5 ≤ t) × (t < instant 9)
  pub e_reads : (t : ℕ) → Up (e t) ↔ t ≡ instant 5
  pub l_reads : (t : ℕ) → Up (l t) ↔ gap 5 ≤ t
  -- TON(3,f)=[0,35,36]; TON(4,f)=[0]; TOF(2,f)=[0,23,44]; TOF(2,e)=[0,23,30]; TON(0,e)=e; TON(3,1)=[0,15]
  pub ton3f : Gives (TON 3 f) (0 ∷ 35 ∷ 36 ∷ [])
  pub ton4f : Gives (TON 4 f) (0 ∷ [])
  pub tof2f : Gives (TOF 2 f) (0 ∷ 23 ∷ 44 ∷ [])
  pub tof2e : Gives (TOF 2 e) (0 ∷ 23 ∷ 30 ∷ [])
  pub ton0e : Gives (TON 0 e) e_list
  pub ton3one : Gives (TON 3 one) (0 ∷ 15 ∷ [])
  -- ^f=[0,22]; ^l=[0]; ~e=[0]; SR(e,e)=[0,23]; RS(e,e)=[0]; SR(f,f)=f
  pub rising_f : Gives (rising f) (0 ∷ 22 ∷ [])
  pub rising_l : Gives (rising l) (0 ∷ [])
  pub falling_e : Gives (falling e) (0 ∷ [])
  pub sr_ee : Gives (SR e e) (0 ∷ 23 ∷ [])
  pub rs_ee : Gives (RS e e) (0 ∷ [])
  pub sr_ff : Gives (SR f f) f_list
