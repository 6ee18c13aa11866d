-- Statement: Document 01, "Wrong turns": each with signals and a moment that refute it.
use Rattle.std.specs.Prelude.{ℕ, ◌≡◌, true, false, [], ◌∷◌}
use Rattle.signals.specs.Moment.{gap, instant, opens}
use Rattle.signals.specs.Signal.{Signal, constant, NOT, AND, OR, rising, SR, RS, TON, TOF}
use Rattle.signals.specs.Quantified.{Up, Down}
use Rattle.signals.specs.Words.{signal_of}
use Rattle.signals.specs.Starred.{e, l}

-- two definitions of one operation's signal differ at t: the right one is up and the wrong one down, or the other way round
abbrev pub Lost : Signal → Signal → ℕ → Type 0
Lost right wrong t = Up (right t) × Down (wrong t)

abbrev pub Invented : Signal → Signal → ℕ → Type 0
Invented right wrong t = Down (right t) × Up (wrong t)

-- "SR taken as s+RS loses SR(e,e)."
abbrev pub SrAsSetOrRs : Type 0
SrAsSetOrRs = (s r : Signal) (t : ℕ) → SR s r t ≡ OR s (RS s r) t

-- "SR(s,r) with r cut by !s differs after a gap where both were up." Either latch with the reset so cut.
abbrev pub SrWithResetCut : Type 0
SrWithResetCut = (s r : Signal) (t : ℕ) → SR s r t ≡ SR s (AND r (NOT s)) t

abbrev pub SrAsRsWithResetCut : Type 0
SrAsRsWithResetCut = (s r : Signal) (t : ℕ) → SR s r t ≡ RS s (AND r (NOT s)) t

-- up in gap 5 only
abbrev pub only_gap : Signal
only_gap = signal_of (0 ∷ 21 ∷ 24 ∷ [])

-- "The copy's line SR(s,r)=RS(s.!r,r) is false at s=r=1."
abbrev pub CopysLine : Type 0
CopysLine = (s r : Signal) (t : ℕ) → SR s r t ≡ RS (AND s (NOT r)) r t

-- "The delay complement without TON(d,1) is false before d." Both complement lines.
abbrev pub TonComplementAlone : Type 0
TonComplementAlone = (d : ℕ) (f : Signal) (t : ℕ) → NOT (TON d f) t ≡ TOF d (NOT f) t

abbrev pub TofComplementAlone : Type 0
TofComplementAlone = (d : ℕ) (f : Signal) (t : ℕ) → NOT (TOF d f) t ≡ TON d (NOT f) t

-- "Giving an instant the value of the gap after it sees a rise in l."
unfoldable pub instants_as_gaps_after : Signal → Signal
instants_as_gaps_after f t = f (opens t)

abbrev pub RisesSeenSo : Type 0
RisesSeenSo = (f : Signal) (t : ℕ) → rising f t ≡ rising (instants_as_gaps_after f) t

abbrev pub zero : Signal
zero = constant false

abbrev pub one : Signal
one = constant true

pub record WrongTurns : Type 0 where
  -- after 5, SR(e,e) is up
  pub sr_as_set_or_rs : Lost (SR e e) (OR e (RS e e)) (gap 5) × (SrAsSetOrRs → ⊥)
  -- at 6, after gap 5 where both were up, SR is down
  pub sr_with_reset_cut : Invented (SR only_gap only_gap) (SR only_gap (AND only_gap (NOT only_gap))) (instant 6) × (SrWithResetCut → ⊥)
  pub sr_as_rs_with_reset_cut : Invented (SR only_gap only_gap) (RS only_gap (AND only_gap (NOT only_gap))) (instant 6) ×
      (SrAsRsWithResetCut → ⊥)
  -- from the start, SR(1,1) is up
  pub copys_line : Lost (SR one one) (RS (AND one (NOT one)) one) (gap 0) × (CopysLine → ⊥)
  -- in gap 2, before 3
  pub ton_complement_alone : Lost (NOT (TON 3 one)) (TOF 3 (NOT one)) (gap 2) × (TonComplementAlone → ⊥)
  pub tof_complement_alone : Lost (NOT (TOF 3 zero)) (TON 3 (NOT zero)) (gap 2) × (TofComplementAlone → ⊥)
  -- l is not up at 5
  pub rises_seen_so : Invented (rising l) (rising (instants_as_gaps_after l)) (instant 5) × (RisesSeenSo → ⊥)
