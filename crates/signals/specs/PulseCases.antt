-- Statement: Cases of TP, computed from its definition, in one joint statement.
use Rattle.std.specs.Prelude.{[], ◌∷◌}
use Rattle.signals.specs.Signal.{TP}
use Rattle.signals.specs.Words.{signal_of}
use Rattle.signals.specs.Starred.{Gives, f, e, l, one}

pub record PulseCases : Type 0 where
  -- f rises at 5: TP(3,f)=[0,23,32], TP(10,f)=[0,23,60]
  pub rise : Gives (TP 3 f) (0 ∷ 23 ∷ 32 ∷ [])
  pub longer : Gives (TP 10 f) (0 ∷ 23 ∷ 60 ∷ [])
  -- d = 0: TP(0,f)=[0]
  pub length_zero : Gives (TP 0 f) (0 ∷ [])
  -- being up from the start is no rise: TP(3,1)=[0]; down from 2 and up from 5, the rise is at 5
  pub up_from_start : Gives (TP 3 one) (0 ∷ [])
  pub up_then_rise : Gives (TP 3 (signal_of (1 ∷ 8 ∷ 23 ∷ []))) (0 ∷ 23 ∷ 32 ∷ [])
  -- a lone instant is a rise: TP(3,e)=[0,23,32]; up after 5 is none: TP(3,l)=[0]
  pub lone_instant : Gives (TP 3 e) (0 ∷ 23 ∷ 32 ∷ [])
  pub after_instant : Gives (TP 3 l) (0 ∷ [])
  -- nor is coming back up after a lone instant down; a rise may be at instant 1
  pub down_at_instant : Gives (TP 3 (signal_of (1 ∷ 21 ∷ []))) (0 ∷ [])
  pub first_instant : Gives (TP 3 (signal_of (0 ∷ 7 ∷ []))) (0 ∷ 7 ∷ 16 ∷ [])
  -- rises at 5 and 7, before a+d: one pulse, down at 8
  pub before : Gives (TP 3 (signal_of (0 ∷ 23 ∷ 24 ∷ 31 ∷ 36 ∷ []))) (0 ∷ 23 ∷ 32 ∷ [])
  -- rises at 5 and 8, a+d exactly: one stretch, 5 to 11, with no word at 8
  pub exactly : Gives (TP 3 (signal_of (0 ∷ 23 ∷ 24 ∷ 35 ∷ 36 ∷ []))) (0 ∷ 23 ∷ 44 ∷ [])
  pub exactly_one : Gives (TP 1 (signal_of (0 ∷ 6 ∷ 10 ∷ []))) (0 ∷ 7 ∷ 12 ∷ [])
  -- rises at 5 and 9, after a+d: two pulses
  pub after : Gives (TP 3 (signal_of (0 ∷ 23 ∷ 24 ∷ 39 ∷ 40 ∷ []))) (0 ∷ 23 ∷ 32 ∷ 39 ∷ 48 ∷ [])
  -- two rises within one pulse, lone instants 6 and 7, do not move its end; that at 8 starts the next
  pub within : Gives (TP 3 (signal_of (0 ∷ 22 ∷ 26 ∷ 30 ∷ []))) (0 ∷ 23 ∷ 32 ∷ [])
  pub within_then_end : Gives (TP 3 (signal_of (0 ∷ 22 ∷ 26 ∷ 30 ∷ 34 ∷ []))) (0 ∷ 23 ∷ 44 ∷ [])
