-- Cases of TP: each settles at a small date, up to which its list computes.
use Prim.Native.Nat.{ℕ, ◌+◌}
use mathlib.Core.Path.{◌≡◌, refl}
use mathlib.Core.List.{List, [], ◌∷◌}
use Rattle.signals.specs.Moment.{is_gap, just_before, tick}
use Rattle.signals.specs.Signal.{constant, rising, running, starts, TP}
use Rattle.signals.specs.Words.{word, date_of, value_at, value_after, head_value, changes_nothing, words_fault, list_fault, value_from}
use Rattle.signals.specs.Words.{signal_of, last_from, last_date, words_of, list_of}
use Rattle.signals.specs.Starred.{Gives, f_list, e_list, l_list, one}
use Rattle.signals.specs.PulseCases.{PulseCases}
use Rattle.signals.proofs.Normal.{accepted_settled}
use Rattle.signals.proofs.Settling.{settling}
use Rattle.signals.proofs.Starred.{gives}

-- TP of an accepted list, which settles by the list's last date and the length
of_list : (d : ℕ) (l : List ℕ) (h : ℕ) (ws : List ℕ) → list_fault l ≡ 0 → list_of (TP d (signal_of l)) (last_date l + d) ≡ h ∷ ws
    → list_fault (h ∷ ws) ≡ 0 → Gives (TP d (signal_of l)) (h ∷ ws)
of_list d l h ws accepted =
    gives (TP d (signal_of l)) (last_date l + d) h ws (settling.tp d (signal_of l) (last_date l) (accepted_settled l accepted))

pub pulse_cases : PulseCases
unfolding list_of words_of word signal_of value_from list_fault words_fault changes_nothing value_at value_after head_value date_of
    last_date last_from
    TP running starts tick rising is_gap just_before constant
pulse_cases =
    record {
      rise = of_list 3 f_list 0 (23 ∷ 32 ∷ []) refl refl refl;
      longer = of_list 10 f_list 0 (23 ∷ 60 ∷ []) refl refl refl;
      length_zero = of_list 0 f_list 0 [] refl refl refl;
      up_from_start = gives (TP 3 one) 3 0 [] (settling.tp 3 one 0 (settling.constants _)) refl refl;
      up_then_rise = of_list 3 (1 ∷ 8 ∷ 23 ∷ []) 0 (23 ∷ 32 ∷ []) refl refl refl;
      lone_instant = of_list 3 e_list 0 (23 ∷ 32 ∷ []) refl refl refl;
      after_instant = of_list 3 l_list 0 [] refl refl refl;
      down_at_instant = of_list 3 (1 ∷ 21 ∷ []) 0 [] refl refl refl;
      first_instant = of_list 3 (0 ∷ 7 ∷ []) 0 (7 ∷ 16 ∷ []) refl refl refl;
      before = of_list 3 (0 ∷ 23 ∷ 24 ∷ 31 ∷ 36 ∷ []) 0 (23 ∷ 32 ∷ []) refl refl refl;
      exactly = of_list 3 (0 ∷ 23 ∷ 24 ∷ 35 ∷ 36 ∷ []) 0 (23 ∷ 44 ∷ []) refl refl refl;
      exactly_one = of_list 1 (0 ∷ 6 ∷ 10 ∷ []) 0 (7 ∷ 12 ∷ []) refl refl refl;
      after = of_list 3 (0 ∷ 23 ∷ 24 ∷ 39 ∷ 40 ∷ []) 0 (23 ∷ 32 ∷ 39 ∷ 48 ∷ []) refl refl refl;
      within = of_list 3 (0 ∷ 22 ∷ 26 ∷ 30 ∷ []) 0 (23 ∷ 32 ∷ []) refl refl refl;
      within_then_end = of_list 3 (0 ∷ 22 ∷ 26 ∷ 30 ∷ 34 ∷ []) 0 (23 ∷ 44 ∷ []) refl refl refl;
    }
