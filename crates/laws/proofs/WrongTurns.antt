-- The wrong turns proved wrong, by computing both sides at the moment.
use mathlib.Core.Path.{◌≡◌, refl, sym, ◌∙◌}
use mathlib.Core.Bool.{Bool}
use Rattle.signals.specs.Moment.{gap, instant, is_gap, just_before, opens, in_open, in_closed, started, from_to}
use Rattle.signals.specs.Signal.{constant, NOT, AND, OR, some, every, rising, SR, RS, TON, TOF}
use Rattle.signals.specs.Words.{date_of, value_at, value_after, head_value, value_from, signal_of}
use Rattle.signals.specs.Quantified.{Up, Down}
use Rattle.signals.specs.Starred.{e, l}
use Rattle.signals.proofs.Truth.{not_both_lem}
use Rattle.laws.specs.WrongTurns.{Lost, Invented, only_gap, instants_as_gaps_after, zero, one, WrongTurns}

-- up is not down
lost_differ : {a b : Bool} → Up a × Down b → a ≡ b → ⊥
lost_differ x q = not_both_lem x.0 (q ∙ x.1)

invented_differ : {a b : Bool} → Down a × Up b → a ≡ b → ⊥
invented_differ x q = not_both_lem x.1 (sym q ∙ x.0)

set_or_rs : Lost (SR e e) (OR e (RS e e)) (gap 5)
unfolding OR SR RS some every opens in_open in_closed signal_of value_from head_value date_of value_at value_after
set_or_rs = (refl, refl)

sr_cut : Invented (SR only_gap only_gap) (SR only_gap (AND only_gap (NOT only_gap))) (instant 6)
unfolding AND NOT SR some every opens in_open signal_of value_from head_value date_of value_at value_after
sr_cut = (refl, refl)

rs_cut : Invented (SR only_gap only_gap) (RS only_gap (AND only_gap (NOT only_gap))) (instant 6)
unfolding AND NOT SR RS some every opens in_open in_closed signal_of value_from head_value date_of value_at value_after
rs_cut = (refl, refl)

copy : Lost (SR one one) (RS (AND one (NOT one)) one) (gap 0)
unfolding constant AND NOT SR RS some every opens in_open in_closed
copy = (refl, refl)

ton_alone : Lost (NOT (TON 3 one)) (TOF 3 (NOT one)) (gap 2)
unfolding constant NOT TON TOF some every started from_to
ton_alone = (refl, refl)

tof_alone : Lost (NOT (TOF 3 zero)) (TON 3 (NOT zero)) (gap 2)
unfolding constant NOT TON TOF some every started from_to
tof_alone = (refl, refl)

rise_seen : Invented (rising l) (rising (instants_as_gaps_after l)) (instant 5)
unfolding rising instants_as_gaps_after is_gap just_before opens signal_of value_from head_value date_of value_at value_after
rise_seen = (refl, refl)

pub wrong_turns : WrongTurns
wrong_turns =
    record {
      sr_as_set_or_rs = (set_or_rs, λ claim. lost_differ set_or_rs (claim e e (gap 5)));
      sr_with_reset_cut = (sr_cut, λ claim. invented_differ sr_cut (claim only_gap only_gap (instant 6)));
      sr_as_rs_with_reset_cut = (rs_cut, λ claim. invented_differ rs_cut (claim only_gap only_gap (instant 6)));
      copys_line = (copy, λ claim. lost_differ copy (claim one one (gap 0)));
      ton_complement_alone = (ton_alone, λ claim. lost_differ ton_alone (claim 3 one (gap 2)));
      tof_complement_alone = (tof_alone, λ claim. lost_differ tof_alone (claim 3 zero (gap 2)));
      rises_seen_so = (rise_seen, λ claim. invented_differ rise_seen (claim l (instant 5)));
    }
