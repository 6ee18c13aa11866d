-- Mirrored: Going along a list's words, the words of its stretches put into an output where they fit. Tied to what is believed by the
-- contract of `uptime`.
use Rattle.std.specs.Prelude.{ℕ, ◌+◌, ◌-◌, ◌≤◌, ◌≡◌, Bool, cond, List, ◌++◌, leb, ltb, length, drop, set}
use Rattle.signals.specs.Words.{signal_of}
use Rattle.signals.specs.Answers.{output_of}
use Rattle.stretches.specs.Stretches.{stretches_before, sum_of_ticks, stretch_words}
use Rattle.stretches.specs.Calls.{up_time_for}
use Rattle.stretches.specs.declared.UpTime.{UpTime}
use Rattle.uptimes.specs.declared.Going.{Going}

-- on the way, with what the output holds
pub record State : Type 0 where
  pub from : ℕ
  pub count : ℕ
  pub total : ℕ
  pub out : List ℕ

abbrev pub state_of : Going → List ℕ → State
state_of going out = record { from = going.from.0; count = going.«count»; total = going.total; out = out }

-- no sum of a going-on passes 2^32: the stretches so far lie before the gap since which the value is held, and have few words
abbrev pub CanGoOn : Going → Type 0
CanGoOn going = (going.total ≤ going.from.0) × (going.«count» ≤ 1024)

-- two words at a place of an output, where both fit
unfoldable pub put_two : List ℕ → ℕ → ℕ → ℕ → List ℕ
put_two out at a b = cond (ltb (at + 1) (length out)) (set (set out at a) (at + 1) b) out

-- the stretch under way ends before a gap
unfoldable pub ended : ℕ → State → State
ended end s =
    cond (ltb s.from end)
    (record {
      from = end;
      count = s.count + 2;
      total = s.total + (end - s.from);
      out = put_two s.out s.count s.from (end - s.from);
    })
    s

-- past a word of this date, with the values before it and after it
unfoldable pub past_word : ℕ → Bool → Bool → State → State
past_word date before after s =
    cond before (cond after s (ended date s)) (record { from = date; count = s.count; total = s.total; out = s.out })

-- the stretches of a list before H: the number of their words, their ticks, and the output where they fit
abbrev pub FoundIn : List ℕ → ℕ → ℕ → ℕ → List ℕ → List ℕ → Type 0
FoundIn l H count total out after =
    let ss = stretches_before (signal_of l) H in
    (count ≡ length (stretch_words ss))
    × (total ≡ sum_of_ticks ss)
    × (length (stretch_words ss) ≤ length out → after ≡ stretch_words ss ++ drop (length (stretch_words ss)) out)

-- they fit an output of so many words
unfoldable pub fits_in : List ℕ → ℕ → ℕ → Bool
fits_in l H room = leb (length (stretch_words (stretches_before (signal_of l) H))) room

-- the answer of a list's up-time, 7 where the output is too short
abbrev pub TellsUpTime : List ℕ → ℕ → List ℕ → UpTime → List ℕ → Type 0
TellsUpTime l H out answer after =
    let ss = stretches_before (signal_of l) H in
    let fault : ℕ = cond (ltb (length out) (length (stretch_words ss))) 7 0 in
    (answer ≡ up_time_for fault (length (stretch_words ss)) (sum_of_ticks ss)) × (after ≡ output_of fault (stretch_words ss) out)
