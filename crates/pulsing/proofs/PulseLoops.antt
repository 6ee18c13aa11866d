-- The loops of the pulse timer: a word of the list is passed, as the reader tells it, and those left lead where all lead from the first.
use Prim.Native.Nat.{ℕ, ◌+◌, ◌-◌, ◌<◌}
use mathlib.Core.Path.{◌≡◌, sym, ◌∙◌, ap, subst}
use mathlib.Core.List.{List, ◌++◌}
use lib.ListN.{length, take, drop}
use Rattle.signals.specs.Passing.{held_value}
use Rattle.reading.specs.Reading.{NEVER}
use Rattle.building.specs.declared.Made.{Made}
use Rattle.sources.specs.Sources.{start_of, past_on, list_at, slot_in}
use Rattle.sources.specs.declared.Cursor.{Cursor}
use Rattle.sources.specs.declared.Passed.{Passed}
use Rattle.sources.specs.declared.Source.{Source}
use Rattle.sources.proofs.Readers.{Reading, start_passed}
use Rattle.lent_slots.specs.Lent.{through}
use Rattle.lent_slots.proofs.LentRuns.{Placed, leads_on, Running, running_first, running_list, running_turn}
use Rattle.lent_slots.proofs.WordReaders.{word_left, word_passed, word_on}
use Rattle.pulsing.specs.Turns.{State, pulse_of, past_date, state_of, past_word}
use Rattle.pulsing.proofs.PulseWords.{word_past}

module _ (d : ℕ) (l : List ℕ) where
  -- the state past so many words
  abbrev pub at : ℕ → ℕ → Made → List ℕ → State
  at passed due made slot = state_of (held_value l passed) due made slot

  abbrev pub Leads : State → ℕ → State → Type 0
  Leads start passed s = through (past_word d) (drop passed l) s ≡ through (past_word d) (drop 1 l) start

  -- of a slice
  pub leads_first : (x : Cursor) → x ≡ start_of l → (due : ℕ) (made : Made) (slot : List ℕ)
      → Leads (at 1 due made slot) x.passed (at x.passed due made slot)
  leads_first x e due made slot = ap (λ (n : ℕ). through (past_word d) (drop n l) (at n due made slot)) (start_passed l x e)

  pub leads_next : (x : Cursor) (g : Reading l x) (early : x.date < NEVER) (u : Passed) (e : u ≡ past_on l x x.date) (start : State)
      (due : ℕ) (made : Made) (slot : List ℕ) → Leads start x.passed (at x.passed due made slot)
      → (due' : ℕ) (made' : Made) (slot' : List ℕ)
      → pulse_of due' made' slot' ≡ past_date d u.step.before u.step.at x.date (pulse_of due made slot)
      → Leads start u.next.passed (at u.next.passed due' made' slot')
  leads_next x g early u e start due made slot leads due' made' slot' q =
      ap (λ (n : ℕ). through (past_word d) (drop n l) (at u.next.passed due' made' slot')) (word_passed l x g early u e)
      ∙ leads_on (past_word d) l x.passed (at x.passed due made slot) start leads (word_left l x g early).0 _
      (word_past d l x g early u e due made slot due' made' slot' q)

-- of a list where it stands, while the slot is lent
module _ (d : ℕ) (sheet left right old : List ℕ) (f : Source) (place room : ℕ) (p : Placed sheet left right old f place room) where
  abbrev pub list : List ℕ
  list = list_at sheet left right old f

  abbrev pub Runs : State → List ℕ → Cursor → ℕ → Made → Type 0
  Runs start work x due made = Running (past_word d) list old place room start work x.passed (at d list x.passed due made)

  pub runs_first : (x : Cursor) → x ≡ start_of list → (due : ℕ) (made : Made)
      → Runs (at d list 1 due made (slot_in old place room)) old x due made
  runs_first x e due made =
      subst
      (λ (n : ℕ). Running (past_word d) list old place room (at d list 1 due made (slot_in old place room)) old n (at d list n due made))
      (sym (start_passed list x e))
      (running_first (past_word d) sheet left right old f place room p (at d list 1 due made))

  module _ (start : State) (work : List ℕ) (x : Cursor) (due : ℕ) (made : Made) (r : Runs start work x due made)
      (g : Reading list x) (early : x.date < NEVER) (u : Passed) (e : u ≡ past_on (list_at sheet left right work f) x x.date)
    where
      read : u ≡ past_on list x x.date
      read =
          e ∙ ap (λ (l : List ℕ). past_on l x x.date)
          (running_list (past_word d) sheet left right old f place room p start work x.passed (at d list x.passed due made) r)

      pub past_one : u.next.passed ≡ x.passed + 1
      past_one = word_passed list x g early u read

      pub runs_next : (part : List ℕ) → length part ≡ length (take (place + room - place) (drop place work))
          → (due' : ℕ) (made' : Made)
          → pulse_of due' made' part
          ≡ past_date d u.step.before u.step.at x.date (pulse_of due made (take (place + room - place) (drop place work)))
          → Reading list u.next
          × Runs start (take place work ++ (part ++ drop (place + room - place) (drop place work))) u.next due' made'
      runs_next part full due' made' q = (
        word_on list x g early u read,
        subst
            (λ (n : ℕ). Running (past_word d) list old place room start
            (take place work ++ (part ++ drop (place + room - place) (drop place work))) n (at d list u.next.passed due' made'))
            (sym past_one)
            (running_turn (past_word d) sheet left right old f place room p start work x.passed (at d list x.passed due made) r part
            full (word_left list x g early).0 (at d list u.next.passed due' made')
            (word_past d list x g early u read due made _ due' made' part q)),
      )
