-- What the code makes of a word and of the words left, from the values that it works out.
use Prim.Native.Nat.{ℕ, ◌+◌, ◌≤◌, ◌<◌}
use native.Mathlib.Numerals.{add-one}
use mathlib.Core.Path.{◌≡◌, sym, ◌∙◌, ap}
use mathlib.Core.Bool.{Bool, true, false}
use mathlib.Core.List.{List, ◌∷◌}
use lib.ListN.{length, drop, get_or, drop_of_length-le}
use lib.Seq.{drop-cons}
use Rattle.signals.specs.Words.{date_of, value_at, value_after}
use Rattle.signals.specs.Passing.{held_value}
use Rattle.reading.specs.Reading.{NEVER}
use Rattle.building.specs.Building.{Begins, Emits}
use Rattle.building.specs.declared.Made.{Made}
use Rattle.timing.specs.Delay.{timer_next, first_timer, on_level}
use Rattle.timing.specs.declared.Timer.{Timer}
use Rattle.delaying.specs.Turns.{State, state_of, settled, followed, past_word, past_words, state_with, first_state}

-- past a date
follows : (level : Bool) (d : ℕ) (s : State) (date : ℕ) (at after a b : Bool) (s1 s2 : Timer) (x y : Bool) (made : Made) (slot : List ℕ)
    → a ≡ on_level level at → s1 ≡ timer_next s.timer d date true a → b ≡ on_level level after → s2 ≡ timer_next s1 d date false b
    → x ≡ on_level level s1.level → y ≡ on_level level s2.level → Emits s.made date x y s.slot made slot
    → state_of s2 made slot ≡ followed level d s date at after
unfolding followed
follows level d s date at after a b s1 s2 x y made slot e0 e1 e2 e3 e4 e5 (m, t) = rw (m, t, e5, e4, e3, e2, e1, e0)

pub passes : (level : Bool) (d : ℕ) (s : State) (w : ℕ) (t : State) → t ≡ settled level (date_of w) s
    → (a b : Bool) (s1 s2 : Timer) (x y : Bool) (made : Made) (slot : List ℕ)
    → a ≡ on_level level (value_at w) → b ≡ on_level level (value_after w) → s1 ≡ timer_next t.timer d (date_of w) true a
    → s2 ≡ timer_next s1 d (date_of w) false b
    → x ≡ on_level level s1.level → y ≡ on_level level s2.level → Emits t.made (date_of w) x y t.slot made slot
    → state_of s2 made slot ≡ past_word level d s w
unfolding past_word
passes level d s w t e a b s1 s2 x y made slot ea eb e1 e2 ex ey em =
    follows level d t (date_of w) (value_at w) (value_after w) a b s1 s2 x y made slot ea e1 eb e2 ex ey em
    ∙ ap (λ (u : State). followed level d u (date_of w) (value_at w) (value_after w)) e

-- the first word of the answer
pub begins : (level : Bool) (d : ℕ) (l slot : List ℕ) (value : Bool) → value ≡ on_level level (held_value l 1)
    → (s : Timer) → s ≡ first_timer level d value → (shown : Bool) → shown ≡ on_level level s.level → (made : Made) (slot' : List ℕ)
    → Begins shown slot made slot' → state_of s made slot' ≡ first_state level d l slot
unfolding first_state
begins level d l slot value e0 s e1 shown e2 made slot' (m, t) =
    let by-timer : state_of s made slot' ≡ state_with level slot s = rw (m, t, e2) in
    by-timer ∙ ap (state_with level slot) (e1 ∙ ap (first_timer level d) e0)

-- the words of a slice: one more is passed, and none is left
module _ (level : Bool) (d : ℕ) (l : List ℕ) (i : ℕ) (s last : State) (leads : past_words level d (drop i l) s ≡ last) where
  pub leads_on : i < length l → (t : State) → t ≡ past_word level d s (get_or l i 0) → past_words level d (drop (i + 1) l) t ≡ last
  unfolding past_words
  leads_on h t e =
      let ahead : drop i l ≡ get_or l i 0 ∷ drop (i + 1) l = rw add-one (drop-cons l i 0 h) in
      ap (past_words level d (drop (i + 1) l)) e ∙ sym (ap (λ (ws : List ℕ). past_words level d ws s) ahead) ∙ leads

  pub leads_home : length l ≤ i → (t : State) → t ≡ settled level NEVER s → t ≡ last
  unfolding past_words
  leads_home h t e = e ∙ sym (ap (λ (ws : List ℕ). past_words level d ws s) (drop_of_length-le l {i = i} h)) ∙ leads
