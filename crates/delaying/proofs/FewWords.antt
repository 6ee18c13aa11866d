-- A delay's answer has at most two words for each word of its list.
use Prim.Native.Nat.{ℕ, ◌+◌, ◌*◌, ◌≤◌}
use native.Mathlib.Omega.{arith}
use mathlib.Core.Bool.{Bool, true, false, cond, ◌&&◌}
use mathlib.Core.List.{List, [], ◌∷◌}
use lib.Dec.{ltb}
use lib.ListN.{length}
use Rattle.signals.specs.Words.{date_of, value_at, value_after}
use Rattle.reading.specs.Reading.{NEVER}
use Rattle.building.specs.Building.{idle, one_more, late_with, emitted, begun}
use Rattle.building.specs.declared.Made.{Made}
use Rattle.timing.specs.Delay.{timer, on_level}
use Rattle.delaying.specs.Turns.{State, put_at, settled, timer_at, timer_after, followed, past_word, past_words}
use Rattle.delaying.specs.Turns.{first_state, last_state, Ends}

-- a date gives at most one word
emitted_count : (made : Made) (date : ℕ) (at after : Bool) → (emitted made date at after).count ≤ made.count + 1
unfolding emitted
emitted_count made date at after = go (idle made.value at after)
  where
    go : (t : Bool) → (cond t made (record { value = after; count = one_more made.count; late = late_with made.late date })).count
        ≤ made.count + 1
    go true = omega arith
    go false = omega arith

settled_count : (level : Bool) (next : ℕ) (s : State) → (settled level next s).made.count ≤ s.made.count + 1
unfolding settled
settled_count level next s = go (s.timer.waiting && ltb s.timer.due.0 next)
  where
    go : (t : Bool) → (cond t (put_at s s.timer.due.0 (on_level level s.timer.at) level
        (timer true false s.timer.due.0 s.timer.at)) s).made.count ≤ s.made.count + 1
    go true = emitted_count s.made s.timer.due.0 (on_level level s.timer.at) level
    go false = omega arith

followed_count : (level : Bool) (d : ℕ) (s : State) (date : ℕ) (at after : Bool)
    → (followed level d s date at after).made.count ≤ s.made.count + 1
unfolding followed
followed_count level d s date at after =
    emitted_count s.made date (on_level level (timer_at level d s.timer date at).level)
    (on_level level (timer_after level d s.timer date at after).level)

word_count_lem : (level : Bool) (d : ℕ) (s : State) (w : ℕ) → (past_word level d s w).made.count ≤ s.made.count + 2
unfolding past_word
word_count_lem level d s w =
    omega (
      arith,
      settled_count level (date_of w) s,
      followed_count level d (settled level (date_of w) s) (date_of w) (value_at w) (value_after w),
    )

words_count : (level : Bool) (d : ℕ) (ws : List ℕ) (s : State) → (past_words level d ws s).made.count ≤ s.made.count + 2 * length ws + 1
unfolding past_words
words_count level d [] s = omega (arith, settled_count level NEVER s)
words_count level d (w ∷ ws) s = omega (arith, words_count level d ws (past_word level d s w), word_count_lem level d s w)

few_words : (level : Bool) (d : ℕ) (l slot : List ℕ) → 1 ≤ length l → (last_state level d l slot).made.count ≤ 2 * length l
unfolding last_state first_state begun
few_words level d [] slot h = absurd (omega arith)
few_words level d (x ∷ ws) slot h = omega (arith, words_count level d ws (first_state level d (x ∷ ws) slot))

-- so that the answer of a short list stands in a short slot
pub short_answer : (level : Bool) (d : ℕ) (l old : List ℕ) (n : ℕ) {made : Made} {slot : List ℕ} → 1 ≤ length l → 2 * length l ≤ n
    → Ends (last_state level d l old) made slot → made.count ≤ n
short_answer level d l old n h short (m, t) = rw m (omega (arith, few_words level d l old h))
