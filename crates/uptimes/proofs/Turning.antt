-- The tests of a turn, and what they lead to.
use Prim.Native.Nat.{ℕ, ◌+◌, ◌-◌, ◌≤◌, ◌<◌}
use mathlib.Core.Path.{◌≡◌}
use mathlib.Core.Bool.{Bool, true, false}
use mathlib.Core.List.{List}
use lib.ListN.{length, set}
use borrow.Author.Tests.{lt-ltb, le-ltb}
use Rattle.uptimes.specs.Turns.{State, put_two, ended, past_word}

module _ (out : List ℕ) (at a b : ℕ) where
  pub two_fit : at + 1 < length out → set (set out at a) (at + 1) b ≡ put_two out at a b
  unfolding put_two
  two_fit h = rw (lt-ltb (at + 1) (length out) h)

  pub two_not : length out ≤ at + 1 → out ≡ put_two out at a b
  unfolding put_two
  two_not h = rw (le-ltb (at + 1) (length out) h)

pub ends_here : (end : ℕ) (s : State) (ticks : ℕ) (out : List ℕ) → s.from < end → ticks ≡ end - s.from
    → out ≡ put_two s.out s.count s.from ticks
    → (record { from = end; count = s.count + 2; total = s.total + ticks; out = out }) ≡ ended end s
unfolding ended
ends_here end s ticks out h t e = rw (lt-ltb s.from end h, e, t)

pub ends_nowhere : (end : ℕ) (s : State) → end ≤ s.from → s ≡ ended end s
unfolding ended
ends_nowhere end s h = rw (le-ltb s.from end h)

module _ (date : ℕ) (before after : Bool) (s : State) where
  pub stays_up : before ≡ true → after ≡ true → s ≡ past_word date before after s
  unfolding past_word
  stays_up p q = rw (p, q)

  pub falls : before ≡ true → after ≡ false → ended date s ≡ past_word date before after s
  unfolding past_word
  falls p q = rw (p, q)

  pub was_down : before ≡ false
      → (record { from = date; count = s.count; total = s.total; out = s.out }) ≡ past_word date before after s
  unfolding past_word
  was_down p = rw p
