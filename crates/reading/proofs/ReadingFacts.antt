-- The cases of the reading definitions, from the tests that the code makes.
use Prim.Native.Nat.{ℕ, ◌≤◌, ◌<◌}
use mathlib.Core.Path.{◌≡◌}
use mathlib.Core.Bool.{true, false, and-false}
use mathlib.Core.List.{List}
use lib.Dec.{ltb}
use lib.ListN.{length, get_or}
use borrow.Author.Tests.{lt-ltb, le-ltb, eq-eqb, ne_eqb}
use Rattle.signals.specs.Words.{date_of}
use Rattle.signals.specs.Passing.{is_next}

pub is_next_lem : (l : List ℕ) (p d : ℕ) → p < length l → date_of (get_or l p 0) ≡ d → is_next l p d ≡ true
unfolding is_next
is_next_lem l p d h e = rw (lt-ltb p (length l) h, eq-eqb (date_of (get_or l p 0)) d e)

pub not_next : (l : List ℕ) (p d : ℕ) → (date_of (get_or l p 0) ≡ d → ⊥) → is_next l p d ≡ false
unfolding is_next
not_next l p d n = rw (ne_eqb (date_of (get_or l p 0)) d n) (and-false (ltb p (length l)))

pub none_next : (l : List ℕ) (p d : ℕ) → length l ≤ p → is_next l p d ≡ false
unfolding is_next
none_next l p d h = rw (le-ltb p (length l) h)
