-- The steps of `moves` on marks, as the readers' paths cite them.
use Prim.Native.Nat.{ℕ, ◌+◌, ◌<◌}
use mathlib.Core.Path.{◌≡◌, refl, sym, ◌∙◌}
use mathlib.Core.Bool.{Bool, true, false, cond, and-true}
use mathlib.Core.List.{List}
use lib.Dec.{eqb}
use borrow.Author.Tests.{lt-ltb}
use Rattle.marks.specs.declared.Mark.{Mark}
use Rattle.marks.specs.Marks.{next_mark}
use Rattle.openings.specs.Opening.{open_kind, open_bytes}
use Rattle.moves.specs.Moves.{failed, moved_to, begun, is_next, passed, expected}

unfoldable pub expect_mark : List ℕ → ℕ → Mark → Mark
expect_mark text b m = cond (eqb (next_mark text m) b) (moved_to m (m.at + 1)) (failed m)

pub begin_leaves : (text : List ℕ) (m : Mark) {r : Mark} {first : ℕ} → (r ≡ begun text m) × (first ≡ open_kind text m) →
    r ≡ moved_to m (m.at + open_bytes first)
unfolding begun
begin_leaves text m q = rw (q.1, q.0) refl

-- a byte that is not 0
next_is : (text : List ℕ) (b : ℕ) (m : Mark) → 0 < b → is_next text b m ≡ eqb (next_mark text m) b
unfolding is_next
next_is text b m some = rw (lt-ltb 0 b some) (and-true (eqb (next_mark text m) b))

module _ (text : List ℕ) (b : ℕ) (m : Mark) where
  pub expect_leaves : {r : Mark} → 0 < b → r ≡ expected text b m → r ≡ expect_mark text b m
  unfolding expected expect_mark
  expect_leaves some q = rw (q, next_is text b m some) refl

  -- a byte that is passed if it is next
  module _ {z : Bool} (q : z ≡ is_next text b m) where
    pub next_told : 0 < b → eqb (next_mark text m) b ≡ z
    next_told some = sym (q ∙ next_is text b m some)

    pub pass_moves : {r : Mark} → r ≡ passed text b m → z ≡ true → r ≡ moved_to m (m.at + 1)
    unfolding passed
    pass_moves p t = rw (p, sym q ∙ t) refl

    pub pass_stays : {r : Mark} → r ≡ passed text b m → z ≡ false → r ≡ m
    unfolding passed
    pass_stays p t = rw (p, sym q ∙ t) refl
