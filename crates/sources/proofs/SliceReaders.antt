-- The readers of a slice, by the tests that the code makes.
use Prim.Native.Nat.{ℕ, ◌/◌, ◌≤◌, ◌<◌}
use native.Mathlib.Omega.{arith}
use native.Mathlib.Nat.{mod-eq_of_lt}
use mathlib.Core.Path.{◌≡◌, sym, ◌∙◌, ap}
use mathlib.Core.List.{List}
use lib.ListN.{length, get_or}
use Rattle.reading.specs.Reading.{NEVER}
use Rattle.sources.specs.Sources.{cursor_at, start_of}
use Rattle.sources.specs.declared.Cursor.{Cursor}
use Rattle.sources.proofs.SourceWords.{word_left, no_word_left}

module _ (l : List ℕ) where
  pub reader_left : (passed last : ℕ) → passed < length l → get_or l passed 0 < 4294967296
      → ◌≡◌ {A = Cursor} (record { word = get_or l passed 0; date = get_or l passed 0 / 4; last = last; passed = passed })
      (cursor_at l passed last)
  unfolding cursor_at
  reader_left passed last h w =
      let d : get_or l passed 0 / 4 < 4294967296 = omega arith in
      rw (word_left l passed h, mod-eq_of_lt w, mod-eq_of_lt d)

  pub reader_none : (passed last : ℕ) → length l ≤ passed
      → ◌≡◌ {A = Cursor} (record { word = 4294967292; date = NEVER; last = last; passed = passed }) (cursor_at l passed last)
  unfolding cursor_at
  reader_none passed last h = rw (no_word_left l passed h)

  pub first_left : (r : Cursor) → 0 < length l → r ≡ cursor_at l 1 (get_or l 0 0) → r ≡ start_of l
  first_left r h e = e ∙ ap (cursor_at l 1) (sym (word_left l 0 h))

  pub first_none : (r : Cursor) → length l ≤ 0 → r ≡ cursor_at l 1 17179869180 → r ≡ start_of l
  first_none r h e = e ∙ ap (cursor_at l 1) (sym (no_word_left l 0 h))
