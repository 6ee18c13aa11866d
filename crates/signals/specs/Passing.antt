-- Mirrored: Going along a list's words by the number passed (at least the first word). Tied to what is believed by `ReaderSays`.
use Rattle.std.specs.Prelude.{ℕ, ◌+◌, ◌-◌, Bool, cond, ◌&&◌, List, ltb, eqb, length, get_or}
use Rattle.signals.specs.Words.{date_of, value_at, value_after}

-- the value held after the p words passed
unfoldable pub held_value : List ℕ → ℕ → Bool
held_value l p = value_after (get_or l (p - 1) 0)

-- the next word's date is e
unfoldable pub is_next : List ℕ → ℕ → ℕ → Bool
is_next l p e = ltb p (length l) && eqb (date_of (get_or l p 0)) e

-- the values at and after date e, and the number passed after it, when no word left has an earlier date
unfoldable pub at_date : List ℕ → ℕ → ℕ → Bool
at_date l p e = cond (is_next l p e) (value_at (get_or l p 0)) (held_value l p)

unfoldable pub after_date : List ℕ → ℕ → ℕ → Bool
after_date l p e = cond (is_next l p e) (value_after (get_or l p 0)) (held_value l p)

unfoldable pub passed_date : List ℕ → ℕ → ℕ → ℕ
passed_date l p e = cond (is_next l p e) (p + 1) p
