-- Believed: Decimal lengths as bytes, and what a text that should be a length is read as.
use Rattle.std.specs.Prelude.{ℕ, ◌+◌, ◌*◌, ◌-◌, min, Bool, false, not, cond, ◌&&◌, ◌||◌, List, [], ◌∷◌, Result, Ok, Err, ltb, eqb, length}
use Rattle.names.specs.Names.{digit, all_of}
use Rattle.signals.specs.Moment.{M}
use Rattle.signals.specs.declared.Length.{Length}
use Rattle.texts.specs.declared.NotRead.{NotRead}
use Rattle.texts.specs.declared.NotRead.TheVariants.{NotALength, AboveM}

-- Lengths are decimal, without needless leading zeros.
unfoldable pub is_length : List ℕ → Bool
is_length [] = false
is_length (b ∷ bs) = digit b && (all_of digit bs && (eqb (length bs) 0 || not (eqb b 48)))

-- the number that digits write, after those that wrote `before`
unfoldable pub value_from : ℕ → List ℕ → ℕ
value_from before [] = before
value_from before (b ∷ bs) = value_from (before * 10 + (b - 48)) bs

unfoldable pub value : List ℕ → ℕ
value w = value_from 0 w

-- a number up to M, and M + 1 for every one above M
unfoldable pub capped : ℕ → ℕ
capped n = min n (M + 1)

-- a text read as a length: its ticks up to M
unfoldable pub length_read : List ℕ → Result Length NotRead
length_read text =
    cond (is_length text) (cond (ltb M (value text)) (Err AboveM) (Ok (record { 0 = value text }))) (Err NotALength)
