-- Statement: A number in decimal, as document 01 has it of lengths: without needless leading zeros, it writes the number, and no other
-- text does.
use Rattle.std.specs.Prelude.{ℕ, ◌^◌, ◌<◌, ◌≡◌, true, List}
use Rattle.texts.specs.Lengths.{is_length, value}
use Rattle.texts.specs.Decimal.{decimal}

pub record DecimalRight : Type 0 where
  pub well_formed : (n : ℕ) → n < 10 ^ 10 → is_length (decimal n) ≡ true
  pub writes : (n : ℕ) → n < 10 ^ 10 → value (decimal n) ≡ n
  pub only : (w : List ℕ) → is_length w ≡ true → value w < 10 ^ 10 → decimal (value w) ≡ w
