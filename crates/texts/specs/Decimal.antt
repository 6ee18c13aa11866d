-- Believed: A number of at most ten digits in decimal, and put into an output.
use Rattle.std.specs.Prelude.{ℕ, zero, suc, ◌+◌, ◌/◌, ◌%◌, ◌≡◌, cond, List, [], ◌∷◌, ◌++◌, eqb, length}
use Rattle.slices.specs.Slices.{put_at}

-- a digit's byte; 48 is 0
abbrev pub digit : ℕ → ℕ
digit n = 48 + n % 10

-- the digits of a number of at most k digits, none for 0
unfoldable pub leading : ℕ → ℕ → List ℕ
leading zero n = []
leading (suc k) n = cond (eqb n 0) [] (leading k (n / 10) ++ (digit n ∷ []))

-- the digits before the last, then the last
unfoldable pub decimal : ℕ → List ℕ
decimal n = leading 9 (n / 10) ++ (digit n ∷ [])

-- a number put into an output at a place, where its digits fit, and how many these are: the output at entry, the number of digits, the exit
abbrev pub PutNumber : List ℕ → ℕ → ℕ → ℕ → List ℕ → Type 0
PutNumber out at n count exit = (count ≡ length (decimal n)) × (exit ≡ put_at out at (decimal n))
