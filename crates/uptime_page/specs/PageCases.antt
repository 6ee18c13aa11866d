-- Statement: Document 02, request 2: "01's f with H 8 prints "5 3", then "total 3"; horizon 0 prints "total 0"", byte by byte, and some
-- refusals.
use Rattle.std.specs.Prelude.{ℕ, ◌≡◌, List, [], ◌∷◌, ◌++◌}
use Rattle.signals.specs.Starred.{f_list}
use Rattle.format.specs.Reading.{entry}
use Rattle.format.specs.Writing.{sheet_bytes}
use Rattle.uptime_page.specs.Printing.{printed}

-- a sheet that has 01's f under the name a
abbrev pub sheet : List ℕ
sheet = sheet_bytes (entry (97 ∷ []) f_list ∷ [])

-- "total " and a digit; "refused " and two digits; each with its line feed
abbrev pub total : ℕ → List ℕ
total digit = 116 ∷ 111 ∷ 116 ∷ 97 ∷ 108 ∷ 32 ∷ digit ∷ 10 ∷ []

abbrev pub refused : ℕ → ℕ → List ℕ
refused ten one = 114 ∷ 101 ∷ 102 ∷ 117 ∷ 115 ∷ 101 ∷ 100 ∷ 32 ∷ ten ∷ one ∷ 10 ∷ []

-- 97 is a, 98 b, 10 the line feed, 48 the digit 0
pub record PageCases : Type 0 where
  -- "a", "8"; "a", "0"; "a", "10"
  pub f8 : printed ((97 ∷ 10 ∷ 56 ∷ 10 ∷ []) ++ sheet) ≡ 53 ∷ 32 ∷ 51 ∷ 10 ∷ total 51
  pub f0 : printed ((97 ∷ 10 ∷ 48 ∷ 10 ∷ []) ++ sheet) ≡ total 48
  pub f10 : printed ((97 ∷ 10 ∷ 49 ∷ 48 ∷ 10 ∷ []) ++ sheet) ≡ 53 ∷ 32 ∷ 52 ∷ 10 ∷ total 52
  -- "a", "08": 19; "b", "08": 13; "", "08": 16; "a" and "8" without a second line feed: 14
  pub leading_zero : printed ((97 ∷ 10 ∷ 48 ∷ 56 ∷ 10 ∷ []) ++ sheet) ≡ refused 49 57
  pub missing : printed ((98 ∷ 10 ∷ 48 ∷ 56 ∷ 10 ∷ []) ++ sheet) ≡ refused 49 51
  pub unnamed : printed ((10 ∷ 48 ∷ 56 ∷ 10 ∷ []) ++ sheet) ≡ refused 49 54
  pub no_sheet : printed (97 ∷ 10 ∷ 56 ∷ []) ≡ refused 49 52
