-- Believed: Document 01's rule of names, for formulas and for sheets.
use Rattle.std.specs.Prelude.{ℕ, Bool, true, false, ◌&&◌, ◌||◌, List, [], ◌∷◌, leb, length}

-- a lowercase letter; a digit
unfoldable pub letter : ℕ → Bool
letter b = leb 97 b && leb b 122

unfoldable pub digit : ℕ → Bool
digit b = leb 48 b && leb b 57

unfoldable pub name_byte : ℕ → Bool
name_byte b = letter b || digit b

unfoldable pub all_of : (ℕ → Bool) → List ℕ → Bool
all_of p [] = true
all_of p (b ∷ bs) = p b && all_of p bs

-- A name is 1 to 8 characters, a lowercase letter, then lowercase letters or digits.
unfoldable pub well_named : List ℕ → Bool
well_named [] = false
well_named (b ∷ bs) = leb (length (b ∷ bs)) 8 && (letter b && all_of name_byte bs)
