-- Believed: Document 01, "Sheets": names as a sheet holds them.
use Rattle.std.specs.Prelude.{ℕ, ◌-◌, Bool, true, false, ◌&&◌, ◌||◌, List, [], ◌∷◌, ◌++◌, eqb, length, drop, replicate}
use Rattle.slices.specs.Slices.{before}
use Rattle.names.specs.Names.{well_named}

-- Callers give a name unpadded; on a sheet it is padded with zero bytes to 8.
unfoldable pub padded : List ℕ → List ℕ
padded name = name ++ replicate (8 - length name) 0

-- the characters of a name field: those before its first zero byte
abbrev pub unpadded : List ℕ → List ℕ
unpadded field = before 0 field

unfoldable pub zeros : List ℕ → Bool
zeros [] = true
zeros (b ∷ bs) = eqb b 0 && zeros bs

-- a name field is a name, then zero bytes
unfoldable pub field_fits : List ℕ → Bool
field_fits field = well_named (unpadded field) && zeros (drop (length (unpadded field)) field)

-- two byte strings are alike; a name is among names
unfoldable pub same : List ℕ → List ℕ → Bool
same [] [] = true
same [] (y ∷ ys) = false
same (x ∷ xs) [] = false
same (x ∷ xs) (y ∷ ys) = eqb x y && same xs ys

unfoldable pub among : List ℕ → List (List ℕ) → Bool
among name [] = false
among name (other ∷ others) = same other name || among name others
