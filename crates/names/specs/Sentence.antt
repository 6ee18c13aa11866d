-- Statement: The sentence that document 01 has for names, and that the test is it.
use Rattle.std.specs.Prelude.{ℕ, ◌≤◌, ◌<◌, ◌≡◌, true, List, ◌⊎◌, ◌↔◌, length, get_or}
use Rattle.names.specs.Names.{well_named}

abbrev pub Letter : ℕ → Type 0
Letter b = (97 ≤ b) × (b ≤ 122)

abbrev pub Digit : ℕ → Type 0
Digit b = (48 ≤ b) × (b ≤ 57)

-- A name is 1 to 8 characters, a lowercase letter, then lowercase letters or digits.
pub record IsName (name : List ℕ) : Type 0 where
  pub some : 1 ≤ length name
  pub most : length name ≤ 8
  pub first : Letter (get_or name 0 0)
  pub others : (i : ℕ) → 1 ≤ i → i < length name → Letter (get_or name i 0) ⊎ Digit (get_or name i 0)

abbrev pub NamesExact : Type 0
NamesExact = (name : List ℕ) → (well_named name ≡ true) ↔ IsName name
