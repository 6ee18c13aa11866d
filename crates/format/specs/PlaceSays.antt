-- Statement: Of a lookup's place, its reading and the answer of a fault number and values are one definition of the cases, as for the
-- other answers.
use Rattle.std.specs.Prelude.{ℕ, ◌≤◌, ◌≡◌}
use Rattle.format.specs.Calls.{fault_of_place, first_byte, byte_count, place_for}
use Rattle.format.specs.declared.Place.{Place}
use Rattle.format.specs.declared.Place.TheVariants.{At, Refused}

-- the answers that a lookup can give: a refusal has a number
abbrev pub GivenPlace : Place → Type 0
GivenPlace (At start count) = Unit
GivenPlace (Refused fault) = 1 ≤ fault

pub record PlaceSays : Type 0 where
  pub fault : (f start count : ℕ) → fault_of_place (place_for f start count) ≡ f
  pub value : (start count : ℕ) → (first_byte (place_for 0 start count) ≡ start) × (byte_count (place_for 0 start count) ≡ count)
  pub refused : (f start count : ℕ) → 1 ≤ f → (first_byte (place_for f start count) ≡ 0) × (byte_count (place_for f start count) ≡ 0)
  pub given : (f start count : ℕ) → GivenPlace (place_for f start count)
  pub every : (answer : Place) → GivenPlace answer → place_for (fault_of_place answer) (first_byte answer) (byte_count answer) ≡ answer
