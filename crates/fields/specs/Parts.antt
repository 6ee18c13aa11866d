-- Parts of a text.
use Rattle.std.specs.Prelude.{ℕ, ◌-◌, List, [], cond, ◌||◌, ltb, length, take, drop}

-- The bytes from one place up to another, none where that is no part.
unfoldable pub part_of : List ℕ → ℕ → ℕ → List ℕ
part_of l a b = cond (ltb b a || ltb (length l) b) [] (take (b - a) (drop a l))
