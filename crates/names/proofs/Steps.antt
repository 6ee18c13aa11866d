-- What the test of names says of a name's characters, in std's word.
use Prim.Native.Nat.{ℕ}
use mathlib.Core.Path.{◌≡◌, refl, ap}
use mathlib.Core.Bool.{Bool, ◌&&◌}
use mathlib.Core.List.{List, [], ◌∷◌}
use Rattle.std.specs.List.{list_all}
use Rattle.names.specs.Names.{all_of}

pub all_of_is : (p : ℕ → Bool) (s : List ℕ) → list_all p s ≡ all_of p s
unfolding all_of
all_of_is p [] = refl
all_of_is p (b ∷ s) = ap (λ (t : Bool). p b && t) (all_of_is p s)
