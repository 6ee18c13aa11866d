-- Mirrored: the edges of a list to a level, built in a slot word by word, for every list.
use Rattle.std.specs.Prelude.{ℕ, ◌≡◌, Bool, true, false, not, ◌&&◌, List, [], ◌∷◌, drop, get_or, set}
use Rattle.std.specs.Bool.{beq}
use Rattle.signals.specs.Signal.{Signal, rising, falling}
use Rattle.signals.specs.Words.{date_of, value_at, value_after}
use Rattle.building.specs.Building.{begun, emitted, emitted_in}
use Rattle.building.specs.declared.Made.{Made}

-- the edges to up, and those to down
abbrev pub edge_of : Bool → Signal → Signal
edge_of true f = rising f
edge_of false f = falling f

-- a date with this value at it and this one before it has an edge
unfoldable pub is_edge : Bool → Bool → Bool → Bool
is_edge level before at = beq at level && not (beq before level)

-- what the words after a value make of an answer begun, and of its slot
unfoldable pub edges_made : Bool → List ℕ → Bool → Made → Made
edges_made level [] before made = made
edges_made level (w ∷ ws) before made =
    edges_made level ws (value_after w) (emitted made (date_of w) (is_edge level before (value_at w)) false)

unfoldable pub edges_slot : Bool → List ℕ → Bool → Made → List ℕ → List ℕ
edges_slot level [] before made slot = slot
edges_slot level (w ∷ ws) before made slot =
    edges_slot level ws (value_after w) (emitted made (date_of w) (is_edge level before (value_at w)) false)
    (emitted_in slot made (date_of w) (is_edge level before (value_at w)) false)

-- the two from the first word on, which both begin down
abbrev pub EdgesIn : Bool → List ℕ → List ℕ → Made → List ℕ → Type 0
EdgesIn level a slot made after =
    (made ≡ edges_made level (drop 1 a) (value_after (get_or a 0 0)) (begun false))
    × (after ≡ edges_slot level (drop 1 a) (value_after (get_or a 0 0)) (begun false) (set slot 0 0))
