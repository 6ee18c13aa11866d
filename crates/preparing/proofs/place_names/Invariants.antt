-- `preparing::place_names` meets its contract: the code words passed have the places of their names.
use mathlib.Core.Path.{◌≡◌}
use mathlib.Core.List.{map}
use lib.ListN.{take}
use Rattle.machine.specs.Machine.{placed_word, all_found}
use Rattle.preparing.proofs.Placing.{front}
use Rattle.preparing.proofs.place_names.Given as goal

abbrev pub invariant-loop-code : goal.invariant-loop-code
invariant-loop-code l =
    (l.code-items ≡ front (placed_word l.sheet l.text) l.initial.code-items l.code-index)
    × (l.all ≡ all_found (map (placed_word l.sheet l.text) (take l.code-index l.initial.code-items)))
