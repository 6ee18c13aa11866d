-- A name cut at the end of the text.
use Prim.Native.Nat.{ℕ, ◌-◌, ◌≤◌}
use native.Mathlib.Omega.{arith}
use mathlib.Core.Path.{◌≡◌, sym, ◌∙◌}
use mathlib.Core.List.{List, []}
use lib.ListN.{length, take, drop, length-drop, drop_of_length-le}
use lib.Seq.{take_all, take-nil}
use Rattle.grammar.specs.PartWords.{name_at}

pub name_none : (text : List ℕ) (place count : ℕ) → length text ≤ place → [] ≡ name_at text place count
unfolding name_at
name_none text place count h = rw (drop_of_length-le text {i = place} h) (sym (take-nil count))

pub name_rest : (text : List ℕ) (place count k : ℕ) → k ≡ length text - place → length text - place ≤ count → take k
    (drop place text) ≡ name_at text place count
unfolding name_at
name_rest text place count k e h =
    let l : length (drop place text) ≡ length text - place = length-drop place text in
    take_all k (drop place text) (omega arith) ∙ sym (take_all count (drop place text) (omega arith))

pub name_whole : (text : List ℕ) (place count k : ℕ) → k ≡ count → take k (drop place text) ≡ name_at text place count
unfolding name_at
name_whole text place count k e = rw e
