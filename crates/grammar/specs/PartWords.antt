-- Believed: The code words of parts, as `sgl_formula_parts` gives them: the kind in the low four bits; above it a timer's ticks, or of a
-- name the count of its bytes in four bits and above it a place in the text at which they stand.
use Rattle.std.specs.Prelude.{ℕ, ◌/◌, ◌%◌, Bool, cond, ◌||◌, List, [], ◌∷◌, eqb, take, drop}
use Rattle.grammar.specs.Tree.{down, up, name, invert, rise, fall, ton, tof, tp, and, or, sr, rs}
use Rattle.grammar.specs.Kinds as kinds
use Rattle.grammar.specs.Code.{Part, operand, one, two}

-- the kinds that are a part by themselves, each with its part
pub record Kind : Type 0 where
  pub number : ℕ
  pub part : Part

abbrev pub plain_kinds : List Kind
plain_kinds =
    record { number = kinds.DOWN; part = operand down }
    ∷ record { number = kinds.UP; part = operand up }
    ∷ record { number = kinds.NOT; part = one invert }
    ∷ record { number = kinds.RISING; part = one rise }
    ∷ record { number = kinds.FALLING; part = one fall }
    ∷ record { number = kinds.AND; part = two and }
    ∷ record { number = kinds.OR; part = two or }
    ∷ record { number = kinds.SR; part = two sr }
    ∷ record { number = kinds.RS; part = two rs }
    ∷ []

-- the part of a kind in a table; 0 of one that is not there
abbrev pub part_in : List Kind → ℕ → Part
part_in [] k = operand down
part_in (e ∷ es) k = cond (eqb k e.number) e.part (part_in es k)

abbrev pub plain_part : ℕ → Part
plain_part kind = part_in plain_kinds kind

-- the kinds of timers, and a timer's part
abbrev pub is_timer : ℕ → Bool
is_timer kind = eqb kind kinds.TON || eqb kind kinds.TOF || eqb kind kinds.TP

unfoldable pub timed_part : ℕ → ℕ → Part
timed_part kind n = cond (eqb kind kinds.TON) (one (ton n)) (cond (eqb kind kinds.TOF) (one (tof n)) (one (tp n)))

-- the bytes of a text from a place on, so many
unfoldable pub name_at : List ℕ → ℕ → ℕ → List ℕ
name_at text place count = take count (drop place text)

-- the part that a code word of a text stands for
unfoldable pub part_of : List ℕ → ℕ → Part
part_of text w =
    cond (eqb (w % 16) kinds.NAME) (operand (name (name_at text (w / 256) (w / 16 % 16))))
    (cond (is_timer (w % 16)) (timed_part (w % 16) (w / 16)) (plain_part (w % 16)))
