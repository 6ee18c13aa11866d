-- Mirrored: What stands at a mark of a text that is lent: a length, a constant or a name, where it ends, its number, its code word.
use Rattle.std.specs.Prelude.{ℕ, zero, suc, ◌+◌, ◌*◌, ◌-◌, Bool, true, false, cond, List, leb, eqb, get_or, drop}
use Rattle.names.specs.Names.{letter, digit, name_byte}
use Rattle.grammar.specs.Kinds as kinds
use Rattle.grammar.specs.Formula.{name_word}
use Rattle.grammar.specs.Reader.{run}
use Rattle.marks.specs.declared.Mark.{Mark}
use Rattle.marks.specs.Marks.{next_mark}

-- bytes of names, bytes of lengths
abbrev pub class_of : Bool → ℕ → Bool
class_of true = name_byte
class_of false = digit

-- the place after the length that is next; 0 where none is
unfoldable pub length_end : List ℕ → Mark → ℕ
length_end text m =
    cond (eqb (next_mark text m) 48) (m.at + 1) (cond (digit (next_mark text m)) (m.at + run digit (drop m.at text)) 0)

-- the place after the constant or name that is next; 0 where none is
unfoldable pub leaf_end : List ℕ → Mark → ℕ
leaf_end text m =
    cond (eqb (next_mark text m) 48) (m.at + 1)
    (cond (eqb (next_mark text m) 49) (m.at + 1)
    (cond (letter (next_mark text m)) (cond (leb (run name_byte (drop m.at text)) 8) (m.at + run name_byte (drop m.at text)) 0) 0))

-- the number that so many bytes from a place on write
unfoldable pub number_at : List ℕ → ℕ → ℕ → ℕ
number_at page from zero = 0
number_at page from (suc k) = number_at page from k * 10 + (get_or page (from + k) 0 - 48)

-- the code word of a constant or name that has the first byte and the place and ends there
unfoldable pub leaf_word : ℕ → ℕ → ℕ → ℕ
leaf_word b at end = cond (eqb b 48) kinds.DOWN (cond (eqb b 49) kinds.UP (name_word at (end - at)))
