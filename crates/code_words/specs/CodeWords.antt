-- Mirrored: What a part's code word holds, by its kind in the low four bits: where the list of a part without operands stands, and the
-- number of its operands.
use Rattle.std.specs.Prelude.{ℕ, ◌/◌, ◌%◌, cond, List, [], ◌∷◌, ltb, eqb}
use Rattle.grammar.specs.Kinds as kinds
use Rattle.sources.specs.declared.Memory.TheVariants.{Sheet, Left}
use Rattle.sources.specs.declared.Source.{Source}

-- the word of a constant's list, and the words where it stands
unfoldable pub constant_of : ℕ → ℕ
constant_of w = cond (eqb (w % 16) kinds.UP) 1 0

abbrev pub constants : List ℕ
constants = 0 ∷ 1 ∷ []

-- Where the list of a part without operands stands: a name's on the sheet, where its word says, a constant's among those.
unfoldable pub leaf_source : ℕ → Source
leaf_source w =
    cond (eqb (w % 16) kinds.NAME) (record { memory = Sheet; at = w / 8192 % 4294967296; count = w / 16 % 512 })
    (record { memory = Left; at = constant_of w; count = 1 })

-- how many operands a part of a kind takes: none below NOT and from KINDS on, one below AND, else two
unfoldable pub arity : ℕ → ℕ
arity kind = cond (ltb kind kinds.NOT) 0 (cond (ltb kind kinds.AND) 1 (cond (ltb kind kinds.KINDS) 2 0))

abbrev pub operands_of : ℕ → ℕ
operands_of w = arity (w % 16)
