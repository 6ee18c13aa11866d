-- Mirrored: What begins a factor at a mark of a text that is lent, and how many bytes it has; where none stands, how many are there of one.
use Rattle.std.specs.Prelude.{ℕ, cond, List, ltb, eqb, drop}
use Rattle.grammar.specs.Kinds as kinds
use Rattle.grammar.specs.Reader.{prefix_kind, block_kind, block_bytes, reach}
use Rattle.marks.specs.declared.Mark.{Mark}
use Rattle.marks.specs.Marks.{next_mark}

-- an open bracket: no kind of a part
abbrev pub BRACKET : ℕ
BRACKET = 16

-- the kind of what is next and begins a factor: a prefix, an open bracket, or a block's word and bracket; 0 where none is
unfoldable pub open_kind : List ℕ → Mark → ℕ
open_kind text m =
    cond (ltb 0 (prefix_kind (next_mark text m))) (prefix_kind (next_mark text m))
    (cond (eqb (next_mark text m) 40) BRACKET (cond m.ok (block_kind (drop m.at text)) 0))

-- how many bytes it has
unfoldable pub open_bytes : ℕ → ℕ
open_bytes first = cond (eqb first 0) 0 (cond (ltb first kinds.TON) 1 (cond (eqb first BRACKET) 1 (block_bytes first)))

-- where no factor stands, how many bytes are there of one; 0 for a bad mark
unfoldable pub reach_mark : List ℕ → Mark → ℕ
reach_mark text m = cond m.ok (reach (drop m.at text)) 0
