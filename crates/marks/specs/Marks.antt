-- Mirrored: Where the reader of a formula is, and the next byte of a text that is lent.
use Rattle.std.specs.Prelude.{ℕ, min, cond, List, ltb, get_or, take}
use Rattle.signals.specs.Moment.{M}
use Rattle.marks.specs.declared.Mark.{Mark}

-- the text that a page lends: its first bytes, at most 1,024
unfoldable pub lent : List ℕ → ℕ → List ℕ
lent page bytes = take (min bytes 1024) page

-- the next byte; 0 at the end and for a bad mark
unfoldable pub next_mark : List ℕ → Mark → ℕ
next_mark text m = cond m.ok (get_or text m.at 0) 0

-- the fault of a text of so many bytes whose reading ended at the mark
unfoldable pub mark_fault : Mark → ℕ → ℕ
mark_fault m bytes =
    cond m.ok
    (cond (ltb m.at bytes) 11 (cond (ltb M m.longest) 8 (cond (ltb 32 m.parts) 12 (cond (ltb 16 m.deepest) 12 0)))) 11
