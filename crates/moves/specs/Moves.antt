-- Mirrored: The reader's steps that read no sum: what they leave of a mark and of the code words put out.
use Rattle.std.specs.Prelude.{ℕ, ◌+◌, min, max, Bool, false, cond, ◌&&◌, List, ltb, eqb, set}
use Rattle.texts.specs.Lengths.{capped}
use Rattle.grammar.specs.Reader.{value_between}
use Rattle.marks.specs.declared.Mark.{Mark}
use Rattle.marks.specs.Marks.{next_mark}
use Rattle.openings.specs.Opening.{open_kind, open_bytes, reach_mark}
use Rattle.tokens.specs.Tokens.{length_end, leaf_end, leaf_word}

-- a mark made bad
abbrev pub failed : Mark → Mark
failed m = record { ok = false; at = m.at; parts = m.parts; deepest = m.deepest; longest = m.longest }

abbrev pub moved_to : Mark → ℕ → Mark
moved_to m to = record { ok = m.ok; at = to; parts = m.parts; deepest = m.deepest; longest = m.longest }

-- what is next and begins a factor is passed
unfoldable pub begun : List ℕ → Mark → Mark
begun text m = moved_to m (m.at + open_bytes (open_kind text m))

-- whether the byte is next; 0, which stands for none, never is
unfoldable pub is_next : List ℕ → ℕ → Mark → Bool
is_next text b m = eqb (next_mark text m) b && ltb 0 b

unfoldable pub passed : List ℕ → ℕ → Mark → Mark
passed text b m = cond (is_next text b m) (moved_to m (m.at + 1)) m

unfoldable pub expected : List ℕ → ℕ → Mark → Mark
expected text b m = cond (is_next text b m) (moved_to m (m.at + 1)) (failed m)

unfoldable pub length_passed : List ℕ → Mark → Mark
length_passed text m = cond (ltb 0 (length_end text m)) (moved_to m (length_end text m)) (failed m)

-- the ticks of the length that is next; 0 where none is
unfoldable pub length_ticks : List ℕ → Mark → ℕ
length_ticks text m = cond (ltb 0 (length_end text m)) (capped (value_between text m.at (length_end text m))) 0

-- whether a part is counted: all is well, and fewer than 1,024 are
unfoldable pub is_counted : Mark → Bool
is_counted m = m.ok && ltb m.parts 1024

unfoldable pub put_words : Mark → ℕ → ℕ → Mark
put_words m deep ticks =
    cond (is_counted m) (record {
      ok = m.ok;
      at = m.at;
      parts = m.parts + 1;
      deepest = max m.deepest deep;
      longest = max m.longest ticks;
    }) m

-- a code word is stored where its place is one of the first 32
unfoldable pub stored_at : List ℕ → ℕ → ℕ → List ℕ
stored_at code place word = cond (ltb place 32) (set code place word) code

unfoldable pub put_code : Mark → ℕ → List ℕ → List ℕ
put_code m word code = cond m.ok (stored_at code m.parts word) code

-- where no factor stands, the mark is made bad after what is there of one
unfoldable pub strayed : List ℕ → Mark → Mark
strayed text m = failed (moved_to m (m.at + reach_mark text m))

-- a constant or name is passed, then its part put out
unfoldable pub leaf_words : List ℕ → Mark → ℕ → Mark
leaf_words text m deep =
    cond (ltb 0 (leaf_end text m)) (put_words (moved_to m (leaf_end text m)) deep 0) (strayed text m)

unfoldable pub leaf_code : List ℕ → Mark → List ℕ → List ℕ
leaf_code text m code =
    cond (ltb 0 (leaf_end text m))
    (put_code (moved_to m (leaf_end text m))
    (leaf_word (next_mark text m) (min m.at 1024) (min (leaf_end text m) 1024)) code) code
