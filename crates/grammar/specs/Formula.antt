-- Mirrored: What a formula's bytes are: its tree, parts and depth, its fault, where reading stops, and the code words that the reader
-- gives. Tied to what is believed by `ReaderExact`, `FaultsExact`, `CodeExact`, `AcceptedCode`, `StopsExact`.
use Rattle.std.specs.Prelude.{ℕ, ◌+◌, ◌*◌, Bool, cond, not, ◌&&◌, ◌||◌, List, ltb, eqb, length}
use Rattle.std.proofs.lemmas.List.Edits.{sets}
use Rattle.signals.specs.Moment.{M}
use Rattle.texts.specs.Lengths.{capped}
use Rattle.grammar.specs.Tree.{Tree, name}
use Rattle.grammar.specs.Kinds as kinds
use Rattle.grammar.specs.Code.{Part, operand, tree_of}
use Rattle.grammar.specs.PartWords.{plain_part, timed_part, name_at}
use Rattle.grammar.specs.Reader.{Emission, read_text}

-- parts themselves
abbrev pub spelled : List ℕ → Emission Part
spelled text =
    record { plain = plain_part; named = λ p k. operand (name (name_at text p k)); timed = timed_part; ticks = λ n. n }

-- code words: as they are read back (PartWords), with M + 1 for every length above M
unfoldable pub name_word : ℕ → ℕ → ℕ
name_word place count = (place * 16 + count) * 16 + kinds.NAME

unfoldable pub timer_word : ℕ → ℕ → ℕ
timer_word kind n = capped n * 16 + kind

abbrev pub coded : Emission ℕ
coded = record { plain = λ kind. kind; named = name_word; timed = timer_word; ticks = capped }

-- the whole text is read without a break of the grammar
unfoldable pub accepted : List ℕ → Bool
accepted text = (read_text (spelled text) text).ok && eqb (read_text (spelled text) text).at (length text)

-- the place where reading stops
unfoldable pub stop_of : List ℕ → ℕ
stop_of text = (read_text (spelled text) text).at

-- the same of a call: a text of over 1,024 bytes is not read
unfoldable pub stop_place : List ℕ → ℕ
stop_place text = cond (ltb 1024 (length text)) 0 (stop_of text)

-- the parts in working-out order, the tree, the largest depth and length
unfoldable pub parts_of : List ℕ → List Part
parts_of text = (read_text (spelled text) text).out

unfoldable pub formula_tree : List ℕ → Tree
formula_tree text = tree_of (parts_of text)

unfoldable pub depth_of : List ℕ → ℕ
depth_of text = (read_text (spelled text) text).deepest

unfoldable pub longest_of : List ℕ → ℕ
longest_of text = (read_text (spelled text) text).longest

-- The fault of a formula, 0 for none: 10 empty or over 1,024 bytes, 11 outside the grammar, 8 a length above M,
-- 12 over 32 parts or depth over 16.
unfoldable pub formula_fault : List ℕ → ℕ
formula_fault text =
    cond (eqb (length text) 0 || ltb 1024 (length text)) 10
    (cond (not (accepted text)) 11
    (cond (ltb M (longest_of text)) 8 (cond (ltb 32 (length (parts_of text)) || ltb 16 (depth_of text)) 12 0)))

-- the code words of a text's parts in working-out order
unfoldable pub code_of : List ℕ → List ℕ
code_of text = (read_text coded text).out

-- the code words after a call: the first are the formula's; as they were when it is refused
unfoldable pub code_after : List ℕ → List ℕ → List ℕ
code_after text old = cond (eqb (formula_fault text) 0) (sets old 0 (code_of text)) old
