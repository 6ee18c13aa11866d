-- Statement: Statements on the grammar and its reader, and the sentences of faults 10, 11, 8 and 12 through the grammar.
use Rattle.std.specs.Prelude.{◌≤◌, ℕ, ◌<◌, ◌≡◌, true, List, map, ◌⊎◌, ◌↔◌, length}
use Rattle.signals.specs.Moment.{M}
use Rattle.signals.specs.Checks.{Check, NoFault, Exactly}
use Rattle.grammar.specs.Tree.{Tree, Leaf, Unary, Binary, leaf, unary, binary, name, down, up, ton, tof, tp}
use Rattle.grammar.specs.Code.{code}
use Rattle.names.specs.Names.{well_named}
use Rattle.grammar.specs.Grammar.{Sum}
use Rattle.grammar.specs.Formula.{accepted, formula_tree, depth_of, parts_of, formula_fault, code_of}
use Rattle.grammar.specs.PartWords.{part_of}

-- The reader accepts exactly the bytes that the grammar derives, with that tree and depth.
abbrev pub ReaderExact : Type 0
ReaderExact = (w : List ℕ) (t : Tree) (d : ℕ) → Sum w t d ↔ ((accepted w ≡ true) × (formula_tree w ≡ t) × (depth_of w ≡ d))

-- No bytes have two trees, nor two depths.
abbrev pub OneTree : Type 0
OneTree = (w : List ℕ) (t u : Tree) (d e : ℕ) → Sum w t d → Sum w u e → (t ≡ u) × (d ≡ e)

-- The parts that the reader gives are the tree's in working-out order.
abbrev pub PartsExact : Type 0
PartsExact = (w : List ℕ) (t : Tree) (d : ℕ) → Sum w t d → parts_of w ≡ code t

-- every name of a tree is a name
abbrev pub LeafWritable : Leaf → Type 0
LeafWritable down = Unit
LeafWritable up = Unit
LeafWritable (name w) = well_named w ≡ true

abbrev pub Writable : Tree → Type 0
Writable (leaf l) = LeafWritable l
Writable (unary o t) = Writable t
Writable (binary o t u) = Writable t × Writable u

-- Every tree whose names are names has a text: lengths are numbers, and each has its decimal digits.
abbrev pub EveryTreeWritten : Type 0
EveryTreeWritten = (t : Tree) → Writable t → (w : List ℕ) × (d : ℕ) × Sum w t d

-- n is a length of the tree
pub data LengthIn (n : ℕ) : Tree → Type 0 where
  of_ton : {t : Tree} → LengthIn n (unary (ton n) t)
  of_tof : {t : Tree} → LengthIn n (unary (tof n) t)
  of_tp : {t : Tree} → LengthIn n (unary (tp n) t)
  under : {o : Unary} {t : Tree} → LengthIn n t → LengthIn n (unary o t)
  first : {o : Binary} {t u : Tree} → LengthIn n t → LengthIn n (binary o t u)
  second : {o : Binary} {t u : Tree} → LengthIn n u → LengthIn n (binary o t u)

-- 10: formula empty or over 1,024 bytes
abbrev pub Breaks10 : List ℕ → Type 0
Breaks10 w = (length w ≡ 0) ⊎ (1024 < length w)

-- 11: outside the grammar
abbrev pub Breaks11 : List ℕ → Type 0
Breaks11 w = (t : Tree) (d : ℕ) → Sum w t d → ⊥

-- 8: length above M
abbrev pub Breaks8 : List ℕ → Type 0
Breaks8 w = (t : Tree) × (d : ℕ) × (n : ℕ) × Sum w t d × LengthIn n t × (M < n)

-- 12: over 32 parts, or depth over 16
abbrev pub Breaks12 : List ℕ → Type 0
Breaks12 w = (t : Tree) × (d : ℕ) × Sum w t d × ((32 < length (code t)) ⊎ (16 < d))

-- a formula's checks in their order, 10, 11, 8, 12, and what is checked after them
abbrev pub FormulaChecks : List ℕ → (ℕ → Type 0) → ℕ → Type 0
FormulaChecks w later = Check 10 (Breaks10 w) (Check 11 (Breaks11 w) (Check 8 (Breaks8 w) (Check 12 (Breaks12 w) later)))

-- Each fault is given exactly when its sentence holds and none before it does; and none exactly when none holds.
abbrev pub FaultsExact : Type 0
FaultsExact = (w : List ℕ) → Exactly (FormulaChecks w NoFault) (formula_fault w)

-- The code words of an accepted formula without a length above M stand for its tree's parts in working-out order.
abbrev pub CodeExact : Type 0
CodeExact = (w : List ℕ) (t : Tree) (d : ℕ) → Sum w t d → (Breaks8 w → ⊥) → map (part_of w) (code_of w) ≡ code t

-- The code words of a formula without a fault, at most 32, stand for its tree's parts in working-out order.
abbrev pub AcceptedCode : Type 0
AcceptedCode = (w : List ℕ) → formula_fault w ≡ 0 → (map (part_of w) (code_of w) ≡ code (formula_tree w)) × (length (code_of w) ≤ 32)
