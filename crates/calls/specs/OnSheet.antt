-- Believed: A formula's tree on a sheet: the date from which its signal is constant, its normal list, and whether the sheet has its names.
use Rattle.std.specs.Prelude.{ℕ, ◌+◌, max, Bool, true, ◌&&◌, List}
use Rattle.signals.specs.Signal.{Signal}
use Rattle.signals.specs.Words.{last_date, list_of}
use Rattle.grammar.specs.Tree.{Tree, Leaf, leaf, unary, binary, down, up, name, signal}
use Rattle.grammar.specs.Code.{ticks_of}
use Rattle.format.specs.Names.{among}
use Rattle.format.specs.Reading.{signals_on, names, list_named, environment_on}

-- A formula's signal on a sheet is what the operations make of its names' signals there: a name stands for the signal that the sheet
-- gives it.
abbrev pub signal_on : List ℕ → Tree → Signal
signal_on sheet t = signal (environment_on sheet) t

-- a constant never changes; a name's signal is constant from its list's last date on
abbrev pub leaf_date : List ℕ → Leaf → ℕ
leaf_date sheet down = 0
leaf_date sheet up = 0
leaf_date sheet (name n) = last_date (list_named n (signals_on sheet))

-- a date from which the signal is constant: a timer adds its length, the later of two operands counts
unfoldable pub settling_date : List ℕ → Tree → ℕ
settling_date sheet (leaf l) = leaf_date sheet l
settling_date sheet (unary o t) = settling_date sheet t + ticks_of o
settling_date sheet (binary o t u) = max (settling_date sheet t) (settling_date sheet u)

-- the normal list of its signal
unfoldable pub exact_on : List ℕ → Tree → List ℕ
exact_on sheet t = list_of (signal_on sheet t) (settling_date sheet t)

-- the sheet has every name of the tree
abbrev pub leaf_found : List ℕ → Leaf → Bool
leaf_found sheet down = true
leaf_found sheet up = true
leaf_found sheet (name n) = among n (names (signals_on sheet))

unfoldable pub names_found : List ℕ → Tree → Bool
names_found sheet (leaf l) = leaf_found sheet l
names_found sheet (unary o t) = names_found sheet t
names_found sheet (binary o t u) = names_found sheet t && names_found sheet u
