-- Believed: The tree of a formula, and the signal that it stands for when each name stands for a signal.
use Rattle.std.specs.Prelude.{ℕ, true, false, List}
use Rattle.signals.specs.Signal.{Signal, constant, NOT, AND, OR, rising, falling, SR, RS, TON, TOF, TP}

-- 0, 1 and names, as their bytes
pub data Leaf : Type 0 where
  down up : Leaf
  name : List ℕ → Leaf

-- ! ^ ~, and the timers TON, TOF and TP with their length
pub data Unary : Type 0 where
  invert rise fall : Unary
  ton tof tp : ℕ → Unary

-- . + SR RS
pub data Binary : Type 0 where
  and or sr rs : Binary

pub data Tree : Type 0 where
  leaf : Leaf → Tree
  unary : Unary → Tree → Tree
  binary : Binary → Tree → Tree → Tree

-- which signal each name stands for
abbrev pub Environment : Type 0
Environment = List ℕ → Signal

-- what the operators make of signals
abbrev pub leaf_signal : Environment → Leaf → Signal
leaf_signal env down = constant false
leaf_signal env up = constant true
leaf_signal env (name n) = env n

abbrev pub apply_unary : Unary → Signal → Signal
apply_unary invert f = NOT f
apply_unary rise f = rising f
apply_unary fall f = falling f
apply_unary (ton d) f = TON d f
apply_unary (tof d) f = TOF d f
apply_unary (tp d) f = TP d f

abbrev pub apply_binary : Binary → Signal → Signal → Signal
apply_binary and f g = AND f g
apply_binary or f g = OR f g
apply_binary sr s r = SR s r
apply_binary rs s r = RS s r

-- A formula's signal is what the operations make of its names' signals.
abbrev pub signal : Environment → Tree → Signal
signal env (leaf l) = leaf_signal env l
signal env (unary o t) = apply_unary o (signal env t)
signal env (binary o t u) = apply_binary o (signal env t) (signal env u)
