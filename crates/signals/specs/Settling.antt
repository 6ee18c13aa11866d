-- Statement: The operations of signals that settle settle, and when: so each answer has a last date computed from its operands.
use Rattle.std.specs.Prelude.{ℕ, ◌+◌, max, Bool}
use Rattle.signals.specs.Signal.{Signal, Table, constant, NOT, connective, AND, OR, rising, falling, SR, RS, TON, TOF, TP}
use Rattle.signals.specs.Settled.{SettledFrom}

pub record Settling : Type 0 where
  pub constants : (v : Bool) → SettledFrom (constant v) 0
  pub not : (f : Signal) (n : ℕ) → SettledFrom f n → SettledFrom (NOT f) n
  pub tables : (table : Table) (f g : Signal) (n m : ℕ) → SettledFrom f n → SettledFrom g m → SettledFrom (connective table f g) (max n m)
  pub and : (f g : Signal) (n m : ℕ) → SettledFrom f n → SettledFrom g m → SettledFrom (AND f g) (max n m)
  pub or : (f g : Signal) (n m : ℕ) → SettledFrom f n → SettledFrom g m → SettledFrom (OR f g) (max n m)
  pub rises : (f : Signal) (n : ℕ) → SettledFrom f n → SettledFrom (rising f) n
  pub falls : (f : Signal) (n : ℕ) → SettledFrom f n → SettledFrom (falling f) n
  pub sr : (s r : Signal) (n m : ℕ) → SettledFrom s n → SettledFrom r m → SettledFrom (SR s r) (max n m)
  pub rs : (s r : Signal) (n m : ℕ) → SettledFrom s n → SettledFrom r m → SettledFrom (RS s r) (max n m)
  pub ton : (d : ℕ) (f : Signal) (n : ℕ) → SettledFrom f n → SettledFrom (TON d f) (n + d)
  pub tof : (d : ℕ) (f : Signal) (n : ℕ) → SettledFrom f n → SettledFrom (TOF d f) (n + d)
  pub tp : (d : ℕ) (f : Signal) (n : ℕ) → SettledFrom f n → SettledFrom (TP d f) (n + d)
