-- Statement: The one normal list of a signal.
use Rattle.std.specs.Prelude.{ℕ, ◌≤◌, ◌<◌, ◌≡◌, List, length, get_or}
use Rattle.signals.specs.Moment.{M}
use Rattle.signals.specs.Signal.{Signal}
use Rattle.signals.specs.Words.{date_of, signal_of}
use Rattle.signals.specs.Settled.{Same}
use Rattle.signals.specs.Normal.{Normal, Accepted}

-- l is a normal list and denotes s at every instant and in every gap; a signal has one such list
pub record ListFor (s : Signal) (l : List ℕ) : Type 0 where
  pub normal : Normal l
  pub denotes : Same (signal_of l) s

-- l is the one normal list of s, accepted by every call that reads lists, with no date past M
pub record TheList (s : Signal) (l : List ℕ) : Type 0 where
  pub listed : ListFor s l
  pub only : (m : List ℕ) → ListFor s m → m ≡ l
  pub accepted : Accepted l
  pub within_m : (i : ℕ) → i < length l → date_of (get_or l i 0) ≤ M
