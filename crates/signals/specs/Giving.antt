-- Statement: What a call without a fault gives, word by word: the one normal list of a signal. Tidying and every operation on lists do.
use Rattle.std.specs.Prelude.{ℕ, ◌≤◌, ◌<◌, List, ◌++◌, ◌≡◌, length, get_or, drop}
use Rattle.signals.specs.Moment.{M}
use Rattle.signals.specs.Signal.{Signal}
use Rattle.signals.specs.Words.{date_of, signal_of}
use Rattle.signals.specs.Settled.{Same}
use Rattle.signals.specs.Normal.{Accepted}
use Rattle.signals.specs.declared.Written.{Written}
use Rattle.signals.specs.declared.Written.TheVariants.{Count}

-- no word is dated after M, as none of 32 bits is
abbrev pub WithinM : List ℕ → Type 0
WithinM l = (i : ℕ) → i < length l → date_of (get_or l i 0) ≤ M

-- A call's answer and its output at exit, given the output at entry, give the list `words` of the signal.
pub record Gives (signal : Signal) (out : List ℕ) (answer : Written) (after : List ℕ) : Type 0 where
  pub words : List ℕ
  -- the answer is their number; the output is these words, those past the count being the old ones
  pub answered : answer ≡ Count (length words)
  pub fits : length words ≤ length out
  pub written : after ≡ words ++ drop (length words) out
  -- they are an accepted list (normal, at most 256 words) with no date above M
  pub accepted : Accepted words
  pub dated : WithinM words
  -- that list denotes the signal at every moment, and no other accepted list does
  pub denotes : Same (signal_of words) signal
  pub only : (l : List ℕ) → Accepted l → Same (signal_of l) signal → l ≡ words
