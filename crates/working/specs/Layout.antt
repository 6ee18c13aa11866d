-- Statement: Where the slots of the work area stand, 256 words each: 32 for the stack of a call, which is all that sheets of version 1
-- need, and above them room for the lists of 32 kept formulas.
use Rattle.std.specs.Prelude.{ℕ, ◌+◌, ◌*◌, ◌≤◌, ◌<◌, ◌≡◌}
use Rattle.signals.specs.Words.{most_words}
use Rattle.calls.specs.Calls.{work_words}

abbrev pub slot_at : ℕ → ℕ
slot_at k = most_words * k

abbrev pub stack_slots : ℕ
stack_slots = 32

abbrev pub kept_at : ℕ → ℕ
kept_at k = slot_at (stack_slots + k)

-- No two slots overlap, the stack's fill the work words that a call needs, and those of kept formulas the 8,192 words above them.
pub record LayoutFits : Type 0 where
  pub apart : (j k : ℕ) → j < k → slot_at j + most_words ≤ slot_at k
  pub stack : slot_at stack_slots ≡ work_words
  pub kept : kept_at 0 ≡ work_words
  pub all : kept_at 32 ≡ 16384
