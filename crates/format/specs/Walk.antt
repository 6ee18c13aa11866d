-- Mirrored: What functions assume and tell of the signals passed while they walk a sheet.
use Rattle.std.specs.Prelude.{ℕ, zero, suc, ◌+◌, ◌≤◌, List, length, drop}
use Rattle.format.specs.Reading.{signal_size}

-- n whole signals stand at the front
abbrev pub Whole : ℕ → List ℕ → Type 0
Whole zero rest = Unit
Whole (suc n) rest = (signal_size rest ≤ length rest) × Whole n (drop (signal_size rest) rest)

-- the number of bytes of n signals
unfoldable pub size_of : ℕ → List ℕ → ℕ
size_of zero rest = 0
size_of (suc n) rest = signal_size rest + size_of n (drop (signal_size rest) rest)
