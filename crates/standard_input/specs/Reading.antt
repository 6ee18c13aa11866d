-- Believed: What a contract can say of a reading of standard input: no more bytes were read than count, and the buffer keeps its length.
-- Which bytes they are, it cannot say.
use Rattle.std.specs.Prelude.{ℕ, ◌≤◌, ◌≡◌, List, length, Result, Ok, Err}
use Rattle.inputs.specs.Input.{limit}

-- the bytes read, none where a read failed
abbrev pub bytes_read : {E : Type 0} → Result ℕ E → ℕ
bytes_read (Ok n) = n
bytes_read (Err e) = 0

abbrev pub ReadInto : {E : Type 0} → Result ℕ E → List ℕ → Type 0
ReadInto read buffer = (bytes_read read ≤ limit) × (length buffer ≡ limit)
