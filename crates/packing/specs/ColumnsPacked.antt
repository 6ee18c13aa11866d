-- Statement: Document 02, request 5, in C: the number of a column's call has 64 bits, 16 of the fault, 32 of the number of words passed and
-- 16 of the count of words written, one a moment. With a fault the last two are 0.
use Rattle.std.specs.Prelude.{ℕ, ◌/◌, ◌%◌, ◌<◌, ◌≡◌, List, length}
use Rattle.signals.specs.Checks.{Exactly}
use Rattle.columns.specs.Columns.{column_fault, column_answer}
use Rattle.columns.specs.Sentences.{ColumnFaultIs, PassedBy}
use Rattle.packing.specs.Packing.{pack_column, column_bits}

-- the answer to a list and moments where the output has `room` words, in one number
abbrev pub column_number : List ℕ → List ℕ → ℕ → ℕ
column_number l ms room = pack_column (column_answer l ms room)

pub record ColumnsPacked : Type 0 where
  -- that of the list, 20, 9 and 7, each exactly when its sentence holds and none before it does
  pub fault : (l ms : List ℕ) (room : ℕ) → Exactly (ColumnFaultIs l ms room) (column_number l ms room / 281474976710656)
  pub count : (l ms : List ℕ) (room : ℕ) → column_fault l ms room ≡ 0 → column_number l ms room % 65536 ≡ length ms
  pub passed : (l ms : List ℕ) (room : ℕ) → column_fault l ms room ≡ 0 → PassedBy l ms (column_number l ms room / 65536)
  pub refused : (l ms : List ℕ) (room : ℕ) → ¬ (column_fault l ms room ≡ 0) → column_number l ms room % 281474976710656 ≡ 0
  -- it has room in 64 bits, and is what the code packs, which cuts off what has none
  pub fits : (l ms : List ℕ) (room : ℕ) → column_number l ms room < 18446744073709551616
  pub bits : (l ms : List ℕ) (room : ℕ) → column_bits (column_answer l ms room) ≡ column_number l ms room
