-- Believed: The answers of the library as the one number that an exported function returns, and that number in its 32 or 64 bits for every
-- answer.
use Rattle.std.specs.Prelude.{ℕ, ◌+◌, ◌*◌, ◌-◌, ◌/◌, ◌%◌, Bool, [], ◌∷◌, eqb}
use Rattle.signals.specs.Signal.{Table, num}
use Rattle.signals.specs.Answers.{fault_in, count_in, fault_of_told, value_in, fault_of_verdict}
use Rattle.format.specs.Calls.{fault_of_place, first_byte, byte_count}
use Rattle.stretches.specs.Calls.{fault_of_up_time, count_of_up_time, total_of_up_time}
use Rattle.stretches.specs.declared.UpTime.{UpTime}
use Rattle.columns.specs.Numbers.{instant_number, gap_number}
use Rattle.columns.specs.Columns.{fault_of_column, count_of_column, passed_of_column}
use Rattle.columns.specs.declared.Column.{Column}
use Rattle.signals.specs.declared.Written.{Written}
use Rattle.signals.specs.declared.Told.{Told}
use Rattle.signals.specs.declared.End.{End}
use Rattle.signals.specs.declared.End.TheVariants as ends
use Rattle.signals.specs.declared.Verdict.{Verdict}
use Rattle.signals.specs.declared.Verdict.TheVariants as verdict
use Rattle.format.specs.declared.Place.{Place}

-- 65,536 × fault
unfoldable pub pack_fault : ℕ → ℕ
pack_fault f = 65536 * f

-- 65,536 × fault + count; the count is 0 when refused
unfoldable pub pack_written : Written → ℕ
pack_written answer = pack_fault (fault_in answer) + count_in answer

-- 65,536 × fault + the value, 1 for yes (up) and 0 for no (down)
unfoldable pub pack_told : Told → ℕ
pack_told answer = pack_fault (fault_of_told answer) + num (value_in answer)

-- what fails first: 0 for nothing, 2k for the instant k, 2k+1 for the gap k
unfoldable pub pack_moment : Verdict → ℕ
pack_moment verdict.Holds = 0
pack_moment (verdict.FailsAt k end) = instant_number k
pack_moment (verdict.FailsAfter k end) = gap_number k
pack_moment (verdict.Refused f) = 0

-- 2^40 × fault + what fails first
unfoldable pub pack_verdict : Verdict → ℕ
pack_verdict answer = 1099511627776 * fault_of_verdict answer + pack_moment answer

-- the last moment of a run that ends so, in the same way: 0 for none, since it never ends
unfoldable pub pack_end : End → ℕ
pack_end (ends.At k) = instant_number k
pack_end (ends.Before k) = 2 * k - 1
pack_end ends.Never = 0

-- what fails last of the first run: 0 for good, where nothing fails and when refused
unfoldable pub pack_last : Verdict → ℕ
pack_last verdict.Holds = 0
pack_last (verdict.FailsAt k end) = pack_end end
pack_last (verdict.FailsAfter k end) = pack_end end
pack_last (verdict.Refused f) = 0

-- 2^32 × (fault, or what fails last of the first run) + what fails first
unfoldable pub pack_span : Verdict → ℕ
pack_span answer = 4294967296 * (fault_of_verdict answer + pack_last answer) + pack_moment answer

-- 2^48 × fault + 2^24 × first byte + byte count; the last two are 0 when refused
unfoldable pub pack_place : Place → ℕ
pack_place answer = 281474976710656 * fault_of_place answer + 16777216 * first_byte answer + byte_count answer

-- 2^48 × fault + 2^16 × total + count; the last two are 0 when refused
unfoldable pub pack_up_time : UpTime → ℕ
pack_up_time answer = 281474976710656 * fault_of_up_time answer + 65536 * total_of_up_time answer + count_of_up_time answer

-- 2^48 × fault + 2^16 × number of words passed + count; the last two are 0 when refused
unfoldable pub pack_column : Column → ℕ
pack_column answer = 281474976710656 * fault_of_column answer + 65536 * passed_of_column answer + count_of_column answer

-- 2^48 × fault + the place where reading a formula stops
unfoldable pub pack_stop : ℕ → ℕ → ℕ
pack_stop fault place = 281474976710656 * fault + place

-- The same in 32 bits, or in 64 for a verdict, a span, a place, an up-time, a column and a stop, whatever the answer: of each number the
-- low bits that its place has room for.
unfoldable pub fault_bits : ℕ → ℕ
fault_bits f = pack_fault (f % 65536)

unfoldable pub written_bits : Written → ℕ
written_bits answer = fault_bits (fault_in answer) + count_in answer % 65536

unfoldable pub told_bits : Told → ℕ
told_bits answer = fault_bits (fault_of_told answer) + num (value_in answer)

unfoldable pub verdict_bits : Verdict → ℕ
verdict_bits answer = 1099511627776 * (fault_of_verdict answer % 16777216) + pack_moment answer

unfoldable pub span_bits : Verdict → ℕ
span_bits answer = 4294967296 * (fault_of_verdict answer + pack_last answer % 4294967296) + pack_moment answer % 4294967296

unfoldable pub place_bits : Place → ℕ
place_bits answer =
    281474976710656 * (fault_of_place answer % 65536) + 16777216 * (first_byte answer % 16777216) + byte_count answer % 16777216

unfoldable pub up_time_bits : UpTime → ℕ
up_time_bits answer =
    281474976710656 * (fault_of_up_time answer % 65536) + 65536 * total_of_up_time answer + count_of_up_time answer % 65536

unfoldable pub column_bits : Column → ℕ
column_bits answer =
    281474976710656 * (fault_of_column answer % 65536) + 65536 * (passed_of_column answer % 4294967296) + count_of_column answer % 65536

unfoldable pub stop_bits : ℕ → ℕ → ℕ
stop_bits fault place = pack_stop (fault % 65536) (place % 281474976710656)

-- the bit of weight i of a number
unfoldable pub bit : ℕ → ℕ → Bool
bit n i = eqb (n / i % 2) 1

-- the table of a number: bit 2·row + column; only the low four bits count
unfoldable pub table_in : ℕ → Table
table_in n = (bit n 1 ∷ bit n 2 ∷ []) ∷ (bit n 4 ∷ bit n 8 ∷ []) ∷ []
