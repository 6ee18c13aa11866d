-- Small faults and counts make small answers.
use Prim.Native.Nat.{ℕ, ◌<◌}
use native.Mathlib.Omega.{arith}
use mathlib.Core.Path.{◌≡◌, refl, sym, ap, subst, ◌∙◌}
use mathlib.Core.Bool.{Bool, true, false, cond}
use mathlib.Core.List.{List}
use mathlib.Core.Option.{Option}
use lib.Dec.{eqb}
use lib.ListN.{length}
use borrow.Author.Tests.{eqb-true}
use Rattle.signals.specs.Words.{list_fault}
use Rattle.signals.specs.Answers.{first_of, fault_in, count_in, written_of, fault_of_told, Span, fault_of_verdict, verdict_for}
use Rattle.signals.specs.declared.Written.{Written}
use Rattle.signals.specs.declared.Told.{Told}
use Rattle.format.specs.Calls.{fault_of_place, first_byte, byte_count}
use Rattle.format.specs.declared.Place.{Place}
use Rattle.stretches.specs.Calls.{fault_of_up_time, count_of_up_time}
use Rattle.stretches.specs.declared.UpTime.{UpTime}
use Rattle.columns.specs.Columns.{fault_of_column, count_of_column, passed_of_column}
use Rattle.columns.specs.declared.Column.{Column}
use Rattle.signals.specs.declared.Written.TheVariants as written
use Rattle.signals.specs.declared.Verdict.{Verdict}
use Rattle.signals.proofs.AnswersSay.{answers_say}
use Rattle.signals.proofs.ListFaults.{list_fault_range}
use Rattle.packing.specs.Packing.{pack_fault, pack_written, pack_told, pack_verdict, pack_place, pack_up_time, pack_column}
use Rattle.packing.specs.Packing.{fault_bits, written_bits, told_bits, verdict_bits, place_bits, up_time_bits, column_bits}

-- Answers whose numbers have room: faults and counts below 65,536, a first byte and a byte count below 2^24, words passed below 2^32.
abbrev pub SmallWritten : Written → Type 0
SmallWritten answer = (fault_in answer < 65536) × (count_in answer < 65536)

abbrev pub SmallTold : Told → Type 0
SmallTold answer = fault_of_told answer < 65536

abbrev pub SmallVerdict : Verdict → Type 0
SmallVerdict answer = fault_of_verdict answer < 65536

abbrev pub SmallPlace : Place → Type 0
SmallPlace answer = (fault_of_place answer < 65536) × (first_byte answer < 16777216) × (byte_count answer < 16777216)

abbrev pub SmallUpTime : UpTime → Type 0
SmallUpTime answer = (fault_of_up_time answer < 65536) × (count_of_up_time answer < 65536)

abbrev pub SmallColumn : Column → Type 0
SmallColumn answer = (fault_of_column answer < 65536) × (passed_of_column answer < 4294967296) × (count_of_column answer < 65536)

-- Packed in 32 or 64 bits they are what they are packed as.
pub packed_fault : (f g : ℕ) → f ≡ g → g < 65536 → fault_bits f ≡ pack_fault g
unfolding fault_bits pack_fault
packed_fault f g e h = omega arith

pub packed_written : (w v : Written) → w ≡ v → SmallWritten v → written_bits w ≡ pack_written v
unfolding written_bits pack_written fault_bits pack_fault
packed_written w v e h = ap written_bits e ∙ omega (arith, h.0, h.1)

pub packed_told : (w v : Told) → w ≡ v → SmallTold v → told_bits w ≡ pack_told v
unfolding told_bits pack_told fault_bits pack_fault
packed_told w v e h = ap told_bits e ∙ omega (arith, h)

pub packed_verdict : (w v : Verdict) → w ≡ v → SmallVerdict v → verdict_bits w ≡ pack_verdict v
unfolding verdict_bits pack_verdict
packed_verdict w v e h = ap verdict_bits e ∙ omega (arith, h)

pub packed_place : (w v : Place) → w ≡ v → SmallPlace v → place_bits w ≡ pack_place v
unfolding place_bits pack_place
packed_place w v e h = ap place_bits e ∙ omega (arith, h.0, h.1, h.2)

pub packed_uptime : (w v : UpTime) → w ≡ v → SmallUpTime v → up_time_bits w ≡ pack_up_time v
unfolding up_time_bits pack_up_time
packed_uptime w v e h = ap up_time_bits e ∙ omega (arith, h.0, h.1)

pub packed_column : (w v : Column) → w ≡ v → SmallColumn v → column_bits w ≡ pack_column v
unfolding column_bits pack_column
packed_column w v e h = ap column_bits e ∙ omega (arith, h.0, h.1, h.2)

pub choice : (t : Bool) (m n : ℕ) → m < 65536 → n < 65536 → cond t m n < 65536
choice true m n a b = a
choice false m n a b = b

pub first_small : (f g : ℕ) → f < 65536 → g < 65536 → first_of f g < 65536
unfolding first_of
first_small f g a b = choice (eqb f 0) g f b a

pub list_small : (l : List ℕ) → list_fault l < 65536
list_small l = omega (arith, list_fault_range l)

pub written_small : (fault : ℕ) (words : List ℕ) → fault < 65536 → (fault ≡ 0 → length words < 65536)
    → SmallWritten (written_of fault words)
unfolding written_of
written_small fault words f w = go (eqb fault 0) refl
  where
    go : (t : Bool) → eqb fault 0 ≡ t → SmallWritten (cond t (written.Count (length words)) (written.Refused fault))
    go true e = (omega arith, w (eqb-true fault 0 e))
    go false e = (f, omega arith)

pub answer_small : (fault : ℕ) (span : Option Span) → fault < 65536 → SmallVerdict (verdict_for fault span)
answer_small fault span h = subst (λ (f : ℕ). f < 65536) (sym (answers_say.verdict.fault fault span)) h
