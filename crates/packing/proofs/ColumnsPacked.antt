-- The answers of the column's call are small, and the number of a call tells its fault, its count and the words passed.
use Prim.Native.Nat.{ℕ, ◌+◌, ◌*◌, ◌/◌, ◌<◌}
use native.Mathlib.Omega.{arith}
use mathlib.Core.Path.{◌≡◌, refl, sym, subst}
use mathlib.Core.Bool.{Bool, true, false, cond}
use mathlib.Core.List.{List}
use lib.Dec.{eqb}
use lib.ListN.{length}
use borrow.Author.Tests.{eqb-true, eq-eqb, ne_eqb}
use Rattle.signals.specs.Checks.{Exactly}
use Rattle.columns.specs.Columns.{words_passed, column_fault, column_for, column_answer}
use Rattle.columns.specs.Sentences.{ColumnFaultIs, PassedBy}
use Rattle.columns.specs.declared.Column.TheVariants.{Filled, Refused}
use Rattle.columns.proofs.CallFaults.{column_faults_exact, column_fault_range}
use Rattle.columns.proofs.PassedWords.{passed_by}
use Rattle.columns.proofs.FineCalls.{fine}
use Rattle.columns.proofs.CallGives.{column_says}
use Rattle.packing.specs.Packing.{pack_column}
use Rattle.packing.specs.ColumnsPacked.{ColumnsPacked, column_number}
use Rattle.packing.proofs.SmallAnswers.{SmallColumn, packed_column}

module _ (l ms : List ℕ) (room : ℕ) where
  small : SmallColumn (column_answer l ms room)
  unfolding column_answer column_for
  small = go (eqb (column_fault l ms room) 0) refl
    where
      go : (t : Bool) → eqb (column_fault l ms room) 0 ≡ t
          → SmallColumn (cond t (Filled (length ms) (words_passed l ms)) (Refused (column_fault l ms room)))
      go true e =
          let f = fine l ms room (eqb-true (column_fault l ms room) 0 e) in
          (omega arith, omega (arith, f.few), omega (arith, f.most))
      go false e = (omega (arith, column_fault_range l ms room), omega arith, omega arith)

  fits : column_number l ms room < 18446744073709551616
  unfolding pack_column
  fits = let h = small in omega (arith, h.0, h.1, h.2)

  high : column_number l ms room / 281474976710656 ≡ column_fault l ms room
  unfolding pack_column column_answer
  high =
      let h = small in
      omega (arith, h.1, h.2, column_says.fault (column_fault l ms room) (length ms) (words_passed l ms))

  filled : column_fault l ms room ≡ 0 → column_number l ms room ≡ 65536 * words_passed l ms + length ms
  unfolding pack_column column_answer column_for
  filled z = rw (eq-eqb (column_fault l ms room) 0 z) (omega arith)

  refused : ¬ (column_fault l ms room ≡ 0) → column_number l ms room ≡ 281474976710656 * column_fault l ms room
  unfolding pack_column column_answer column_for
  refused n = rw (ne_eqb (column_fault l ms room) 0 n) (omega arith)

pub columns_packed : ColumnsPacked
columns_packed =
    record {
      fault = λ l ms room. subst (Exactly (ColumnFaultIs l ms room)) (sym (high l ms room)) (column_faults_exact l ms room);
      count = λ l ms room z. omega (arith, filled l ms room z, (fine l ms room z).most);
      passed = λ l ms room z.
          let f = fine l ms room z in
          subst (PassedBy l ms) (omega (arith, filled l ms room z, f.most)) (passed_by l ms f.list);
      refused = λ l ms room n. omega (arith, refused l ms room n);
      fits = fits;
      bits = λ l ms room. packed_column _ _ refl (small l ms room);
    }
