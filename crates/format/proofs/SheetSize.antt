-- A sheet that is accepted has at most 33,095 bytes: 32 signals of at most 1,034.
use Prim.Native.Nat.{ℕ, zero, suc, ◌+◌, ◌*◌, ◌≤◌}
use native.Mathlib.Omega.{arith}
use mathlib.Core.Path.{◌≡◌, refl}
use mathlib.Core.Bool.{Bool, true, false, cond}
use mathlib.Core.List.{List, [], ◌∷◌, ◌++◌}
use lib.Dec.{eqb}
use lib.ListN.{length, drop, length-drop}
use borrow.Author.Tests.{eqb-true}
use Rattle.signals.specs.Answers.{first_of}
use Rattle.signals.proofs.FirstFault.{both_none}
use Rattle.format.specs.Reading.{signal_size, word_count, name_at, signal_fault, signals_fault, sheet_fault, count_on}
use Rattle.format.proofs.Judging.{sound}
use Rattle.format.proofs.Locating.{front_none, signals_none}

signals_short : (earlier : List (List ℕ)) (n : ℕ) (rest : List ℕ) → signals_fault earlier n rest ≡ 0 → length rest ≤ 1034 * n
unfolding signals_fault signal_size first_of
signals_short earlier zero rest z = last (eqb (length rest) 0) refl z
  where
    last : (t : Bool) → eqb (length rest) 0 ≡ t → ◌≡◌ {A = ℕ} (cond t 0 15) 0 → length rest ≤ 0
    last true e k = omega (arith, eqb-true (length rest) 0 e)
    last false e k = absurd (omega arith)
signals_short earlier (suc n) rest z =
    let e = both_none (signal_fault earlier rest) _ z in
    let m = (sound earlier rest e.0).most in
    let h = signals_short (earlier ++ name_at rest ∷ []) n (drop (10 + 4 * word_count rest) rest) e.1 in
    omega (arith, length-drop (10 + 4 * word_count rest) rest)

pub sheet_short : (sheet : List ℕ) → sheet_fault sheet ≡ 0 → length sheet ≤ 33095
sheet_short sheet z =
    let f = (front_none sheet z).few in
    omega (arith, signals_short [] (count_on sheet) (drop 7 sheet) (signals_none sheet z), length-drop 7 sheet)
