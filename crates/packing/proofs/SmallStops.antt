-- Where reading a formula stops fits in 48 bits, and the number of a text tells both its parts.
use Prim.Native.Nat.{ℕ, ◌/◌, ◌%◌, ◌<◌, ◌≤◌}
use native.Mathlib.Omega.{arith}
use native.Mathlib.Decide.{dec_lt}
use mathlib.Core.Path.{◌≡◌, refl, sym, ◌∙◌, subst}
use mathlib.Core.List.{List}
use lib.ListN.{length}
use borrow.Author.Tests.{lt-ltb, le-ltb}
use Rattle.signals.specs.Checks.{NoFault, Exactly}
use Rattle.signals.specs.Answers.{written_of}
use Rattle.grammar.specs.Formula.{formula_fault, stop_of, stop_place, code_of}
use Rattle.grammar.specs.Exactness.{FormulaChecks}
use Rattle.grammar.proofs.Faults.{faults_exact}
use Rattle.grammar.proofs.Coding.{accepted_code}
use Rattle.beginnings.specs.Beginnings.{LongestBeginning}
use Rattle.beginnings.proofs.Stopping.{stops_exact}
use Rattle.packing.specs.Packing.{pack_stop, stop_bits}
use Rattle.packing.specs.StopsPacked.{StopsPacked, stop_number}
use Rattle.packing.proofs.SmallAnswers.{SmallWritten, written_small}
use Rattle.packing.proofs.SmallCalls.{formula_small}

-- a text that is read stops where it does, in its first 1,024 bytes
stop_read : (w : List ℕ) → length w ≤ 1024 → stop_place w ≡ stop_of w
unfolding stop_place
stop_read w h = rw (le-ltb 1024 (length w) h) refl

stop_long : (w : List ℕ) → 1024 < length w → stop_place w ≡ 0
unfolding stop_place
stop_long w h = rw (lt-ltb 1024 (length w) h) refl

pub stop_small : (w : List ℕ) → stop_place w ≤ 1024
stop_small w = go (dec_lt 1024 (length w))
  where
    go : Dec (1024 < length w) → stop_place w ≤ 1024
    go (yes h) = omega (arith, stop_long w h)
    go (no h) = omega (arith, h, stop_read w (omega (arith, h)), (stops_exact w).within)

pub packed_stop : (w : List ℕ) (fault place : ℕ) → fault ≡ formula_fault w → place ≡ stop_place w → stop_bits fault place ≡ stop_number w
unfolding stop_bits pack_stop
packed_stop w fault place e f = omega (arith, e, f, formula_small w, stop_small w)

-- a formula has at most 32 parts
pub parts_small : (w : List ℕ) → SmallWritten (written_of (formula_fault w) (code_of w))
parts_small w = written_small (formula_fault w) (code_of w) (formula_small w) (λ e. omega (arith, (accepted_code w e).1))

high : (w : List ℕ) → stop_number w / 281474976710656 ≡ formula_fault w
unfolding pack_stop
high w = omega (arith, stop_small w)

low : (w : List ℕ) → stop_number w % 281474976710656 ≡ stop_place w
unfolding pack_stop
low w = omega (arith, stop_small w)

pub stops_packed : StopsPacked
stops_packed =
    record {
      fault = λ w. subst (Exactly (FormulaChecks w NoFault)) (sym (high w)) (faults_exact w);
      place = λ w h. subst (LongestBeginning w) (sym (low w ∙ stop_read w h)) (stops_exact w);
      long = λ w h. low w ∙ stop_long w h;
    }
