-- The printed line: how long it is, where it ends, and which refusals it tells.
use Prim.Native.Nat.{ℕ}
use native.Mathlib.Omega.{arith}
use mathlib.Core.Path.{◌≡◌, refl}
use mathlib.Core.List.{List}
use Rattle.signals.specs.declared.Verdict.TheVariants.{Refused}
use Rattle.inputs.specs.Input.{first_line, second_line, sheet_in}
use Rattle.verdict_line.proofs.Lines.{line_fits, line_ends, longest_line}
use Rattle.verdict_line.proofs.Reading.{line_tells}
use Rattle.claim_line.specs.OneLine.{OneLine}
use Rattle.claim_line.specs.Printing.{claim_of, printed}
use Rattle.claim_line.proofs.Refusals.{Given, refused_given}

given : (input : List ℕ) (n : ℕ) → claim_of input ≡ Refused n → Given n
unfolding claim_of
given input n e = refused_given (sheet_in input) (first_line input) (second_line input) n e

pub one_line : OneLine
unfolding printed
one_line =
    record {
      fits = λ input. line_fits (claim_of input);
      reached = longest_line;
      ends = λ input. line_ends (claim_of input);
      no7 = λ input e. (given input 7 e).2 refl;
      no18 = λ input e. omega (arith, (given input 18 e).1);
      refusals = given;
      tells = line_tells;
    }
