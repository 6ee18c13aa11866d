-- Faults in their order: what a call answers when the first judgement refuses it, and when it passes.
use Prim.Native.Nat.{ℕ}
use mathlib.Core.Path.{◌≡◌, ◌∙◌}
use mathlib.Core.List.{List}
use borrow.Author.Tests.{ne_eqb}
use Rattle.signals.specs.Words.{list_fault}
use Rattle.signals.specs.Answers.{first_of, written_of, output_of}
use Rattle.signals.specs.declared.Written.{Written}
use Rattle.signals.specs.declared.Written.TheVariants.{Refused}
use Rattle.signals.proofs.FirstFault.{both_none, first_is, next_is}
use Rattle.signals.specs.Words.{pair_fault}

pub pair_none : (a b : List ℕ) → pair_fault a b ≡ 0 → (list_fault a ≡ 0) × (list_fault b ≡ 0)
unfolding pair_fault
pair_none a b h = both_none (list_fault a) (list_fault b) h

-- a refused call: the number is given, the output stays as it was
pub refused : (fault rest : ℕ) (words out : List ℕ) (f : ℕ) → f ≡ fault → (f ≡ 0 → ⊥)
    → (Refused f ≡ written_of (first_of fault rest) words) × (out ≡ output_of (first_of fault rest) words out)
unfolding written_of output_of
refused fault rest words out f e n =
    let m : fault ≡ 0 → ⊥ = λ z. n (e ∙ z) in
    (rw (first_is fault rest m, ne_eqb fault 0 m, e), rw (first_is fault rest m, ne_eqb fault 0 m))

-- one that passes its first judgement
pub passes_on : (fault rest : ℕ) (words out : List ℕ) (r : Written) (after : List ℕ) → fault ≡ 0
    → (r ≡ written_of rest words) × (after ≡ output_of rest words out)
    → (r ≡ written_of (first_of fault rest) words) × (after ≡ output_of (first_of fault rest) words out)
passes_on fault rest words out r after z h = rw (next_is fault rest z) h
