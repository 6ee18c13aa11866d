-- Appending takes a lookup's faults, but for a name that the sheet has, which is 16, and one that it has not, which may go on.
use Prim.Native.Nat.{ℕ}
use native.Mathlib.Omega.{arith}
use mathlib.Core.Path.{◌≡◌, refl, sym, ◌∙◌}
use mathlib.Core.Bool.{Bool, true, false, cond}
use mathlib.Core.Logic.{inl, inr}
use mathlib.Core.List.{List}
use lib.Dec.{eqb}
use borrow.Author.Tests.{eqb-true, eqb-false}
use Rattle.signals.proofs.FirstFault.{first_is, next_is}
use Rattle.names.specs.Names.{well_named}
use Rattle.format.specs.Names.{among}
use Rattle.format.specs.Reading.{sheet_fault, signals_on, names}
use Rattle.format.specs.Calls.{lookup_fault, append_fault}
use Rattle.format.proofs.Locating.{Found, lookup_none}
use Rattle.format.proofs.FaultNumbers.{OfSheets, sheet_of}
use Rattle.format.proofs.Appending.{Fresh, append_sheet, append_malformed, append_repeated}

not_13 : (f : ℕ) → OfSheets f → f ≡ 13 → ⊥
not_13 f (inl e) z = omega arith
not_13 f (inr e) z = omega (arith, e.0)

-- a lookup by its tests
pub data Looks (sheet name : List ℕ) : Type 0 where
  faulty : (sheet_fault sheet ≡ 0 → ⊥) → lookup_fault sheet name ≡ sheet_fault sheet → Looks sheet name
  malformed : sheet_fault sheet ≡ 0 → well_named name ≡ false → lookup_fault sheet name ≡ 16 → Looks sheet name
  fresh : Fresh sheet name → lookup_fault sheet name ≡ 13 → Looks sheet name
  there : Found sheet name → lookup_fault sheet name ≡ 0 → Looks sheet name

looks : (sheet name : List ℕ) → Looks sheet name
unfolding lookup_fault
looks sheet name = go (eqb (sheet_fault sheet) 0) refl
  where
    tests : (z : sheet_fault sheet ≡ 0) (w k : Bool) → well_named name ≡ w → among name (names (signals_on sheet)) ≡ k
        → lookup_fault sheet name ≡ cond w (cond k 0 13) 16 → Looks sheet name
    tests z true true a b e = there (record { fine = z; named = a; held = b }) e
    tests z true false a b e = fresh (record { fine = z; named = a; new = b }) e
    tests z false k a b e = malformed z a e

    go : (t : Bool) → eqb (sheet_fault sheet) 0 ≡ t → Looks sheet name
    go true e =
        let z = eqb-true (sheet_fault sheet) 0 e in
        tests z (well_named name) (among name (names (signals_on sheet))) refl refl (next_is (sheet_fault sheet) _ z)
    go false e = let n = eqb-false (sheet_fault sheet) 0 e in faulty n (first_is (sheet_fault sheet) _ n)

module _ (sheet name list : List ℕ) (room : ℕ) where
  pub looked_there : lookup_fault sheet name ≡ 0 → append_fault sheet name list room ≡ 16
  looked_there e = let f = lookup_none sheet name e in append_repeated sheet name list room f.fine f.named f.held

  pub looked_refused : (lookup_fault sheet name ≡ 0 → ⊥) → (lookup_fault sheet name ≡ 13 → ⊥)
      → lookup_fault sheet name ≡ append_fault sheet name list room
  looked_refused n m = go (looks sheet name)
    where
      go : Looks sheet name → lookup_fault sheet name ≡ append_fault sheet name list room
      go (faulty z e) = e ∙ append_sheet sheet name list room z
      go (malformed z w e) = e ∙ sym (append_malformed sheet name list room z w)
      go (fresh f e) = absurd (m e)
      go (there f e) = absurd (n e)

pub looked_new : (sheet name : List ℕ) → lookup_fault sheet name ≡ 13 → Fresh sheet name
looked_new sheet name h = go (looks sheet name)
  where
    go : Looks sheet name → Fresh sheet name
    go (faulty z e) = absurd (not_13 (sheet_fault sheet) (sheet_of sheet) (sym e ∙ h))
    go (malformed z w e) = absurd (omega arith)
    go (fresh f e) = f
    go (there f e) = absurd (omega arith)
