-- The faults of lookup and append are given exactly when their sentences hold and none before them does.
use Prim.Native.Nat.{ℕ, ◌≤◌, ◌<◌}
use native.Mathlib.Omega.{arith}
use mathlib.Core.Path.{◌≡◌, refl, sym, ◌∙◌}
use mathlib.Core.Bool.{Bool, true, false, not, cond, ◌||◌}
use mathlib.Core.List.{List}
use mathlib.Core.Logic.{◌⊎◌, inl, inr}
use lib.Dec.{leb, ltb}
use lib.ListN.{length}
use borrow.Author.Tests.{ltb-true, ltb-false, leb-true, leb-false}
use Rattle.signals.specs.Words.{list_fault}
use Rattle.signals.specs.Answers.{first_of}
use Rattle.signals.specs.Checks.{Check, FaultCheck, NoFault}
use Rattle.signals.proofs.Checks.{Single, none_single, check_single, check_by, fault_check, exactly}
use Rattle.names.specs.Names.{well_named}
use Rattle.names.specs.Sentence.{IsName}
use Rattle.signals.proofs.Truth.{true_false}
use Rattle.names.proofs.NamesExact.{names_exact}
use Rattle.format.proofs.SheetFields.{among_one, not_one_lem}
use Rattle.format.specs.Names.{among}
use Rattle.format.specs.Reading.{sheet_fault, signals_on, names}
use Rattle.format.specs.Calls.{lookup_fault, append_fault, appended}
use Rattle.format.specs.Sentences.{OneOf, LookupFaultIs, LookupFaultsExact, AppendFaultIs, AppendFaultsExact}

not_named : (name : List ℕ) → well_named name ≡ false → ¬ IsName name
not_named name e n = true_false (sym ((names_exact name).1 n) ∙ e)

-- 16 and 13 by their tests, s that it is a name, t that the sheet has it
looked : (sheet name : List ℕ) (s t : Bool) → well_named name ≡ s → among name (names (signals_on sheet)) ≡ t
    → Check 16 (¬ IsName name) (Check 13 (¬ OneOf (names (signals_on sheet)) name) NoFault) (cond s (cond t 0 13) 16)
looked sheet name false t p q = inl (not_named name p, refl)
looked sheet name true false p q = inr ((λ n. n ((names_exact name).0 p)), inl (not_one_lem name (names (signals_on sheet)) q, refl))
looked sheet name true true p q =
    inr ((λ n. n ((names_exact name).0 p)), inr ((λ o. o (among_one name (names (signals_on sheet)) q)), refl))

lookup_given : (sheet name : List ℕ)
    → LookupFaultIs sheet name (lookup_fault sheet name)
unfolding lookup_fault
lookup_given sheet name =
    fault_check (sheet_fault sheet) (cond (well_named name) (cond (among name (names (signals_on sheet))) 0 13) 16)
    (Check 16 (¬ IsName name) (Check 13 (¬ OneOf (names (signals_on sheet)) name) NoFault))
    (λ z. looked sheet name (well_named name) (among name (names (signals_on sheet))) refl refl)

pub lookup_faults_exact : LookupFaultsExact
lookup_faults_exact sheet name = exactly _ _ (check_single (check_single (check_single none_single))) (lookup_given sheet name)

-- 16 of append by its test
malformed : (sheet name : List ℕ) (s t : Bool) → well_named name ≡ s → among name (names (signals_on sheet)) ≡ t → not s || t ≡ true
    → (¬ IsName name) ⊎ OneOf (names (signals_on sheet)) name
malformed sheet name false t p q e = inl (not_named name p)
malformed sheet name true t p q e = inr (among_one name (names (signals_on sheet)) (q ∙ e))

new : (sheet name : List ℕ) (s t : Bool) → well_named name ≡ s → among name (names (signals_on sheet)) ≡ t → not s || t ≡ false
    → ¬ ((¬ IsName name) ⊎ OneOf (names (signals_on sheet)) name)
new sheet name false t p q e x = true_false e
new sheet name true t p q e (inl n) = n ((names_exact name).0 p)
new sheet name true t p q e (inr a) = not_one_lem name (names (signals_on sheet)) (q ∙ e) a

module _ (sheet name list : List ℕ) (room : ℕ) where
  abbrev short : ℕ
  short = cond (ltb room (length (appended sheet name list))) 7 0

  abbrev full : ℕ
  full = cond (leb 32 (length (signals_on sheet))) 15 short

  room_check : Check 7 (room < length (appended sheet name list)) NoFault short
  room_check =
      check_by 7 0 (room < length (appended sheet name list)) NoFault (ltb room (length (appended sheet name list)))
      (ltb-true room (length (appended sheet name list))) (λ e b. omega (arith, ltb-false room (length (appended sheet name list)) e))
      (λ e. refl)

  full_check : Check 15 (32 ≤ length (signals_on sheet)) (Check 7 (room < length (appended sheet name list)) NoFault) full
  full_check =
      check_by 15 short (32 ≤ length (signals_on sheet)) (Check 7 (room < length (appended sheet name list)) NoFault)
      (leb 32 (length (signals_on sheet))) (leb-true 32 (length (signals_on sheet)))
      (λ e b. omega (arith, leb-false 32 (length (signals_on sheet)) e)) (λ e. room_check)

  append_given : AppendFaultIs sheet name list room (append_fault sheet name list room)
  unfolding append_fault
  append_given =
      fault_check (sheet_fault sheet)
      (cond (not (well_named name) || among name (names (signals_on sheet))) 16 (first_of (list_fault list) full))
      (Check 16 ((¬ IsName name) ⊎ OneOf (names (signals_on sheet)) name) (FaultCheck (list_fault list) rest))
      (λ z. check_by 16 (first_of (list_fault list) full) ((¬ IsName name) ⊎ OneOf (names (signals_on sheet)) name)
      (FaultCheck (list_fault list) rest) (not (well_named name) || among name (names (signals_on sheet)))
      (malformed sheet name (well_named name) (among name (names (signals_on sheet))) refl refl)
      (new sheet name (well_named name) (among name (names (signals_on sheet))) refl refl)
      (λ e. fault_check (list_fault list) full rest (λ y. full_check)))
    where
      rest : ℕ → Type 0
      rest = Check 15 (32 ≤ length (signals_on sheet)) (Check 7 (room < length (appended sheet name list)) NoFault)

  append_single : Single (AppendFaultIs sheet name list room)
  append_single = check_single (check_single (check_single (check_single (check_single none_single))))

pub append_faults_exact : AppendFaultsExact
append_faults_exact sheet name list room =
    exactly (AppendFaultIs sheet name list room) (append_fault sheet name list room) (append_single sheet name list room)
    (append_given sheet name list room)
