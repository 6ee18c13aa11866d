-- The faults of the up-time call in their order: those of the lookup, then 19, then 7.
use Prim.Native.Nat.{ℕ, ◌<◌}
use native.Mathlib.Omega.{arith}
use mathlib.Core.Path.{◌≡◌, refl, sym, ◌∙◌, subst}
use mathlib.Core.Bool.{Bool, true, false, cond}
use mathlib.Core.List.{List}
use mathlib.Core.Logic.{inl, inr}
use lib.Dec.{ltb}
use lib.ListN.{length}
use borrow.Author.Tests.{ltb-true, ltb-false}
use Rattle.signals.specs.Moment.{M}
use Rattle.signals.specs.Answers.{first_of}
use Rattle.signals.specs.Checks.{Check, FaultCheck, NoFault}
use Rattle.signals.proofs.Checks.{none_single, check_single, check_by, exactly}
use Rattle.signals.proofs.FirstFault.{first_is, first_some, next_is}
use Rattle.names.specs.Sentence.{IsName}
use Rattle.format.specs.Reading.{sheet_fault, signals_on, names}
use Rattle.format.specs.Calls.{lookup_fault}
use Rattle.format.specs.Sentences.{OneOf, LookupFaultIs}
use Rattle.format.proofs.ExactCalls.{lookup_faults_exact}
use Rattle.stretches.specs.Calls.{horizon_fault, up_time_words, up_time_fault}
use Rattle.stretches.specs.Sentences.{UpTimeFaultIs, UpTimeFaultsExact}

-- what is judged after a lookup
pub lookup_then : (sheet name : List ℕ) (rest : ℕ) (later : ℕ → Type 0) → later rest
    → FaultCheck (sheet_fault sheet) (Check 16 (¬ IsName name) (Check 13 (¬ OneOf (names (signals_on sheet)) name) later))
    (first_of (lookup_fault sheet name) rest)
lookup_then sheet name rest later h = go ((lookup_faults_exact sheet name (lookup_fault sheet name)).0 refl)
  where
    go : LookupFaultIs sheet name (lookup_fault sheet name)
        → FaultCheck (sheet_fault sheet) (Check 16 (¬ IsName name) (Check 13 (¬ OneOf (names (signals_on sheet)) name) later))
        (first_of (lookup_fault sheet name) rest)
    go (inl a) = inl (a.0, first_is (lookup_fault sheet name) rest (λ z. a.0 (sym a.1 ∙ z)) ∙ a.1)
    go (inr (a, inl b)) = inr (a, inl (b.0, first_some (lookup_fault sheet name) rest 16 b.1 (omega arith)))
    go (inr (a, inr (b, inl c))) = inr (a, inr (b, inl (c.0, first_some (lookup_fault sheet name) rest 13 c.1 (omega arith))))
    go (inr (a, inr (b, inr (c, z)))) = inr (a, inr (b, inr (c, subst later (sym (next_is (lookup_fault sheet name) rest z)) h)))

-- 19, then what is judged after it
pub horizon_then : (H rest : ℕ) (later : ℕ → Type 0) → later rest → Check 19 (M < H) later (first_of (horizon_fault H) rest)
unfolding horizon_fault
horizon_then H rest later h = go (ltb M H) refl
  where
    go : (b : Bool) → ltb M H ≡ b → Check 19 (M < H) later (first_of (cond b 19 0) rest)
    go true e = inl (ltb-true M H e, first_some 19 rest 19 refl (omega arith))
    go false e = inr ((λ l. omega (arith, l, ltb-false M H e)), subst later (sym (next_is 0 rest refl)) h)

pub up_time_faults_exact : UpTimeFaultsExact
unfolding up_time_fault
up_time_faults_exact sheet name H room =
    exactly (UpTimeFaultIs sheet name H room) (up_time_fault sheet name H room)
    (check_single (check_single (check_single (check_single (check_single none_single)))))
    (lookup_then sheet name (first_of (horizon_fault H) (cond (ltb room n) 7 0)) (Check 19 (M < H) (Check 7 (room < n) NoFault))
    (horizon_then H (cond (ltb room n) 7 0) (Check 7 (room < n) NoFault)
    (check_by 7 0 (room < n) NoFault (ltb room n) (ltb-true room n) (λ e l. omega (arith, l, ltb-false room n e)) (λ e. refl))))
  where
    n : ℕ
    n = length (up_time_words sheet name H)
