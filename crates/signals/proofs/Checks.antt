-- Checks give one fault, so a number that they give is exactly theirs.
use Prim.Native.Nat.{ℕ}
use native.Mathlib.Decide.{ℕ_discrete}
use mathlib.Core.Path.{◌≡◌, refl, sym, ◌∙◌, subst}
use mathlib.Core.Bool.{Bool, true, false, cond}
use mathlib.Core.Logic.{inl, inr}
use Rattle.signals.specs.Checks.{Check, FaultCheck, NoFault, Exactly}
use Rattle.signals.specs.Answers.{first_of}
use Rattle.signals.proofs.FirstFault.{first_is, next_is}

abbrev pub Single : (ℕ → Type 0) → Type 0
Single P = (n m : ℕ) → P n → P m → n ≡ m

pub none_single : Single NoFault
none_single n m a b = a ∙ sym b

pub check_single : {number : ℕ} {Broken : Type 0} {later : ℕ → Type 0} → Single later → Single (Check number Broken later)
check_single h n m (inl a) (inl b) = a.1 ∙ sym b.1
check_single h n m (inl a) (inr b) = absurd (b.0 a.0)
check_single h n m (inr a) (inl b) = absurd (a.0 b.0)
check_single h n m (inr a) (inr b) = h n m a.1 b.1

-- a check by its test
pub check_by : (number rest : ℕ) (Broken : Type 0) (later : ℕ → Type 0) (b : Bool) → (b ≡ true → Broken) → (b ≡ false → ¬ Broken)
    → (b ≡ false → later rest) → Check number Broken later (cond b number rest)
check_by number rest Broken later true held free next = inl (held refl, refl)
check_by number rest Broken later false held free next = inr (free refl, next refl)

pub fault_check : (own rest : ℕ) (later : ℕ → Type 0) → (own ≡ 0 → later rest) → FaultCheck own later (first_of own rest)
fault_check own rest later h = go (ℕ_discrete own 0)
  where
    go : Dec (own ≡ 0) → FaultCheck own later (first_of own rest)
    go (yes z) = inr ((λ o. o z), rw (next_is own rest z) (h z))
    go (no o) = inl (o, first_is own rest o)

-- past it, it was none
pub passed_check : (own fault : ℕ) (later : ℕ → Type 0) → (¬ (own ≡ 0) → ¬ (fault ≡ own)) → FaultCheck own later fault → (own ≡ 0)
    × later fault
passed_check own fault later other (inl a) = absurd (other a.0 a.1)
passed_check own fault later other (inr a) = go (ℕ_discrete own 0)
  where
    go : Dec (own ≡ 0) → (own ≡ 0) × later fault
    go (yes z) = (z, a.1)
    go (no o) = absurd (a.0 o)

pub exactly : (checks : ℕ → Type 0) (computed : ℕ) → Single checks → checks computed → Exactly checks computed
exactly checks computed single given fault = (λ e. subst checks e given, λ c. single computed fault given c)
