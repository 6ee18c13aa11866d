-- The fault of a part's operation is none of 0.
use Prim.Native.Nat.{ℕ, ◌<◌}
use native.Mathlib.Omega.{arith}
use mathlib.Core.Path.{◌≡◌, refl, sym, ◌∙◌}
use mathlib.Core.Bool.{Bool, true, false}
use mathlib.Core.List.{List}
use lib.Dec.{ltb}
use borrow.Author.Tests.{ltb-true, ltb-false}
use Rattle.signals.specs.Moment.{M}
use Rattle.signals.specs.declared.Written.{Written}
use Rattle.signals.specs.declared.Written.TheVariants.{Refused}
use Rattle.building.specs.Slots.{made_answer}
use Rattle.building.specs.declared.SlotAnswer.{SlotAnswer}
use Rattle.building.specs.declared.SlotAnswer.TheVariants.{Stands, TooLong, TooLate, NotBegun}
use Rattle.lent_slots.specs.Lent.{Engine}
use Rattle.applying.specs.PartCalls.{part_answer}
use Rattle.applying.specs.Applied.{TimedInto, AppliedInBy}

numbered : (g : SlotAnswer) (fault : ℕ) → Refused fault ≡ part_answer g → fault ≡ 0 → ⊥
numbered (Stands n) fault e z = cc
numbered TooLong fault e z = let k : fault ≡ 5 = cc in absurd (omega arith)
numbered TooLate fault e z = let k : fault ≡ 6 = cc in absurd (omega arith)
numbered NotBegun fault e z = let k : fault ≡ 5 = cc in absurd (omega arith)

timed : (engine : Engine) (d : ℕ) (a before slot : List ℕ) (answer : Written) → TimedInto engine d a before slot answer
    → (fault : ℕ) → answer ≡ Refused fault → fault ≡ 0 → ⊥
timed engine d a before slot answer t fault e z = go (ltb M d) refl
  where
    go : (b : Bool) → ltb M d ≡ b → ⊥
    go true q =
        let k : Refused fault ≡ Refused 5 = sym e ∙ (t.past_M (ltb-true M d q)).0 in
        let n : fault ≡ 5 = cc in
        absurd (omega arith)
    go false q = numbered (made_answer (engine a before).made) fault (sym e ∙ (t.ran (ltb-false M d q)).0) z

pub refused_by : (x y : Bool) (w : ℕ) (a b before slot : List ℕ) (answer : Written) → AppliedInBy x y w a b before slot answer
    → (fault : ℕ) → answer ≡ Refused fault → fault ≡ 0 → ⊥
refused_by true y w a b before slot answer m fault e z = numbered (made_answer m.made) fault (sym e ∙ m.answer_is) z
refused_by false true w a b before slot answer m fault e z = numbered (made_answer m.made) fault (sym e ∙ m.answer_is) z
refused_by false false w a b before slot answer m fault e z = timed _ _ a before slot answer m fault e z
