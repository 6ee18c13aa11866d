-- What a call in a slot answers once the exact answer is built there.
use mathlib.Core.Path.{◌≡◌}
use Prim.Native.Nat.{ℕ}
use mathlib.Core.List.{List}
use Rattle.building.specs.Slots.{built_answer, made_answer}
use Rattle.building.specs.declared.Made.{Made}
use Rattle.building.proofs.Built.{Built}

pub built_answer_lem : (exact old slot : List ℕ) (made : Made) → Built exact old slot made → made_answer made ≡ built_answer exact
unfolding made_answer built_answer
built_answer_lem exact old slot made b = rw (b.count_is, b.late_is)
