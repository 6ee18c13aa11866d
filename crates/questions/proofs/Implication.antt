-- The verdict on two accepted lists is that on their signals.
use Prim.Native.Nat.{ℕ}
use mathlib.Core.Path.{◌≡◌}
use mathlib.Core.List.{List}
use Rattle.signals.specs.Moment.{gap, instant}
use Rattle.signals.specs.Words.{pair_fault, signal_of}
use Rattle.signals.specs.Normal.{Accepted}
use Rattle.signals.specs.Implication.{verdict_of}
use Rattle.signals.proofs.Implication.{verdict_judged, fails_in_instant, fails_in_gap}
use Rattle.questions.specs.Questions.{later_last, implies_of}
use Rattle.questions.specs.Implication.{Implication}
use Rattle.questions.proofs.LaterLast.{settled_a, settled_b}
use Rattle.signals.specs.Answers.{first_of, verdict_for}

pub verdict_is : (a b : List ℕ) → Accepted a → Accepted b → implies_of a b ≡ verdict_of (signal_of a) (signal_of b) (later_last a b)
unfolding implies_of verdict_for pair_fault first_of
verdict_is a b za zb = rw (za, zb)

pub implication : Implication
implication a b za zb =
    let j = verdict_judged (signal_of a) (signal_of b) (later_last a b) (settled_a a b za zb) (settled_b a b za zb) in
    record {
      said = rw (verdict_is a b za zb) j.said;
      fails_at = λ k last l.
          rw (verdict_is a b za zb) (rw (fails_in_instant k last l) at (j.said.fails (record { first = instant k; last = last })));
      fails_after = λ k last.
          rw (verdict_is a b za zb) (rw (fails_in_gap k last) at (j.said.fails (record { first = gap k; last = last })));
    }
