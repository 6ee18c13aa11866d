-- The law of `implies_at`: of two accepted lists the scans find the verdict of the implication.
use Prim.Native.Nat.{ℕ}
use mathlib.Core.Path.{◌≡◌}
use mathlib.Core.List.{List}
use Rattle.slices.specs.Bytes.{Words}
use Rattle.signals.specs.Words.{list_fault, pair_fault}
use Rattle.signals.specs.Answers.{first_of, verdict_for}
use Rattle.signals.specs.declared.Verdict.{Verdict}
use Rattle.questions.specs.Questions.{implies_of}
use Rattle.comparing.specs.Finding.{Found}
use Rattle.comparing.proofs.Verdicts.{found_verdict}

no_fault : (f g : List ℕ) → list_fault f ≡ 0 → list_fault g ≡ 0 → pair_fault f g ≡ 0
unfolding pair_fault first_of
no_fault f g zf zg = rw (zf, zg)

pub implies_exact : (f g : List ℕ) (v : Verdict) → list_fault f ≡ 0 → list_fault g ≡ 0 → Words f → Words g → Found f g v → v ≡
    implies_of f g
unfolding implies_of verdict_for
implies_exact f g v zf zg wf wg h = rw (no_fault f g zf zg) (found_verdict f g wf wg zf zg v h)
