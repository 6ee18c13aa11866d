-- What follows for signals that settle: equal normal lists and equal verdicts on either side of a claim.
use Prim.Native.Nat.{ℕ}
use mathlib.Core.Path.{◌≡◌, ◌∙◌, ap}
use Rattle.signals.specs.Signal.{Signal}
use Rattle.signals.specs.Settled.{SettledFrom}
use Rattle.signals.specs.Words.{list_of}
use Rattle.signals.specs.Implication.{verdict_of}
use Rattle.signals.proofs.AnyDate.{one_list, one_verdict}
use Rattle.grammar.specs.Tree.{signal}
use Rattle.laws.specs.Soundness.{RewritingKeepsTheList, SameVerdicts, RewritingKeepsVerdicts}
use Rattle.laws.proofs.Soundness.{same_signal}

lists : (f g : Signal) → f ≡ g → (n m : ℕ) → SettledFrom f n → SettledFrom g m → list_of f n ≡ list_of g m
lists f g e n m p q = one_list f n m p (rw e q) ∙ ap (λ s. list_of s m) e

verdicts : (f g third : Signal) → f ≡ g → (n m : ℕ) → SettledFrom f n → SettledFrom third n → SettledFrom g m → SettledFrom third m →
    SameVerdicts f g third n m
verdicts f g third e n m a b c d =
    record {
      as_second = one_verdict f third n m a b (rw e c) d ∙ ap (λ s. verdict_of s third m) e;
      as_first = one_verdict third f n m b a d (rw e c) ∙ ap (λ s. verdict_of third s m) e;
    }

pub rewriting_keeps_the_list : RewritingKeepsTheList
rewriting_keeps_the_list F G w env n m p q = lists (signal env F) (signal env G) (same_signal F G w env) n m p q

pub rewriting_keeps_verdicts : RewritingKeepsVerdicts
rewriting_keeps_verdicts F G w env third n m a b c d =
    verdicts (signal env F) (signal env G) third (same_signal F G w env) n m a b c d
