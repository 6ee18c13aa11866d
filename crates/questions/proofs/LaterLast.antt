-- Two accepted lists' signals are constant from the later last date on, so a moment at which they differ is told up to it.
use Prim.Native.Nat.{ℕ, ◌≤◌}
use native.Mathlib.Omega.{arith}
use mathlib.Core.Path.{◌≡◌, refl, sym, ◌∙◌}
use mathlib.Core.Bool.{Bool, true, false}
use mathlib.Core.List.{List}
use lib.Dec.{leb}
use borrow.Author.Tests.{leb-true, leb-false}
use Rattle.signals.specs.Moment.{gap}
use Rattle.signals.specs.Signal.{Signal, every}
use Rattle.signals.specs.Words.{list_fault, signal_of, last_date}
use Rattle.signals.specs.Settled.{SettledFrom}
use Rattle.signals.specs.Quantified.{Up, Down}
use Rattle.signals.proofs.Truth.{down_of, not_both_lem, every_up}
use Rattle.signals.proofs.Settling.{settled_later}
use Rattle.signals.proofs.Normal.{accepted_settled}
use Rattle.questions.specs.Questions.{later_last, agreeing}

module _ (a b : List ℕ) (za : list_fault a ≡ 0) (zb : list_fault b ≡ 0) where
  pub settled_a : SettledFrom (signal_of a) (later_last a b)
  unfolding later_last
  settled_a = settled_later (signal_of a) (last_date a) (later_last a b) (accepted_settled a za) (omega arith)

  pub settled_b : SettledFrom (signal_of b) (later_last a b)
  unfolding later_last
  settled_b = settled_later (signal_of b) (last_date b) (later_last a b) (accepted_settled b zb) (omega arith)

-- a moment with two values, early enough
settled_agree : (f g : Signal) (n t : ℕ) → SettledFrom f n → SettledFrom g n → gap n ≤ t → agreeing f g t ≡ agreeing f g (gap n)
unfolding agreeing
settled_agree f g n t sf sg l = rw (sf t l, sg t l)

pub not_every : (f g : Signal) (n t : ℕ) → SettledFrom f n → SettledFrom g n → Down (agreeing f g t) → every (agreeing f g) (gap n) ≡ false
not_every f g n t sf sg d = down_of (every (agreeing f g) (gap n)) (λ all. go (leb t (gap n)) refl all)
  where
    go : (b : Bool) → leb t (gap n) ≡ b → Up (every (agreeing f g) (gap n)) → ⊥
    go true q all = not_both_lem (every_up (agreeing f g) (gap n) all t (leb-true t (gap n) q)) d
    go false q all =
        not_both_lem
        (every_up (agreeing f g) (gap n) all (gap n) (omega arith))
        (sym (settled_agree f g n t sf sg (omega (arith, leb-false t (gap n) q))) ∙ d)
