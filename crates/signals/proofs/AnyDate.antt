-- A signal that settles has one list, and two that settle one verdict, whatever date is taken.
use Prim.Native.Nat.{ℕ, ◌≤◌, ◌<◌}
use native.Mathlib.Omega.{arith}
use mathlib.Core.Path.{◌≡◌, refl, sym}
use mathlib.Core.Bool.{Bool, true, false}
use lib.Dec.{leb}
use borrow.Author.Tests.{leb-true, leb-false}
use Rattle.signals.specs.Signal.{Signal}
use Rattle.signals.specs.Settled.{SettledFrom}
use Rattle.signals.specs.Words.{list_of}
use Rattle.signals.specs.Implication.{verdict_of}
use Rattle.signals.proofs.Scan.{list_of_more}
use Rattle.signals.proofs.Implication.{verdict_judged}

-- what is the same at every later settling date is the same at any two
at_any_two : {A : Type 0} (P : ℕ → Type 0) (x : ℕ → A) → ((n m : ℕ) → P n → n ≤ m → x m ≡ x n) → (n m : ℕ) → P n → P m → x n ≡ x m
at_any_two P x later n m p q = go (leb n m) refl
  where
    go : (b : Bool) → leb n m ≡ b → x n ≡ x m
    go true e = sym (later n m p (leb-true n m e))
    go false e = let l : m < n = leb-false n m e in later m n q (omega arith)

pub one_list : (s : Signal) (n m : ℕ) → SettledFrom s n → SettledFrom s m → list_of s n ≡ list_of s m
one_list s n m p q = at_any_two (SettledFrom s) (list_of s) (λ a b. list_of_more s a b) n m p q

pub one_verdict : (f g : Signal) (n m : ℕ) → SettledFrom f n → SettledFrom g n → SettledFrom f m → SettledFrom g m
    → verdict_of f g n ≡ verdict_of f g m
one_verdict f g n m a b c d =
    at_any_two
    (λ k. SettledFrom f k × SettledFrom g k)
    (verdict_of f g)
    (λ k l p. (verdict_judged f g k p.0 p.1).steady l)
    n
    m
    (a, b)
    (c, d)
