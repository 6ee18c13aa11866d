-- Without a fault none of the checks has one: at most 1,000 moments, room for them, at most 256 words passed.
use Prim.Native.Nat.{ℕ, ◌≤◌, ◌<◌}
use native.Mathlib.Omega.{arith}
use mathlib.Core.Path.{◌≡◌, refl}
use mathlib.Core.Bool.{Bool, true, false, cond}
use mathlib.Core.List.{List}
use mathlib.Core.Logic.{inr}
use lib.Dec.{ltb}
use lib.ListN.{length}
use borrow.Author.Tests.{ltb-false}
use Rattle.signals.specs.Words.{list_fault}
use Rattle.signals.specs.Answers.{first_of}
use Rattle.signals.proofs.FirstFault.{both_none}
use Rattle.signals.proofs.Normal.{accepted_normal}
use Rattle.columns.specs.Columns.{order_fault, moments_fault, words_passed, column_fault}
use Rattle.columns.proofs.RisingMoments.{rises}
use Rattle.columns.proofs.PassedWords.{passed_by}

pub record Fine (l ms : List ℕ) (room : ℕ) : Type 0 where
  pub list : list_fault l ≡ 0
  pub few : words_passed l ms ≤ 256
  pub most : length ms ≤ 1000
  pub moments : moments_fault ms ≡ 0
  pub fits : length ms ≤ room

pub fine : (l ms : List ℕ) (room : ℕ) → column_fault l ms room ≡ 0 → Fine l ms room
unfolding column_fault
fine l ms room z =
    let a = both_none (list_fault l) (first_of (order_fault ms) (first_of (moments_fault ms) short)) z in
    let b = both_none (order_fault ms) (first_of (moments_fault ms) short) a.1 in
    let c = both_none (moments_fault ms) short b.1 in
    let many : ¬ (1000 < length ms) = λ h. rises ms b.0 (inr h) in
    record {
      list = a.0;
      few = omega (arith, (passed_by l ms a.0).within, ((accepted_normal l).0 a.0).1);
      most = omega (arith, many);
      moments = c.0;
      fits = go (ltb room (length ms)) refl c.1;
    }
  where
    short : ℕ
    short = cond (ltb room (length ms)) 7 0

    go : (t : Bool) → ltb room (length ms) ≡ t → ◌≡◌ {A = ℕ} (cond t 7 0) 0 → length ms ≤ room
    go true e h = absurd (omega (arith, h))
    go false e h = ltb-false room (length ms) e
