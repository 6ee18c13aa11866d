-- The cases of stretches: each list walked.
use Prim.Native.Nat.{ℕ, ◌-◌, ◌<◌}
use native.Mathlib.Omega.{arith}
use mathlib.Core.Path.{◌≡◌, refl, sym, ap, ◌∙◌}
use mathlib.Core.Bool.{Bool, true, false, not, cond}
use mathlib.Core.List.{List, [], ◌∷◌}
use lib.Dec.{leb, ltb}
use borrow.Author.Tests.{lt-ltb, lt-leb}
use Rattle.signals.specs.Moment.{M, gap}
use Rattle.signals.specs.Signal.{NOT, constant}
use Rattle.signals.specs.Words.{date_of, value_after, head_value, list_fault, words_fault, changes_nothing, value_at, signal_of, value_from}
use Rattle.signals.specs.Starred.{f, e, l, one}
use Rattle.signals.proofs.Truth.{true_false, down_of}
use Rattle.signals.proofs.Starred.{starred}
use Rattle.stretches.specs.Stretches.{Stretch, begins, up_for, stretches_from, stretches_before, sum_of_ticks, stretch_words}
use Rattle.stretches.specs.StretchCases.{stretch, StretchCases}
use Rattle.stretches.specs.Walk.{between, last_walked, walked}
use Rattle.stretches.proofs.Walking.{walk_exact}
use Rattle.stretches.proofs.Totals.{totals}

f_walked : (H : ℕ) → stretches_before f H ≡ walked H false 0 (23 ∷ 36 ∷ [])
unfolding list_fault words_fault changes_nothing value_at value_after head_value date_of
f_walked H = sym (walk_exact 0 (23 ∷ 36 ∷ []) H refl)

-- e is down in every gap
e_gaps : (k : ℕ) → e (gap k) ≡ false
e_gaps k = down_of (e (gap k)) (λ u. omega (arith, (starred.e_reads (gap k)).0 u))

up_always_lem : (H : ℕ) → 0 < H → stretches_before one H ≡ stretch 0 H ∷ []
unfolding constant signal_of value_from list_fault words_fault head_value walked last_walked
up_always_lem H h =
    let z : H - 0 ≡ H = omega arith in
    totals.gaps_alone one (signal_of (1 ∷ [])) H (λ k x. refl) ∙ sym (walk_exact 1 [] H refl) ∙ go (ltb 0 H) (lt-ltb 0 H h)
    ∙ ap (λ (n : ℕ). stretch 0 n ∷ []) z
  where
    go : (b : Bool) → b ≡ true → cond b (between 0 H ∷ []) [] ≡ between 0 H ∷ []
    go true p = refl
    go false p = true_false (sym p)

up_after_lem : (H : ℕ) → 5 < H → stretches_before l H ≡ stretch 5 (H - 5) ∷ []
unfolding list_fault words_fault changes_nothing value_at value_after head_value date_of walked last_walked
up_after_lem H h = sym (walk_exact 0 (21 ∷ []) H refl) ∙ go (leb H 5) (lt-leb H 5 h) (ltb 5 H) (lt-ltb 5 H h)
  where
    go : (a : Bool) → a ≡ false → (b : Bool) → b ≡ true → cond a [] (cond b (between 5 H ∷ []) []) ≡ between 5 H ∷ []
    go true p b q = true_false p
    go false p true q = refl
    go false p false q = true_false (sym q)

lone_up_lem : (H : ℕ) → stretches_before e H ≡ []
unfolding list_fault words_fault changes_nothing value_at value_after head_value date_of walked last_walked
lone_up_lem H = sym (walk_exact 0 (22 ∷ []) H refl) ∙ go (leb H 5)
  where
    go : (a : Bool) → ◌≡◌ {A = List Stretch} (cond a [] []) []
    go true = refl
    go false = refl

pub stretch_cases : StretchCases
unfolding NOT constant walked last_walked date_of value_after stretches_before stretches_from begins up_for signal_of value_from
    head_value value_at
    stretch_words sum_of_ticks
stretch_cases =
    record {
      f8 = f_walked 8;
      f8words = ap stretch_words (f_walked 8);
      f8total = ap sum_of_ticks (f_walked 8);
      f5 = f_walked 5;
      f6 = f_walked 6;
      f9 = f_walked 9;
      f10 = f_walked 10;
      f_m = f_walked M;
      lone_up = lone_up_lem;
      lone_down = λ H h. totals.gaps_alone (NOT e) one H (λ k x. ap not (e_gaps k)) ∙ up_always_lem H h;
      up_always = up_always_lem;
      up_after = up_after_lem;
      turned = refl;
    }
