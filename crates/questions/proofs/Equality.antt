-- The equality that is asked up to the later last date is that of the signals at every moment.
use Prim.Native.Nat.{ℕ}
use native.Mathlib.Omega.{arith}
use mathlib.Core.Path.{◌≡◌, refl, sym, ◌∙◌, ap}
use mathlib.Core.Logic.{◌⊎◌, inl, inr}
use mathlib.Core.Bool.{Bool, true, false, beq}
use mathlib.Core.List.{List}
use Rattle.signals.specs.Moment.{gap}
use Rattle.signals.specs.Signal.{Signal, every}
use Rattle.signals.specs.Words.{pair_fault, signal_of}
use Rattle.signals.specs.Settled.{Same}
use Rattle.signals.specs.Normal.{Accepted}
use Rattle.signals.specs.Quantified.{Up, Down}
use Rattle.signals.specs.declared.Told.TheVariants.{Yes, No}
use Rattle.signals.proofs.Truth.{up_or_down, not_both_lem, every_of}
use Rattle.signals.proofs.Normal.{unique_accepted}
use Rattle.questions.specs.Questions.{later_last, agreeing, equal_of}
use Rattle.questions.specs.Equality.{Equality}
use Rattle.questions.proofs.LaterLast.{settled_a, settled_b, not_every}
use Rattle.signals.specs.Answers.{first_of, told_of, told_value}

same_of : (p q : Bool) → beq p q ≡ true → p ≡ q
same_of true true h = refl
same_of true false h = sym h
same_of false true h = h
same_of false false h = refl

beq_refl : (p : Bool) → beq p p ≡ true
beq_refl true = refl
beq_refl false = refl

agree_same : (f g : Signal) (t : ℕ) → Up (agreeing f g t) → f t ≡ g t
unfolding agreeing
agree_same f g t h = same_of (f t) (g t) h

same_agree : (f g : Signal) (t : ℕ) → f t ≡ g t → Up (agreeing f g t)
unfolding agreeing
same_agree f g t e = rw e (beq_refl (g t))

module _ (a b : List ℕ) (za : Accepted a) (zb : Accepted b) where
  abbrev all : Bool
  all = every (agreeing (signal_of a) (signal_of b)) (gap (later_last a b))

  told : equal_of a b ≡ told_value all
  unfolding equal_of told_of pair_fault first_of
  told = rw (za, zb)

  same_all : Same (signal_of a) (signal_of b) → all ≡ true
  same_all s = every_of (agreeing (signal_of a) (signal_of b)) (gap (later_last a b))
      (λ u l. same_agree (signal_of a) (signal_of b) u (s u))

  all_same : all ≡ true → Same (signal_of a) (signal_of b)
  all_same h t = go (up_or_down (agreeing (signal_of a) (signal_of b) t))
    where
      go : Up (agreeing (signal_of a) (signal_of b) t) ⊎ Down (agreeing (signal_of a) (signal_of b) t) → signal_of a t ≡ signal_of b t
      go (inl u) = agree_same (signal_of a) (signal_of b) t u
      go (inr d) =
          absurd (not_both_lem h (not_every (signal_of a) (signal_of b) (later_last a b) t (settled_a a b za zb) (settled_b a b za zb) d))

yes_up : (v : Bool) → told_value v ≡ Yes → v ≡ true
yes_up true h = refl
yes_up false h = let z : ◌≡◌ {A = ℕ} 0 1 = cc in absurd (omega arith)

no_down : (v : Bool) → told_value v ≡ No → v ≡ false
no_down true h = let z : ◌≡◌ {A = ℕ} 0 1 = cc in absurd (omega arith)
no_down false h = refl

module _ (a b : List ℕ) (za : Accepted a) (zb : Accepted b) where
  yes_same : equal_of a b ≡ Yes → Same (signal_of a) (signal_of b)
  yes_same h = all_same a b za zb (yes_up (all a b za zb) (sym (told a b za zb) ∙ h))

  same_yes : Same (signal_of a) (signal_of b) → equal_of a b ≡ Yes
  same_yes s = told a b za zb ∙ ap told_value (same_all a b za zb s)

  no_other_lem : equal_of a b ≡ No → Same (signal_of a) (signal_of b) → ⊥
  no_other_lem h s = not_both_lem (same_all a b za zb s) (no_down (all a b za zb) (sym (told a b za zb) ∙ h))

  go_either : (v : Bool) → all a b za zb ≡ v → (equal_of a b ≡ Yes) ⊎ (equal_of a b ≡ No)
  go_either true e = inl (told a b za zb ∙ ap told_value e)
  go_either false e = inr (told a b za zb ∙ ap told_value e)

  other_no : (Same (signal_of a) (signal_of b) → ⊥) → (equal_of a b ≡ Yes) ⊎ (equal_of a b ≡ No) → equal_of a b ≡ No
  other_no n (inl y) = absurd (n (yes_same y))
  other_no n (inr h) = h

pub equality : Equality
equality a b za zb =
    let one : (equal_of a b ≡ Yes) ⊎ (equal_of a b ≡ No) = go_either a b za zb (all a b za zb) refl in
    record {
      yes = (yes_same a b za zb, same_yes a b za zb);
      no = (no_other_lem a b za zb, λ n. other_no a b za zb n one);
      either = one;
      words = (λ h. unique_accepted a b za zb (yes_same a b za zb h), λ e. same_yes a b za zb (λ t. ap (λ l. signal_of l t) e));
    }
