-- The cases of a delay's mirror definitions, from the tests that the code makes.
use Prim.Native.Nat.{ℕ}
use mathlib.Core.Path.{◌≡◌, ◌∙◌, ap}
use mathlib.Core.Bool.{Bool, true, false, cond}
use Rattle.timing.specs.Delay.{timer, pending, risen, timer_next}
use Rattle.timing.specs.declared.Timer.{Timer}

module _ (s : Timer) (d date : ℕ) (at value : Bool) where
  pub next_up : value ≡ true → s.level ≡ true → timer_next s d date at value ≡ s
  unfolding timer_next
  next_up v l =
      ap (λ (x : Bool). cond x (cond s.level s (risen (cond s.waiting s (pending date at d)) date at)) (timer false false date at)) v
      ∙ ap (λ (x : Bool). cond x s (risen (cond s.waiting s (pending date at d)) date at)) l

  pub next_waiting : value ≡ true → s.level ≡ false → s.waiting ≡ true → timer_next s d date at value ≡ risen s date at
  unfolding timer_next
  next_waiting v l w =
      ap (λ (x : Bool). cond x (cond s.level s (risen (cond s.waiting s (pending date at d)) date at)) (timer false false date at)) v
      ∙ ap (λ (x : Bool). cond x s (risen (cond s.waiting s (pending date at d)) date at)) l
      ∙ ap (λ (x : Bool). risen (cond x s (pending date at d)) date at) w

  pub next_new : value ≡ true → s.level ≡ false → s.waiting ≡ false → timer_next s d date at value ≡ risen (pending date at d) date at
  unfolding timer_next
  next_new v l w =
      ap (λ (x : Bool). cond x (cond s.level s (risen (cond s.waiting s (pending date at d)) date at)) (timer false false date at)) v
      ∙ ap (λ (x : Bool). cond x s (risen (cond s.waiting s (pending date at d)) date at)) l
      ∙ ap (λ (x : Bool). risen (cond x s (pending date at d)) date at) w

  pub next_down : value ≡ false → timer_next s d date at value ≡ timer false false date at
  unfolding timer_next
  next_down v =
      ap (λ (x : Bool). cond x (cond s.level s (risen (cond s.waiting s (pending date at d)) date at)) (timer false false date at)) v
