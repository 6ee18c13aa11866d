-- How many stretches a list's words make.
use Prim.Native.Nat.{ℕ, ◌+◌, ◌*◌, ◌≤◌}
use native.Mathlib.Omega.{arith}
use mathlib.Core.Path.{◌≡◌, refl, subst}
use mathlib.Core.Bool.{Bool, true, false, cond}
use mathlib.Core.List.{List, [], ◌∷◌}
use lib.Dec.{leb, ltb}
use lib.ListN.{length}
use Rattle.signals.specs.Signal.{num}
use Rattle.signals.specs.Words.{date_of, head_value, value_after, most_words, signal_of}
use Rattle.signals.specs.Normal.{Accepted}
use Rattle.signals.proofs.Normal.{accepted_normal}
use Rattle.stretches.specs.Stretches.{Stretch, stretches_before, stretch_words}
use Rattle.stretches.specs.Walk.{between, last_walked, walked}
use Rattle.stretches.proofs.Walking.{walk_exact}

pub two_words : (ss : List Stretch) → length (stretch_words ss) ≡ 2 * length ss
unfolding stretch_words
two_words [] = refl
two_words (s ∷ ss) = let e = two_words ss in omega (arith, e)

-- at most one in two words, and one more where the value held at first is up
last_few : (H : ℕ) (up : Bool) (from : ℕ) → length (last_walked H up from) ≤ num up
unfolding last_walked
last_few H true from = go (ltb from H)
  where
    go : (b : Bool) → length (cond b (between from H ∷ []) []) ≤ 1
    go true = omega arith
    go false = omega arith
last_few H false from = omega arith

walked_few : (H : ℕ) (up : Bool) (from : ℕ) (ws : List ℕ) → 2 * length (walked H up from ws) ≤ length ws + 1 + num up
unfolding walked
walked_few H up from [] = go up (last_few H up from)
  where
    go : (b : Bool) → length (last_walked H up from) ≤ num b → 2 * length (last_walked H up from) ≤ 0 + 1 + num b
    go true h = omega (arith, h)
    go false h = omega (arith, h)
walked_few H up from (w ∷ ws) =
    go (leb H (date_of w)) up (value_after w) (last_few H up from) (walked_few H true from ws) (walked_few H false (date_of w) ws)
    (walked_few H (value_after w) (date_of w) ws)
  where
    go : (t p a : Bool) → length (last_walked H up from) ≤ num p → 2 * length (walked H true from ws) ≤ length ws + 1 + 1
        → 2 * length (walked H false (date_of w) ws) ≤ length ws + 1 + 0
        → 2 * length (walked H (value_after w) (date_of w) ws) ≤ length ws + 1 + num (value_after w)
        → 2
        * length
        (cond t (last_walked H up from)
        (cond p
        (cond a (walked H true from ws) (between from (date_of w) ∷ walked H false (date_of w) ws))
        (walked H (value_after w) (date_of w) ws)))
        ≤ length (w ∷ ws) + 1 + num p
    go true true a l x y z = omega (arith, l)
    go true false a l x y z = omega (arith, l)
    go false true true l x y z = omega (arith, x)
    go false true false l x y z = omega (arith, y)
    go false false a l x y z = by (value_after w) z
      where
        by : (b : Bool) → 2 * length (walked H (value_after w) (date_of w) ws) ≤ length ws + 1 + num b
            → 2 * length (walked H (value_after w) (date_of w) ws) ≤ length (w ∷ ws) + 1 + 0
        by true h = omega (arith, h)
        by false h = omega (arith, h)

pub few_words : (l : List ℕ) (H : ℕ) → Accepted l → length (stretch_words (stretches_before (signal_of l) H)) ≤ most_words
few_words [] H a = absurd ((accepted_normal []).0 a).0
few_words (h ∷ ws) H a =
    subst (λ (ss : List Stretch). length (stretch_words ss) ≤ most_words) (walk_exact h ws H a)
    (go (head_value h) (walked_few H (head_value h) 0 ws))
  where
    go : (b : Bool) → 2 * length (walked H (head_value h) 0 ws) ≤ length ws + 1 + num b
        → length (stretch_words (walked H (head_value h) 0 ws)) ≤ most_words
    go true l = omega (arith, l, two_words (walked H (head_value h) 0 ws), ((accepted_normal (h ∷ ws)).0 a).1)
    go false l = omega (arith, l, two_words (walked H (head_value h) 0 ws), ((accepted_normal (h ∷ ws)).0 a).1)
