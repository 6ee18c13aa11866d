-- Truth values and bounded quantifiers over moments, one direction a lemma.
use Prim.Native.Nat.{ℕ, zero, suc, ◌≤◌, ◌<◌}
use native.Mathlib.Omega.{arith}
use mathlib.Core.Path.{◌≡◌, refl, sym, ◌∙◌, ap}
use mathlib.Core.Logic.{◌⊎◌, inl, inr}
use mathlib.Core.Bool.{Bool, true, false, not, ◌&&◌, ◌||◌, true≢false, false≢true}
use lib.Dec.{leb}
use borrow.Author.Tests.{leb-true, leb-false}
use Rattle.signals.specs.Signal.{implied, some, every}
use Rattle.signals.specs.Quantified.{Up, Down}

-- two truth values are equal if each is up when the other is
pub bool_ext : (a b : Bool) → (Up a → Up b) → (Up b → Up a) → a ≡ b
bool_ext true b f g = sym (f refl)
bool_ext false true f g = absurd (false≢true (g refl))
bool_ext false false f g = refl

pub up_or_down : (b : Bool) → Up b ⊎ Down b
up_or_down true = inl refl
up_or_down false = inr refl

pub true_false : {A : Type 0} → ◌≡◌ {A = Bool} true false → A
true_false e = absurd (true≢false e)

pub not_both_lem : {b : Bool} {A : Type 0} → Up b → Down b → A
not_both_lem u d = absurd (true≢false (sym u ∙ d))

-- down where it cannot be up
pub down_of : (b : Bool) → (Up b → ⊥) → Down b
down_of true f = absurd (f refl)
down_of false f = refl

pub not_up : (b : Bool) → Up (not b) → Down b
not_up true e = sym e
not_up false e = refl

pub not_down : (b : Bool) → Down (not b) → Up b
not_down true e = refl
not_down false e = true_false e

pub not_of : {b : Bool} → Down b → Up (not b)
not_of e = ap not e

pub and_left : (a b : Bool) → Up (a && b) → Up a
and_left true b e = refl
and_left false b e = e

pub and_right : (a b : Bool) → Up (a && b) → Up b
and_right true b e = e
and_right false b e = absurd (false≢true e)

pub and_of : (a b : Bool) → Up a → Up b → Up (a && b)
and_of true b p q = q
and_of false b p q = p

pub or_cases : (a b : Bool) → Up (a || b) → Up a ⊎ Up b
or_cases true b e = inl refl
or_cases false b e = inr e

pub or_left : (a b : Bool) → Up a → Up (a || b)
or_left true b p = refl
or_left false b p = absurd (false≢true p)

pub or_right : (a b : Bool) → Up b → Up (a || b)
or_right true b p = refl
or_right false b p = p

-- neither is up where their disjunction is down
pub neither_left : (a b : Bool) → Down (a || b) → Down a
neither_left true b e = e
neither_left false b e = refl

pub neither_right : (a b : Bool) → Down (a || b) → Down b
neither_right true b e = true_false e
neither_right false b e = e

pub implied_use : (p q : Bool) → Up (implied p q) → Up p → Up q
implied_use true q e u = e
implied_use false q e u = absurd (false≢true u)

pub implied_of : (p q : Bool) → (Up p → Up q) → Up (implied p q)
implied_of true q f = f refl
implied_of false q f = refl

-- some moment up to m
pub some_up : (p : ℕ → Bool) (m : ℕ) → Up (some p m) → (n : ℕ) × (n ≤ m) × Up (p n)
unfolding some
some_up p zero e = (zero, omega arith, e)
some_up p (suc m) e = go (some_up p m) (or_cases (some p m) (p (suc m)) e)
  where
    go : (Up (some p m) → (n : ℕ) × (n ≤ m) × Up (p n)) → Up (some p m) ⊎ Up (p (suc m)) → (n : ℕ) × (n ≤ suc m) × Up (p n)
    go h (inl u) = let (n, l, w) = h u in (n, omega arith, w)
    go h (inr u) = (suc m, omega arith, u)

-- a number is at most another, or after it
pub at_or_after : (t u : ℕ) → (t ≤ u) ⊎ (u < t)
at_or_after t u = go (leb t u) refl
  where
    go : (b : Bool) → leb t u ≡ b → (t ≤ u) ⊎ (u < t)
    go true e = inl (leb-true t u e)
    go false e = inr (leb-false t u e)

-- a number up to suc m is up to m, or suc m
pub le_cases : (n m : ℕ) → n ≤ suc m → (n ≤ m) ⊎ (n ≡ suc m)
le_cases n m l = go (leb n m) refl
  where
    go : (b : Bool) → leb n m ≡ b → (n ≤ m) ⊎ (n ≡ suc m)
    go true e = inl (leb-true n m e)
    go false e = inr (omega (arith, leb-false n m e))

le_zero : (n : ℕ) → n ≤ zero → n ≡ zero
le_zero n l = omega arith

pub some_of : (p : ℕ → Bool) (m n : ℕ) → n ≤ m → Up (p n) → Up (some p m)
unfolding some
some_of p zero n l u = rw (← (le_zero n l)) u
some_of p (suc m) n l u = go (some_of p m n) (le_cases n m l)
  where
    go : (n ≤ m → Up (p n) → Up (some p m)) → (n ≤ m) ⊎ (n ≡ suc m) → Up (some p m || p (suc m))
    go h (inl l) = or_left (some p m) (p (suc m)) (h l u)
    go h (inr e) = or_right (some p m) (p (suc m)) (rw (← e) u)

-- every moment up to m
pub every_up : (p : ℕ → Bool) (m : ℕ) → Up (every p m) → (n : ℕ) → n ≤ m → Up (p n)
unfolding every
every_up p zero e n l = rw (le_zero n l) e
every_up p (suc m) e n l = go (every_up p m) (le_cases n m l)
  where
    go : (Up (every p m) → (n : ℕ) → n ≤ m → Up (p n)) → (n ≤ m) ⊎ (n ≡ suc m) → Up (p n)
    go h (inl l) = h (and_left (every p m) (p (suc m)) e) n l
    go h (inr q) = rw q (and_right (every p m) (p (suc m)) e)

pub every_of : (p : ℕ → Bool) (m : ℕ) → ((n : ℕ) → n ≤ m → Up (p n)) → Up (every p m)
unfolding every
every_of p zero h = h zero (omega arith)
every_of p (suc m) h =
    and_of (every p m) (p (suc m)) (every_of p m (λ n l. h n (omega arith))) (h (suc m) (omega arith))
