-- Fronts of bytes: where a front of joined bytes ends, and how far bytes that begin with a front go.
use Prim.Native.Nat.{ℕ, zero, suc, ◌≤◌}
use native.Mathlib.Omega.{arith}
use mathlib.Core.Path.{◌≡◌, refl}
use mathlib.Core.Bool.{Bool, true}
use mathlib.Core.List.{List, [], ◌∷◌, ◌++◌}
use lib.ListN.{length, take}
use borrow.Author.Tests.{eq-eqb}
use Rattle.names.specs.Names.{all_of}
use Rattle.grammar.specs.Reader.{run, shared}
use Rattle.signals.proofs.Truth.{and_left, and_right, and_of}

-- a front of bytes with a byte between them ends in the first, or goes past that byte
pub by_front : (P : List ℕ → Type 0) (w : List ℕ) (byte : ℕ) (v : List ℕ) → ((k : ℕ) → P (take k w)) →
    ((k : ℕ) → P (w ++ (byte ∷ take k v))) → (k : ℕ) → P (take k (w ++ (byte ∷ v)))
by_front P [] byte v f g zero = f 0
by_front P [] byte v f g (suc k) = g k
by_front P (b ∷ w) byte v f g zero = f 0
by_front P (b ∷ w) byte v f g (suc k) = by_front (λ x. P (b ∷ x)) w byte v (λ k. f (suc k)) g k

-- what all bytes have, all of a front have
pub all_front : (p : ℕ → Bool) (k : ℕ) (w : List ℕ) → all_of p w ≡ true → all_of p (take k w) ≡ true
unfolding all_of
all_front p zero w e = refl
all_front p (suc k) [] e = refl
all_front p (suc k) (b ∷ w) e =
    and_of (p b) (all_of p (take k w)) (and_left (p b) (all_of p w) e) (all_front p k w (and_right (p b) (all_of p w) e))

-- a run goes past bytes that have its property
pub run_past : (p : ℕ → Bool) (x l : List ℕ) → all_of p x ≡ true → length x ≤ run p (x ++ l)
unfolding run all_of
run_past p [] l e = omega arith
run_past p (b ∷ x) l e =
    rw (and_left (p b) (all_of p x) e) (omega (arith, run_past p x l (and_right (p b) (all_of p x) e)))

-- a front of a word is shared with it
pub shared_front : (w v l : List ℕ) (k : ℕ) → length (take k w) ≤ shared (w ++ v) (take k w ++ l)
unfolding shared
shared_front [] v l zero = omega arith
shared_front [] v l (suc k) = omega arith
shared_front (b ∷ w) v l zero = omega arith
shared_front (b ∷ w) v l (suc k) = rw (eq-eqb b b refl) (omega (arith, shared_front w v l k))
